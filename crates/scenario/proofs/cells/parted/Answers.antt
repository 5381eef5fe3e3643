use Rattle.scenario.proofs.Slashes.{parted_at}
use Rattle.scenario.proofs.cells.parted.Goals as goal

pub returns : goal.returns
returns c = rw c.ok_or.ensures.value (parted_at c.args.text.now c.split_once.result c.split_once.ensures.cases)
