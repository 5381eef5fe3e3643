use Rattle.std.proofs.lemmas.Bool.{not-true}
use Rattle.keeping.specs.Seen.{given_seen}
use Rattle.grouped.specs.Accumulators.{making}
use Rattle.grouped.proofs.Walking.{all_admitted}
use Rattle.grouped.proofs.FirstLastGroupsAccumulator.admits_all.Goals as goal

pub returns-then-is_none : goal.returns-then-is_none
returns-then-is_none g c = λ h r. all_admitted (making c.args.self.now) (given_seen c.args.batch.now.columns) c.args.batch.now.filter c.is_none.result r c.is_none.ensures c.if-is_none.true (not-true _ h)
