use Rattle.grouped.proofs.Gaining.{grown_keeps}
use Rattle.grouped.proofs.FirstLastGroupsAccumulator.grow.Goals as goal

pub returns-clause-keeps : goal.returns-clause-keeps
returns-clause-keeps g c =
    grown_keeps c.args.self.now c.grow.new.self c.grow-2.new.self c.grow.ensures.made c.args.total c.requires.more c.requires.room c.grow.ensures.values c.grow.ensures.ranks c.grow-2.ensures.flags
