use Rattle.std.proofs.Common.{arith}
use Rattle.book.specs.Batches.{admitted}
use Rattle.grouped.proofs.FirstLastGroupsAccumulator.admits.Goals as goal

pub returns-then-passes : goal.returns-then-passes
unfolding admitted
returns-then-passes g c = grind arith

pub returns-else-passes : goal.returns-else-passes
unfolding admitted
returns-else-passes g c = grind arith
