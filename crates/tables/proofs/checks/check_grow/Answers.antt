use Rattle.std.proofs.Common.{rules}
use Rattle.tables.specs.Refusals.{growing}
use Rattle.tables.proofs.checks.check_grow.Goals as goal

pub returns-then-total-gt256 : goal.returns-then-total-gt256
unfolding growing
returns-then-total-gt256 c = search rules

pub returns-then-total-held : goal.returns-then-total-held
unfolding growing
returns-then-total-held c = search rules

pub returns : goal.returns
unfolding growing
returns c = search rules
