use Rattle.std.proofs.Common.{rules}
use Rattle.tables.specs.Refusals.{dropping}
use Rattle.tables.proofs.checks.check_drop.Goals as goal

pub returns-then-n-held : goal.returns-then-n-held
unfolding dropping
returns-then-n-held c = search rules

pub returns : goal.returns
unfolding dropping
returns c = search rules
