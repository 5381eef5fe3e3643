-- Rules: the numbers that stand for rules in a value column.
--   rule_code   the number of each rule
--   Names       a rule, or a refusal, is the one that a number stands for
use Rattle.std.specs.Prelude.{◌≡◌, ℤ, pos, Ok, Err, Result, ◌≢◌}
use Rattle.quay.specs.declared.rules.NoRule.{NoRule}
use Rattle.quay.specs.declared.rules.Rule.{Rule}
use Rattle.quay.specs.declared.rules.Rule.TheVariants.{Breakdown, ShiftEnd, BerthChange, Weather}

abbrev pub rule_code : Rule → ℤ
rule_code Breakdown = pos 1
rule_code ShiftEnd = pos 2
rule_code BerthChange = pos 3
rule_code Weather = pos 4

abbrev pub Names : ℤ → Result Rule NoRule → Type 0
Names code (Ok k) = rule_code k ≡ code
Names code (Err e) = (k : Rule) → rule_code k ≢ code
