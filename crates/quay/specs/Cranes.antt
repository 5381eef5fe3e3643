-- Cranes: what picks release.
--   crane_of   the crane that a rule releases where it is picked: the first after a breakdown, else the second
--   cranes_of  how many cranes two picks of one event release: one, if they release the same
use Rattle.std.specs.Prelude.{ℕ, cond, ◌==◌}
use Rattle.quay.specs.declared.rules.Rule.{Rule}
use Rattle.quay.specs.declared.rules.Rule.TheVariants.{Breakdown, ShiftEnd, BerthChange, Weather}

abbrev pub crane_of : Rule → ℕ
crane_of Breakdown = 1
crane_of ShiftEnd = 2
crane_of BerthChange = 2
crane_of Weather = 2

abbrev pub cranes_of : Rule → Rule → ℕ
cranes_of a b = cond (crane_of a == crane_of b) 1 2
