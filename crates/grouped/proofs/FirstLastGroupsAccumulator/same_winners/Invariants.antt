use Rattle.std.proofs.Common.{ℕ, ◌<◌}
use Rattle.agreement.specs.Deciding.{WinnersAgree}
use Rattle.grouped.specs.Reached.{winner_shown}
use Rattle.grouped.proofs.FirstLastGroupsAccumulator.same_winners.Given as goal

abbrev pub invariant-loop-group : goal.invariant-loop-group
invariant-loop-group g l = (k : ℕ) → k < l.group → WinnersAgree (winner_shown l.self k) (winner_shown l.other k)
