use Rattle.std.proofs.Common.{ℕ, ◌<◌}
use Rattle.keeping.specs.Keepers.{SameKeyCell}
use Rattle.keeping.proofs.keeper.Keeper.same_key.Given as goal

abbrev pub invariant-loop-named : goal.invariant-loop-named
invariant-loop-named g l = (j : ℕ) → j < l.named → SameKeyCell j l.self l.group l.other l.at
