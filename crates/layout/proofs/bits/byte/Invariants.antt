use Rattle.std.proofs.Common.{◌≡◌, ℕ, ◌+◌, ◌<◌, Bool, false, List, length, get_or}
use Rattle.layout.specs.Layout.{binary}
use Rattle.layout.proofs.bits.byte.Given as goal

abbrev pub invariant-loop-i : goal.invariant-loop-i
invariant-loop-i g l = (bs : List Bool) × (length bs ≡ l.i) × ((k : ℕ) → k < l.i → goal.F-post g l.holds (l.start + k) (get_or bs k false)) × (l.byte ≡ binary bs)
