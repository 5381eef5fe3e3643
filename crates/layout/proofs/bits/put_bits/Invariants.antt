use Rattle.std.proofs.Common.{◌≡◌, ℕ, ◌*◌, ◌<◌, Bool, false, List, length, get_or}
use Rattle.layout.specs.Layout.{packed, over}
use Rattle.layout.proofs.bits.put_bits.Given as goal

abbrev pub invariant-loop-j : goal.invariant-loop-j
invariant-loop-j g l =
    (bs : List Bool) × (length bs ≡ 8 * l.j) × ((k : ℕ) → k < length bs → goal.F-post g l.holds k (get_or bs k false)) × (l.out ≡ over (packed bs) l.initial.out)
