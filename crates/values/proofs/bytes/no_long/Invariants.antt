use Rattle.std.proofs.Common.{ℕ, ◌+◌, ◌-◌, ◌%◌, ◌^◌, ◌<◌, ◌≤◌, get_or}
use Rattle.values.proofs.bytes.no_long.Given as goal

abbrev pub invariant-loop-i : goal.invariant-loop-i
invariant-loop-i l = (r : ℕ) → r + 1 < l.i → (get_or l.offsets (r + 1) 0 + 2 ^ 32 - get_or l.offsets r 0) % 2 ^ 32 ≤ l.longest
