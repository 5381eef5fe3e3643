use Rattle.std.proofs.Common.{ℕ, ◌+◌, ◌-◌, ◌%◌, ◌^◌, ◌≤◌, get_or, Fits, w32, arith}
use Rattle.std.proofs.lemmas.Bool.{leb-true}
use Rattle.values.proofs.bytes.no_long.Goals as goal

-- numbers of 32 bits whose difference modulo 2 ^ 32 is small: the later is not far above the earlier
near : (to from longest : ℕ) → Fits w32 to → Fits w32 from → (to + 2 ^ 32 - from) % 2 ^ 32 ≤ longest → longest ≤ 32 → to ≤ from + 32
near to from longest a b h l = omega arith

pub returns : goal.returns
returns c = λ h r l.
    let offsets = c.args.offsets.now in
    let most : c.loop-i.longest ≤ 32 = omega (arith, leb-true c.loop-i.longest 32 h) in
    near (get_or offsets (r + 1) 0) (get_or offsets r 0) c.loop-i.longest (c.type_inv.offsets (r + 1)) (c.type_inv.offsets r) (c.loop-i.invariant r (omega arith)) most
