use Rattle.std.proofs.Common.{◌+◌, [], ◌∷◌, ◌++◌, ap, ◌∙◌, arith, length-append}
use Rattle.layout.proofs.Packing.{binary_more, weight_bit, bit_fits, told_push}
use Rattle.layout.proofs.bits.byte.Goals as goal

pub overflow_add-byte : goal.overflow_add-byte
overflow_add-byte g c =
    let v = c.loop-i.invariant in
    let w = weight_bit c.holds.result c.from.result c.loop-i.i c.from.ensures (omega arith) in
    let f = bit_fits v.0 c.holds.result c.loop-i.i v.1 (omega arith) in
    omega arith

pub loop-i-preserved : goal.loop-i-preserved
loop-i-preserved g c =
    let v = c.loop-i.invariant in
    let b = c.holds.result in
    let m = binary_more v.0 b c.loop-i.i v.1 in
    let w = weight_bit b c.from.result c.loop-i.i c.from.ensures (omega arith) in (
      v.0 ++ b ∷ [],
      length-append v.0 (b ∷ []) ∙ ap (λ n. n + 1) v.1,
      told_push (λ k x. g.F.Fn.post c.args.holds.now (c.args.start + k, tt) x) v.0 b c.loop-i.i v.1 v.2 c.holds.ensures,
      omega arith,
    )
