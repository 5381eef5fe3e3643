use Rattle.std.proofs.Common.{◌≡◌, ◌+◌, ◌*◌, ◌^◌, take, get_or, arith, ap, ◌∙◌, false}
use Rattle.std.proofs.lemmas.List.{take_more, length-take-le}
use Rattle.layout.specs.Layout.{bit, binary}
use Rattle.layout.proofs.Packing.{binary_more, weight, weight_fits}
use Rattle.scenario.proofs.packing.byte.Goals as goal
use Rattle.scenario.proofs.packing.byte.Goals.{then-bit, else-bit}

pub overflow_add-byte : goal.overflow_add-byte
overflow_add-byte c =
    let long = length-take-le c.loop-i.i c.args.bits.now (omega arith) in
    let w = weight c.loop-i.i (omega arith) in
    let f = weight_fits (take c.loop-i.i c.args.bits.now) c.loop-i.i long (omega arith) in
    omega arith

pub loop-i-preserved : goal.loop-i-preserved
loop-i-preserved c =
    let i = c.loop-i.i in
    let bits = c.args.bits.now in
    let b = get_or bits i false in
    let w = weight i (omega arith) in
    let more : binary (take (i + 1) bits) ≡ binary (take i bits) + bit b * 2 ^ i =
    ap binary (take_more bits i false (omega arith)) ∙ binary_more (take i bits) b i (length-take-le i bits (omega arith)) in
    elim c.if-bit.branch [
      | then-bit d ↦ let t : bit b * 2 ^ i ≡ 1 * 2 ^ i = ap (λ x. bit x * 2 ^ i) d.if-bit.true in omega arith
      | else-bit d ↦ let t : bit b * 2 ^ i ≡ 0 * 2 ^ i = ap (λ x. bit x * 2 ^ i) d.if-bit.false in omega arith
    ]
