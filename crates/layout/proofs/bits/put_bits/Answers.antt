use Rattle.std.proofs.Common.{◌≡◌, ◌-◌, ◌*◌, ◌%◌, ◌/◌, length, [], ◌++◌, refl, arith, length-append}
use Rattle.layout.specs.Layout.{packed}
use Rattle.layout.proofs.Packing.{byte_put, told_more}
use Rattle.layout.proofs.bits.put_bits.Goals as goal

pub loop-j-init : goal.loop-j-init
unfolding packed
loop-j-init g c = ([], omega arith, λ k h. absurd (omega arith), refl)

pub loop-j-preserved : goal.loop-j-preserved
loop-j-preserved g c =
    let v = c.loop-j.invariant in
    let w = c.byte.ensures in
    let j = c.loop-j.j in
    let l = length-append v.0 w.0 in (
      v.0 ++ w.0,
      omega arith,
      λ k h. told_more (λ i x. g.F.Fn.post c.args.holds (i, tt) x) v.0 w.0 (8 * j) 8 v.1 (λ i a. v.2 i (omega arith)) w.2 k (omega arith),
      byte_put v.0 w.0 j c.byte.result c.loop-j.out c.args.out.now v.1 (omega arith) (omega arith) w.3 (omega (arith, c.requires.room)) v.3,
    )

pub returns-then-last-gt0 : goal.returns-then-last-gt0
returns-then-last-gt0 g c =
    let v = c.loop-j.invariant in
    let w = c.byte-then-last-gt0.ensures in
    let j = c.args.rows / 8 in
    let last = c.args.rows % 8 in
    let e : length v.0 ≡ 8 * j = omega arith in
    let s : c.args.rows - last ≡ 8 * j = omega arith in
    let l = length-append v.0 w.0 in (
      v.0 ++ w.0,
      omega arith,
      λ k h. told_more (λ i x. g.F.Fn.post c.args.holds (i, tt) x) v.0 w.0 (c.args.rows - last) last (omega arith) (λ i a. v.2 i (omega arith)) w.2 k (omega arith),
      byte_put v.0 w.0 j c.byte-then-last-gt0.result c.loop-j.out c.args.out.now e (omega arith) (omega arith) w.3 (omega (arith, c.requires.room)) v.3,
    )
