use Rattle.std.proofs.Common.{ℕ, ◌*◌, ◌+◌, [], ◌∷◌, ◌++◌, ap, ◌∙◌, arith, length-append}
use Rattle.layout.specs.Layout.{holds}
use Rattle.layout.proofs.Eights.{holds_some, eight_is, row_read, shown_next}
use Rattle.layout.proofs.Packing.{binary_more, weight_bit, bit_fits}
use Rattle.layout.proofs.flags.FlagSource.holds_byte.Goals as goal

pub overflow_add-byte : goal.overflow_add-byte
overflow_add-byte g c =
    let v = c.loop-i.invariant in
    let w = weight_bit c.unwrap_or.result c.from.result c.loop-i.i c.from.ensures c.loop-i-test.true in
    let f = bit_fits v.0 c.unwrap_or.result c.loop-i.i v.1 c.loop-i-test.true in
    omega arith

pub loop-i-preserved : goal.loop-i-preserved
loop-i-preserved g c =
    let v = c.loop-i.invariant in
    let i = c.loop-i.i in
    let b = c.unwrap_or.result in
    let shows = g.Self.FlagSource.shows c.args.self.now in
    let p = λ (r : ℕ). holds (shows r) in
    let m = binary_more v.0 b i v.1 in
    let w = weight_bit b c.from.result i c.from.ensures c.loop-i-test.true in (
      v.0 ++ b ∷ [],
      length-append v.0 (b ∷ []) ∙ ap (λ n. n + 1) v.1,
      omega arith,
      λ h. shown_next p v.0 (8 * c.args.j) i b (v.3 h) (c.unwrap_or.ensures ∙ holds_some c.flag.result ∙ ap holds (c.flag.ensures ∙ ap shows (row_read c.args.j i h c.loop-i-test.true))),
    )

pub returns : goal.returns
returns g c =
    let v = c.loop-i.invariant in
    let p = λ (r : ℕ). holds (g.Self.FlagSource.shows c.args.self.now r) in
    λ h. eight_is p c.args.j c.loop-i.i c.loop-i.byte v.0 v.2 (v.3 h) (omega arith)
