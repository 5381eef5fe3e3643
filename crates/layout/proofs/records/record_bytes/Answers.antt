use Rattle.std.proofs.Common.{◌≡◌, ◌+◌, ◌*◌, ◌-◌, [], ◌∷◌, get_or, take, replicate, None, refl, sym, ap, ◌∙◌, arith}
use borrow.Rule.Slice.PartMut.{put_mid}
use Rattle.std.specs.List.{flat_map}
use Rattle.layout.specs.Layout.{over, field_bytes}
use Rattle.layout.proofs.Contents.{three, three_at, field_length, record_whole}
use Rattle.layout.proofs.Overs.{over_joined}
use Rattle.layout.proofs.records.record_bytes.Goals as goal

pub loop-j-preserved : goal.loop-j-preserved
loop-j-preserved c =
    let j = c.loop-j.j in
    let fs = c.args.fields in
    let p = c.presence.result in
    let ys = c.copy_from_slice.new.self in
    let k = 9 + 8 * j - (1 + 8 * j) in
    let y : ys ≡ field_bytes (get_or (three fs) j None) = c.copy_from_slice.ensures.after ∙ c.field_bytes.ensures ∙ ap field_bytes (sym (three_at fs j c.loop-j-test.true)) in
    ap (λ b. put_mid (1 + 8 * j) k b ys) c.loop-j.invariant
    ∙ over_joined field_bytes 8 field_length (p ∷ []) (three fs) None (p ∷ replicate 24 0) ys (1 + 8 * j) j k c.loop-j-test.true refl (omega arith) y

pub returns : goal.returns
returns c =
    let p = c.presence.result in
    let fs = c.args.fields in
    let e : c.loop-j.j ≡ 3 = omega arith in
    c.loop-j.invariant
    ∙ ap (λ j. over (p ∷ flat_map field_bytes (take j (three fs))) (p ∷ replicate 24 0)) e
    ∙ record_whole fs p (p ∷ replicate 24 0) refl c.presence.ensures
