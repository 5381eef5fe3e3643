use Rattle.std.proofs.Common.{◌≡◌, ◌+◌, ◌-◌, ◌*◌, refl, ap, ◌∙◌, arith}
use borrow.Rule.Slice.PartMut.{put_mid}
use Rattle.layout.specs.Layout.{number_content}
use Rattle.layout.proofs.Contents.{content_length}
use Rattle.layout.proofs.Sources.{wide_put}
use Rattle.layout.proofs.numbers.put_numbers.Goals as goal

pub loop-row-preserved : goal.loop-row-preserved
loop-row-preserved g c =
    let shows = g.C.CellSource.shows c.args.cells.now in
    let i = c.loop-row.row in
    let ys = c.copy_from_slice.new.self in
    let k = 8 * i + 8 - 8 * i in
    let y : ys ≡ number_content (shows i) = c.copy_from_slice.ensures.after ∙ c.cell_bytes.ensures ∙ ap number_content c.cell_view.ensures in
    ap (λ z. put_mid (8 * i) k z ys) c.loop-row.invariant
    ∙ wide_put shows number_content 8 content_length i (8 * i) k ys c.args.out.now refl (omega arith) y
