use Rattle.std.proofs.Common.{◌≡◌, ◌+◌, ◌-◌, ◌*◌, refl, ap, ◌∙◌, arith}
use borrow.Rule.Slice.PartMut.{put_mid}
use Rattle.layout.specs.Layout.{record_content}
use Rattle.layout.proofs.Contents.{record_length}
use Rattle.layout.proofs.Sources.{wide_put}
use Rattle.layout.proofs.records.put_records.Goals as goal

pub loop-row-preserved : goal.loop-row-preserved
loop-row-preserved g c =
    let shows = g.C.CellSource.shows c.args.cells.now in
    let i = c.loop-row.row in
    let ys = c.copy_from_slice.new.self in
    let k = 25 * i + 25 - 25 * i in
    let y : ys ≡ record_content (shows i) = c.copy_from_slice.ensures.after ∙ c.cell_bytes.ensures ∙ ap record_content c.cell_view.ensures in
    ap (λ z. put_mid (25 * i) k z ys) c.loop-row.invariant
    ∙ wide_put shows record_content 25 record_length i (25 * i) k ys c.args.out.now refl (omega arith) y
