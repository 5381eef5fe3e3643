use Rattle.std.proofs.Common.{◌≡◌, ◌+◌, ◌<◌, length, ap, ◌∙◌, arith}
use Rattle.std.specs.List.{flat_map}
use Rattle.layout.specs.Layout.{string_content}
use Rattle.layout.proofs.Contents.{told_some, told_none}
use Rattle.layout.proofs.Offsets.{end_next, rows_below}
use Rattle.layout.proofs.Sources.{rows_of}
use Rattle.layout.proofs.strings.strings_length.Goals as goal

pub returns-in_err-total : goal.returns-in_err-total
returns-in_err-total g c =
    let shows = g.C.CellSource.shows c.args.cells.now in
    let e = end_next shows c.loop-row.row c.loop-row.total c.cell_bytes.result.now c.loop-row.invariant.all (c.cell_bytes.ensures ∙ ap string_content c.cell_view.ensures) in
    let w = rows_below shows (c.loop-row.row + 1) c.args.rows (omega arith) in
    c.from_residual.ensures ∙ told_none _ _ _ (let q : c.loop-row.total + length c.cell_bytes.result.now < 18446744073709551616 → ⊥ = c.in_err-total.ensures in omega (arith, q))

pub loop-row-preserved : goal.loop-row-preserved
loop-row-preserved g c =
    let shows = g.C.CellSource.shows c.args.cells.now in
    let p = c.in_ok-total.ensures in
    let e = end_next shows c.loop-row.row c.loop-row.total c.cell_bytes.result.now c.loop-row.invariant.all (c.cell_bytes.ensures ∙ ap string_content c.cell_view.ensures) in
    record { all = p.1 ∙ e; said = omega (arith, p.0, p.1) }

pub returns : goal.returns
returns g c =
    let shows = g.C.CellSource.shows c.args.cells.now in
    let r : c.loop-row.row ≡ c.args.rows = omega arith in
    let e = c.loop-row.invariant.all ∙ ap (λ n. length (flat_map string_content (rows_of shows n))) r in
    told_some _ c.loop-row.total _ e (omega arith)
