use Rattle.std.proofs.Common.{◌+◌, ◌-◌, length, ap, ◌∙◌, rules, arith}
use Rattle.layout.specs.Layout.{string_content}
use Rattle.layout.proofs.Offsets.{bytes_put, end_next, offset_put, rows_below}
use Rattle.layout.proofs.strings.put_strings.Goals as goal

pub slice_bounds-copy_from_slice-end : goal.slice_bounds-copy_from_slice-end
slice_bounds-copy_from_slice-end g c =
    let shows = g.C.CellSource.shows c.args.cells.now in
    let e = end_next shows c.loop-row.row c.loop-row.end c.cell_bytes-bytes.result.now c.loop-row.invariant.ends (c.cell_bytes-bytes.ensures ∙ ap string_content c.cell_view.ensures) in
    let w = rows_below shows (c.loop-row.row + 1) c.args.rows (omega arith) in
    search rules

pub overflow_cast-offsets : goal.overflow_cast-offsets
overflow_cast-offsets g c =
    let shows = g.C.CellSource.shows c.args.cells.now in
    let e = end_next shows c.loop-row.row c.loop-row.end c.cell_bytes-bytes.result.now c.loop-row.invariant.ends (c.cell_bytes-bytes.ensures ∙ ap string_content c.cell_view.ensures) in
    let w = rows_below shows (c.loop-row.row + 1) c.args.rows (omega arith) in
    omega arith

pub loop-row-preserved : goal.loop-row-preserved
loop-row-preserved g c =
    let shows = g.C.CellSource.shows c.args.cells.now in
    let i = c.loop-row.row in
    let v = c.loop-row.invariant in
    let ys = c.cell_bytes-bytes.result.now in
    let y = c.cell_bytes-bytes.ensures ∙ ap string_content c.cell_view.ensures in
    let e = end_next shows i c.loop-row.end ys v.ends y in
    let l = ap length c.copy_from_slice.ensures.after in
    record {
      ends = e;
      offsets = offset_put shows i (c.loop-row.end + length ys) c.loop-row.offsets c.args.offsets.now e (omega arith) v.offsets;
      bytes = bytes_put shows i c.loop-row.end (c.loop-row.end + length ys - c.loop-row.end) c.loop-row.«data» c.copy_from_slice.new.self c.args.«data».now v.ends (omega arith) (c.copy_from_slice.ensures.after ∙ y) v.bytes;
    }
