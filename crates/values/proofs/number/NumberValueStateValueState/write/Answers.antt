use Rattle.std.proofs.Common.{length, sym, ap, refl}
use Rattle.std.proofs.lemmas.List.{length-take-le}
use Rattle.column.specs.Cells.{numbers, number_cell}
use Rattle.layout.specs.Written.{parts_seen}
use Rattle.tables.proofs.Declining.{drop_within, passed}
use Rattle.tables.specs.Delivered.{number_state}
use Rattle.values.proofs.Kept.{fewer, unput, put}
use Rattle.values.proofs.number.NumberValueStateValueState.write.Goals as goal

pub returns-in_err-check_drop : goal.returns-in_err-check_drop
returns-in_err-check_drop c =
    let h = ap length c.as_slice-held.ensures.held in
    fewer number_cell number_state c.args.self.now.cells c.args.n _ h (parts_seen c.args.out.now) _ _ c.from_residual.ensures.1 c.in_err-check_drop.ensures

pub slice_bounds-put_numbers-end : goal.slice_bounds-put_numbers-end
slice_bounds-put_numbers-end c = sym (length-take-le c.args.n c.as_slice-held.result.now (drop_within _ _ (passed _ _ _ c.in_ok-check_drop.ensures)))

pub returns-in_err-put_numbers : goal.returns-in_err-put_numbers
returns-in_err-put_numbers c =
    let e = c.as_slice-held.ensures.held in
    let p = c.in_ok-check_drop.ensures in
    unput number_cell number_state c.args.self.now.cells c.args.n _ (ap length e) (parts_seen c.args.out.now) numbers refl p _ _ _ c.from_residual-in_err-put_numbers.ensures.1 (rw e at c.in_err-put_numbers.ensures)

pub returns : goal.returns
returns c =
    let e = c.as_slice-held.ensures.held in
    let p = c.in_ok-check_drop.ensures in
    put number_cell number_state c.args.self.now.cells c.args.n _ (ap length e) (parts_seen c.args.out.now) numbers refl p _ (rw e at c.in_ok-put_numbers.ensures)
