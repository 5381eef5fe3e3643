use Rattle.std.proofs.Common.{sym, subst}
use Rattle.scenario.specs.Texts.{IsInteger}
use Rattle.scenario.proofs.Filling.{number_read, number_added, cell_refused, no_number}
use Rattle.scenario.proofs.cells.push_number.Goals as goal

pub returns : goal.returns
returns c =
    number_added c.in_ok-cell.cell c.args.item.now c.args.there.now.items c.push.new.self.items c.is_some.result c.args.data.now.items c.extend_from_slice.new.self.items c.number_bytes.result
    (number_read c.args.item.now c.in_ok-cell.cell _ _ c.in_ok-cell.ensures (λ z r. subst (λ t. IsInteger t z) r.2 r.1)) c.in_ok-push.ensures.items c.is_some.ensures c.in_ok-extend_from_slice.ensures.items c.number_bytes.ensures

pub returns-in_err-cell : goal.returns-in_err-cell
returns-in_err-cell c =
    cell_refused _ _ _ _ _ _ c.cell.result c.from_residual.result c.in_err-cell.field-0.0 c.cell.ensures c.in_err-cell.was c.from_residual.ensures.1 (λ f h. h)
    (λ there h. no_number c.args.item.now there (λ z is. h.1 z (subst (λ t. IsInteger t z) (sym h.2) is)))
