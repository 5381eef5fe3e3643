use Rattle.std.proofs.Common.{rules, Some, sym, subst}
use Rattle.column.specs.Cells.{records, fields_cell}
use Rattle.scenario.specs.Cells.{IsCell}
use Rattle.scenario.proofs.Filling.{record_read, record_added, cell_refused, no_record}
use Rattle.scenario.proofs.cells.push_record.Goals as goal

pub returns : goal.returns
returns c =
    record_added c.push_fields.result c.in_ok-cell.cell c.unwrap_or.result c.args.item.now c.args.there.now.items c.push.new.self.items c.is_some.result c.args.data.now.items c.push_fields.new.data.items
    c.push_fields.ensures c.unwrap_or.ensures (record_read c.args.item.now c.in_ok-cell.cell _ _ c.in_ok-cell.ensures (λ fs r. search rules)) c.in_ok-push.ensures.items c.is_some.ensures

pub returns-in_err-cell : goal.returns-in_err-cell
returns-in_err-cell c =
    cell_refused _ _ _ _ _ _ c.cell.result c.from_residual.result c.in_err-cell.field-0.0 c.cell.ensures c.in_err-cell.was c.from_residual.ensures.1 (λ f h. h)
    (λ there h. no_record c.args.item.now there (λ fs is. h.1 fs (subst (λ t. IsCell records t (fields_cell (Some fs))) (sym h.2) is)))
