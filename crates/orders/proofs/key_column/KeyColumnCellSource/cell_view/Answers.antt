use Rattle.std.proofs.Common.{[], None, ap, ◌∙◌, get_or, arith}
use Rattle.column.specs.Cells.{number_cell}
use Rattle.orders.proofs.key_column.KeyColumnCellSource.cell_view.Goals as goal

pub returns-in-Some-get : goal.returns-in-Some-get
returns-in-Some-get c =
    let k = c.args.self.now in
    c.view.ensures ∙ ap number_cell (c.in-Some-get.ensures.lookup.3.1 None ∙ ap (λ l. get_or l k.named None) (c.in-Some.ensures.lookup.3.1 []))

pub returns-in-None : goal.returns-in-None
returns-in-None c =
    let k = c.args.self.now in
    ap (λ l. number_cell (get_or l k.named None)) (c.in-None.ensures.lookup.4 (omega arith) [])
