use Rattle.std.proofs.Common.{length, sym, ap, ◌∙◌, Ok, arith}
use Rattle.std.proofs.lemmas.List.{length-map}
use Rattle.tables.proofs.Declining.{answer_none, answer_some}
use Rattle.orders.specs.Numbers.{key_cells, order_entries, order_settings}
use Rattle.orders.proofs.Asking.{asked_past, asked_unheld, asked_fine, unheld, held_within, held_in_column}
use Rattle.orders.proofs.Numbers.{kinds_long, held_cell}
use Rattle.orders.proofs.number.NumberOrderRowOrder.key_cell.Goals as goal

pub returns-then-named-self : goal.returns-then-named-self
returns-then-named-self c =
    let o = c.args.self.now in
    let l = kinds_long o.sorts.table o.sorts.count (omega arith) in
    answer_some _ _ _ (asked_past (order_settings o).kinds c.args.named (length (order_entries o)) c.args.group_idx (omega arith))

pub returns-in-Some : goal.returns-in-Some
returns-in-Some c =
    let o = c.args.self.now in
    let s = o.sorts in
    let g = c.args.group_idx in
    let k = c.in-Some.key.now in
    let l = kinds_long s.table s.count (omega arith) in
    let m = length-map o.keys (key_cells s.count) in
    let w = held_within (key_cells s.count) o.keys g k c.in-Some.ensures in
    ap Ok (c.view.ensures ∙ sym (held_in_column (key_cells s.count) o.keys g k c.in-Some.ensures c.args.named ∙ held_cell k s.count c.args.named (omega arith)))
    ∙ answer_none _ _ (asked_fine (order_settings o).kinds c.args.named (length (order_entries o)) g (omega arith) (omega arith))

pub returns-in-None : goal.returns-in-None
returns-in-None c =
    let o = c.args.self.now in
    let w = unheld o.keys c.args.group_idx c.in-None.ensures in
    let l = kinds_long o.sorts.table o.sorts.count (omega arith) in
    let m = length-map o.keys (key_cells o.sorts.count) in
    answer_some _ _ _ (asked_unheld (order_settings o).kinds c.args.named (length (order_entries o)) c.args.group_idx (omega arith) (omega arith))
