use Rattle.std.proofs.Common.{length, sym, ap, ◌∙◌, Ok, arith}
use Rattle.std.proofs.lemmas.List.{length-map}
use Rattle.tables.proofs.Declining.{answer_none, answer_some}
use Rattle.orders.specs.Texts.{text_key, order_entries, order_settings}
use Rattle.orders.proofs.Asking.{asked_past, asked_unheld, asked_fine, unheld, held_within, held_in_column}
use Rattle.orders.proofs.Texts.{only}
use Rattle.orders.proofs.text.TextOrderRowOrder.key_cell.Goals as goal

pub returns-then-named-ge1 : goal.returns-then-named-ge1
returns-then-named-ge1 c =
    let o = c.args.self.now in
    answer_some _ _ _ (asked_past (order_settings o).kinds c.args.named (length (order_entries o)) c.args.group_idx c.if-named-ge1.true)

pub returns-in-Some : goal.returns-in-Some
returns-in-Some c =
    let o = c.args.self.now in
    let g = c.args.group_idx in
    let k = c.in-Some.key.now in
    let m = length-map o.keys text_key in
    let w = held_within text_key o.keys g k c.in-Some.ensures in
    ap Ok (c.view.ensures ∙ sym (held_in_column text_key o.keys g k c.in-Some.ensures c.args.named ∙ only _ c.args.named c.if-named-ge1.false))
    ∙ answer_none _ _ (asked_fine (order_settings o).kinds c.args.named (length (order_entries o)) g (omega arith) (omega arith))

pub returns-in-None : goal.returns-in-None
returns-in-None c =
    let o = c.args.self.now in
    let w = unheld o.keys c.args.group_idx c.in-None.ensures in
    let m = length-map o.keys text_key in
    answer_some _ _ _ (asked_unheld (order_settings o).kinds c.args.named (length (order_entries o)) c.args.group_idx (omega arith) (omega arith))
