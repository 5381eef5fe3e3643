use Rattle.std.proofs.Common.{cond, [], ◌∷◌, map, set, Some, None, sym, ap, ◌∙◌}
use Rattle.std.proofs.lemmas.List.{map-set}
use Rattle.column.specs.Cells.{strings, text}
use Rattle.column.specs.Seen.{column_seen}
use Rattle.layout.specs.Written.{short_seen}
use Rattle.tables.specs.Delivered.{takes_one_text}
use Rattle.tables.specs.Reading.{key_read, takes_all}
use Rattle.orders.specs.Texts.{text_key, order_entries}
use Rattle.orders.proofs.Texts.{read_octets, read_taken, kept}
use Rattle.orders.proofs.text.TextOrderRowOrder.put_key.Goals as goal

pub returns-in-Some-new-clause-after : goal.returns-in-Some-new-clause-after
returns-in-Some-new-clause-after c =
    let o = c.args.self.now in
    let cs = map column_seen c.args.columns.now in
    let bs = c.in-Some.bytes.now in
    let k = kept bs (short_seen c.in-Some-new.short) c.in-Some-new.ensures in
    ap (map text_key) c.set.ensures
    ∙ map-set text_key o.keys c.args.group_idx (Some c.in-Some-new.short)
    ∙ ap (set (order_entries o) c.args.group_idx) (ap (λ ds. text ds ∷ []) (k.1 ∙ read_octets cs c.args.row bs c.in-Some.ensures) ∙ c.in-Some.ensures)
    ∙ ap (λ t. cond t (set (order_entries o) c.args.group_idx (key_read (strings ∷ []) cs c.args.row)) (order_entries o)) (sym (read_taken cs c.args.row bs c.in-Some.ensures ∙ k.0))

pub returns-in-None-clause-after : goal.returns-in-None-clause-after
returns-in-None-clause-after c =
    let o = c.args.self.now in
    let cs = map column_seen c.args.columns.now in
    ap (map text_key) c.set-in-None.ensures
    ∙ map-set text_key o.keys c.args.group_idx None
    ∙ ap (set (order_entries o) c.args.group_idx) c.in-None.ensures
    ∙ ap (λ t. cond t (set (order_entries o) c.args.group_idx (key_read (strings ∷ []) cs c.args.row)) (order_entries o)) (ap (takes_all takes_one_text 0) c.in-None.ensures)
