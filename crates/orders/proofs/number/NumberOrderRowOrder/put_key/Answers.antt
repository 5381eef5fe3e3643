use Rattle.std.proofs.Common.{◌≡◌, cond, [], ◌∷◌, map, length, take, set, sym, ap, ap₂, ◌∙◌, arith}
use Rattle.std.proofs.lemmas.List.{length-take-le, map-set}
use Rattle.column.specs.Seen.{column_seen}
use Rattle.tables.specs.Reading.{key_read}
use Rattle.orders.specs.Numbers.{key_cells, order_entries, order_settings}
use Rattle.orders.proofs.Numbers.{key_any, row_key}
use Rattle.orders.proofs.number.NumberOrderRowOrder.put_key.Goals as goal

pub returns-clause-after : goal.returns-clause-after
returns-clause-after c =
    let o = c.args.self.now in
    let s = o.sorts in
    let ss = take s.count s.table in
    let l : length ss ≡ s.count = length-take-le s.count s.table (omega arith) in
    let cs = map column_seen c.args.columns.now in
    let e = key_any ss cs c.args.row in
    let k = row_key ss cs c.args.row (omega arith) in
    ap (map (key_cells s.count)) c.set.ensures
    ∙ map-set (key_cells s.count) o.keys c.args.group_idx _
    ∙ ap (set (order_entries o) c.args.group_idx)
    (ap₂ (λ n xs. key_cells n xs) (sym l) (ap₂ (λ x xs. x ∷ xs) c.number_in.ensures (ap₂ (λ y ys. y ∷ ys) c.number_in-2.ensures (ap (λ z. z ∷ []) c.number_in-3.ensures))) ∙ sym k)
    ∙ ap (λ t. cond t (set (order_entries o) c.args.group_idx (key_read (order_settings o).kinds cs c.args.row)) (order_entries o)) (sym e)
