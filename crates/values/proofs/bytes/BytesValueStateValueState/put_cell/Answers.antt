use Rattle.std.proofs.Common.{[], ◌∷◌, None, Some, ap, ◌∙◌}
use Rattle.std.proofs.lemmas.List.{map-set}
use Rattle.column.specs.Columns.{text_at}
use Rattle.column.specs.Seen.{column_seen}
use Rattle.layout.specs.Written.{short_cell}
use Rattle.values.specs.Held.{bytes_entries}
use Rattle.values.proofs.Texts.{null_put, text_put}
use Rattle.values.proofs.bytes.BytesValueStateValueState.put_cell.Goals as goal

pub returns-in-Some-new-clause-after : goal.returns-in-Some-new-clause-after
returns-in-Some-new-clause-after c =
    let s = c.args.self.now in
    let g = c.args.group_idx in
    ap bytes_entries (ap (λ xs. record { cells = xs }) c.set.ensures)
    ∙ map-set (λ x. short_cell x ∷ []) s.cells g (Some c.in-Some-new.text)
    ∙ text_put (bytes_entries s) g (text_at (column_seen c.args.column.now) c.args.row) c.in-Some.bytes.now c.in-Some-new.text c.in-Some.ensures c.in-Some-new.ensures

pub returns-in-None-clause-after : goal.returns-in-None-clause-after
returns-in-None-clause-after c =
    let s = c.args.self.now in
    let g = c.args.group_idx in
    ap bytes_entries (ap (λ xs. record { cells = xs }) c.set-in-None.ensures)
    ∙ map-set (λ x. short_cell x ∷ []) s.cells g None
    ∙ null_put (bytes_entries s) g (text_at (column_seen c.args.column.now) c.args.row) c.in-None.ensures
