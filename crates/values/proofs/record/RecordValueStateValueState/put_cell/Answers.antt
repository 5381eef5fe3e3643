use Rattle.std.proofs.Common.{[], ◌∷◌, set, sym, ap, ◌∙◌}
use Rattle.std.proofs.lemmas.Bool.{cond-true}
use Rattle.std.proofs.lemmas.List.{map-set}
use Rattle.column.specs.Cells.{fields_cell}
use Rattle.column.specs.Seen.{column_seen}
use Rattle.tables.proofs.Records.{record_read}
use Rattle.values.specs.Held.{record_entries}
use Rattle.values.proofs.record.RecordValueStateValueState.put_cell.Goals as goal

pub returns-clause-after : goal.returns-clause-after
returns-clause-after c =
    let s = c.args.self.now in
    ap record_entries (ap (λ xs. record { cells = xs }) c.set.ensures)
    ∙ map-set (λ x. fields_cell x ∷ []) s.cells c.args.group_idx c.fields.result
    ∙ ap (λ x. set (record_entries s) c.args.group_idx (fields_cell x ∷ [])) c.fields.ensures
    ∙ sym (cond-true _ _ _ (record_read (column_seen c.args.column.now) c.args.row))
