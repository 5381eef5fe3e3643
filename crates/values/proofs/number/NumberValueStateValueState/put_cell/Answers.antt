use Rattle.std.proofs.Common.{[], ◌∷◌, set, sym, ap, ◌∙◌}
use Rattle.std.proofs.lemmas.Bool.{cond-true}
use Rattle.std.proofs.lemmas.List.{map-set}
use Rattle.column.specs.Cells.{number_cell}
use Rattle.column.specs.Seen.{column_seen}
use Rattle.tables.proofs.Numbers.{number_read}
use Rattle.values.specs.Held.{number_entries}
use Rattle.values.proofs.number.NumberValueStateValueState.put_cell.Goals as goal

pub returns-clause-after : goal.returns-clause-after
returns-clause-after c =
    let s = c.args.self.now in
    ap number_entries (ap (λ xs. record { cells = xs }) c.set.ensures)
    ∙ map-set (λ x. number_cell x ∷ []) s.cells c.args.group_idx c.number.result
    ∙ ap (λ x. set (number_entries s) c.args.group_idx (number_cell x ∷ [])) c.number.ensures
    ∙ sym (cond-true _ _ _ (number_read (column_seen c.args.column.now) c.args.row))
