use Rattle.std.proofs.Common.{ℕ, Bool, not, refl, sym, ap, ◌∙◌}
use Rattle.column.specs.Checks.{refuse}
use Rattle.column.specs.Columns.{cell_at}
use Rattle.column.specs.Faults.{LONG, fault, in_state}
use Rattle.column.specs.Seen.{column_seen}
use Rattle.tables.proofs.AsRead.{cell_is_taken}
use Rattle.keeping.proofs.Checking.{value_long_is}
use Rattle.keeping.proofs.Walking.{first_row, found_row}
use Rattle.faults.specs.Reported.{declined_seen, placed}
use Rattle.faults.specs.declared.Place.TheVariants.{Values}
use Rattle.faults.specs.declared.Refusal.TheVariants.{State}
use Rattle.faults.proofs.Whole.{placed_whole}
use Rattle.keeping.proofs.taken.value_taken.Goals as goal

pub returns-in-Some : goal.returns-in-Some
returns-in-Some g c =
    let s = g.S.GroupTable.settings c.args.state.now in
    let v = column_seen c.args.value.now in
    let untaken : ℕ → Bool = λ r. not (s.takes 0 (cell_at v r)) in
    let found = sym c.in-Some.is ∙ c.first_untaken.ensures in
    let here = found_row _ _ _ found in
    first_row untaken _ (λ r. fault LONG in_state 0 r) _ _ _ (λ r. ap not (cell_is_taken s v r c.requires)) found
    (ap declined_seen (placed_whole State _ _ _ _ c.located.ensures ∙ ap (λ x. placed State x Values c.in-Some.row) c.takes.ensures)
    ∙ value_long_is s v c.in-Some.row c.requires here.0
    ∙ ap (λ t. refuse t (fault LONG in_state 0 c.in-Some.row)) (sym (ap not (cell_is_taken s v c.in-Some.row c.requires)) ∙ here.1))

pub returns-in-None : goal.returns-in-None
returns-in-None g c =
    let s = g.S.GroupTable.settings c.args.state.now in
    let v = column_seen c.args.value.now in
    let untaken : ℕ → Bool = λ r. not (s.takes 0 (cell_at v r)) in
    first_row untaken _ (λ r. fault LONG in_state 0 r) _ _ _ (λ r. ap not (cell_is_taken s v r c.requires)) (sym c.in-None.is ∙ c.first_untaken.ensures) refl
