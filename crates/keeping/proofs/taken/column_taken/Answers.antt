use Rattle.std.proofs.Common.{ℕ, Bool, not, refl, sym, ap, ◌∙◌}
use Rattle.column.specs.Checks.{refuse}
use Rattle.column.specs.Columns.{cell_at}
use Rattle.column.specs.Faults.{LONG, fault, in_order}
use Rattle.column.specs.Seen.{column_seen}
use Rattle.tables.proofs.AsRead.{named_is_taken}
use Rattle.tables.proofs.Passing.{named_passed}
use Rattle.book.specs.Declines.{order_column}
use Rattle.keeping.proofs.Checking.{order_long_is}
use Rattle.keeping.proofs.Walking.{first_row, found_row}
use Rattle.faults.specs.Reported.{declined_seen, placed}
use Rattle.faults.specs.declared.Refusal.TheVariants.{Order}
use Rattle.faults.proofs.Whole.{placed_whole}
use Rattle.keeping.proofs.taken.column_taken.Goals as goal

pub returns-in-Some : goal.returns-in-Some
returns-in-Some g c =
    let s = g.O.GroupTable.settings c.args.order.now in
    let v = column_seen c.args.column.now in
    let j = c.args.j in
    let read = named_passed s.kinds j v c.requires in
    let same = λ (r : ℕ). ap not (named_is_taken s j v r read.within (ap not read.kind)) in
    let untaken : ℕ → Bool = λ r. not (s.takes j (cell_at v r)) in
    let found = sym c.in-Some.is ∙ c.first_untaken.ensures.read read.within in
    let here = found_row _ _ _ found in
    first_row untaken _ (λ r. fault LONG in_order (order_column j) r) _ _ _ same found
    (ap declined_seen (placed_whole Order _ _ _ _ c.located.ensures ∙ ap (λ x. placed Order x c.of_key.result c.in-Some.row) c.takes_named.ensures)
    ∙ order_long_is s j v c.in-Some.row c.of_key.result c.of_key.ensures c.requires here.0
    ∙ ap (λ t. refuse t (fault LONG in_order (order_column j) c.in-Some.row)) (sym (same c.in-Some.row) ∙ here.1))

pub returns-in-None : goal.returns-in-None
returns-in-None g c =
    let s = g.O.GroupTable.settings c.args.order.now in
    let v = column_seen c.args.column.now in
    let j = c.args.j in
    let read = named_passed s.kinds j v c.requires in
    let untaken : ℕ → Bool = λ r. not (s.takes j (cell_at v r)) in
    first_row untaken _ (λ r. fault LONG in_order (order_column j) r) _ _ _ (λ r. ap not (named_is_taken s j v r read.within (ap not read.kind))) (sym c.in-None.is ∙ c.first_untaken.ensures.read read.within) refl
