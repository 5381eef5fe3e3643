use Rattle.std.proofs.Common.{not, eqb, ap, ◌∙◌, rules}
use Rattle.column.specs.Checks.{refuse}
use Rattle.column.specs.Faults.{ROWS, fault, in_accumulator}
use Rattle.book.specs.Declines.{rows}
use Rattle.keeping.proofs.Checking.{exits, first_some, first_then}
use Rattle.keeping.proofs.rows.check_rows.Goals as goal

pub returns-in_err-at_column : goal.returns-in_err-at_column
unfolding rows
returns-in_err-at_column c = exits c.from_residual.result _ _ c.from_residual.ensures.1 (first_some _ _ _ (c.in_err-at_column.ensures _ (λ j k r h. search rules)))

pub returns : goal.returns
unfolding rows
returns c = first_then _ _ _ (c.in_ok-at_column.ensures _ (λ j k r h. search rules)) (c.same_rows.ensures ∙ ap (λ k. refuse (not (eqb k c.args.given.now.value.rows)) (fault ROWS in_accumulator 4 0)) (search rules))
