use Rattle.std.proofs.Common.{sym, ◌∙◌}
use Rattle.tables.specs.Refusals.{rows_refused}
use Rattle.tables.proofs.Declining.{declined, passed, exits, answer_some, answer_none}
use Rattle.tables.proofs.Walking.{rows_any}
use Rattle.tables.proofs.checks.check_rows.Goals as goal

pub returns-in_err-check_kinds : goal.returns-in_err-check_kinds
unfolding rows_refused
returns-in_err-check_kinds g c =
    let k = declined _ _ _ c.in_err-check_kinds.ensures in
    exits _ _ _ _ _ c.from_residual.ensures.1 (answer_some _ _ (tt {0}) (rw k))

pub returns-then-some_past : goal.returns-then-some_past
unfolding rows_refused
returns-then-some_past g c =
    let k = passed _ _ _ c.in_ok-check_kinds.ensures in
    let p = rows_any c.args.columns.now c.args.rows.now ∙ sym c.if-some_past.ensures in
    answer_some _ _ _ (rw (k, p))

pub returns-then-some_untaken : goal.returns-then-some_untaken
unfolding rows_refused
returns-then-some_untaken g c =
    let k = passed _ _ _ c.in_ok-check_kinds.ensures in
    let p = rows_any c.args.columns.now c.args.rows.now ∙ sym c.if-some_past.ensures in
    let u = sym c.if-some_untaken.ensures in
    answer_some _ _ _ (rw (k, p, u))

pub returns : goal.returns
unfolding rows_refused
returns g c =
    let k = passed _ _ _ c.in_ok-check_kinds.ensures in
    let p = rows_any c.args.columns.now c.args.rows.now ∙ sym c.if-some_past.ensures in
    let u = sym c.if-some_untaken.ensures in
    answer_none _ _ (rw (k, p, u))
