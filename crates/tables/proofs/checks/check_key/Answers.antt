use Rattle.std.proofs.Common.{◌≡◌, false, length, ap, sym, ◌∙◌, rules}
use Rattle.column.specs.Checks.{outcome}
use Rattle.tables.proofs.Declining.{declined, passed, answer_some, first_declined, first_alone, exits}
use Rattle.tables.proofs.Walking.{key_is}
use Rattle.tables.proofs.checks.check_key.Goals as goal

pub returns-in_err-check_count : goal.returns-in_err-check_count
returns-in_err-check_count g c =
    let l : length c.args.columns ≡ 3 = search rules in
    let k = key_is (g.O.GroupTable.settings c.args.order.now) false c.args.columns c.args.count c.args.rows.now l in
    let n = c.columns.ensures in
    exits _ _ _ _ _ c.from_residual.ensures.1 (answer_some _ _ (tt {0}) (k ∙ rw (sym n) (first_declined _ _ (declined _ _ _ c.in_err-check_count.ensures))))

pub returns : goal.returns
returns g c =
    let l : length c.args.columns ≡ 3 = search rules in
    let k = key_is (g.O.GroupTable.settings c.args.order.now) false c.args.columns c.args.count c.args.rows.now l in
    let n = c.columns.ensures in
    let p = passed _ _ _ c.in_ok-check_count.ensures in
    c.check_rows.ensures ∙ rw (k, sym n, p) (sym (ap (λ o. outcome o (tt {0})) (first_alone _)))
