use Rattle.std.proofs.Common.{◌≡◌, true, false, length, leb, [], ◌∷◌, ap, sym, ◌∙◌, rules, arith}
use Rattle.std.proofs.lemmas.Bool.{le-leb, lt-leb}
use Rattle.column.specs.Checks.{outcome}
use Rattle.tables.proofs.Declining.{declined, passed, answer_some, first_declined, first_alone, exits}
use Rattle.tables.proofs.Walking.{key_is}
use Rattle.tables.proofs.checks.check_held_key.Goals as goal

pub returns-in_err-check_count : goal.returns-in_err-check_count
returns-in_err-check_count g c =
    let l : length c.args.columns ≡ 3 = search rules in
    let k = key_is (g.O.GroupTable.settings c.args.order.now) (leb (length (g.O.GroupTable.entries c.args.order.now)) c.args.group) c.args.columns c.args.count (c.args.row ∷ []) l in
    let n = c.columns.ensures in
    exits _ _ _ _ _ c.from_residual.ensures.1 (answer_some _ _ (tt {0}) (k ∙ rw (sym n) (first_declined _ _ (declined _ _ _ c.in_err-check_count.ensures))))

pub returns-then-group-groups : goal.returns-then-group-groups
returns-then-group-groups g c =
    let es = g.O.GroupTable.entries c.args.order.now in
    let l : length c.args.columns ≡ 3 = search rules in
    let k = key_is (g.O.GroupTable.settings c.args.order.now) (leb (length es) c.args.group) c.args.columns c.args.count (c.args.row ∷ []) l in
    let n = c.columns.ensures in
    let h : leb (length es) c.args.group ≡ true = le-leb (length es) c.args.group (omega arith) in
    let p = passed _ _ _ c.in_ok-check_count.ensures in
    answer_some _ _ _ (k ∙ rw (sym n, p, h))

pub returns : goal.returns
returns g c =
    let es = g.O.GroupTable.entries c.args.order.now in
    let l : length c.args.columns ≡ 3 = search rules in
    let k = key_is (g.O.GroupTable.settings c.args.order.now) (leb (length es) c.args.group) c.args.columns c.args.count (c.args.row ∷ []) l in
    let n = c.columns.ensures in
    let h : leb (length es) c.args.group ≡ false = lt-leb (length es) c.args.group (omega arith) in
    let p = passed _ _ _ c.in_ok-check_count.ensures in
    c.check_rows.ensures ∙ rw (k, sym n, p, h) (sym (ap (λ o. outcome o (tt {0})) (first_alone _)))
