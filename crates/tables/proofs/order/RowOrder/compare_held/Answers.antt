use Rattle.std.proofs.Common.{◌≡◌, rules, sym, [], ◌∷◌, Ok, length, leb, get_or, ap, ◌∙◌, arith}
use Rattle.std.proofs.lemmas.Bool.{leb-false}
use Rattle.tables.specs.Refusals.{verdict}
use Rattle.std.proofs.lemmas.List.{length-take-le}
use Rattle.tables.proofs.Declining.{passed, answer_none}
use Rattle.tables.proofs.Provided.{key_few, key_held, key_settled}
use Rattle.tables.proofs.order.RowOrder.compare_held.Goals as goal

pub slice_bounds-columns-end : goal.slice_bounds-columns-end
slice_bounds-columns-end g c =
    let e = passed _ _ _ c.in_ok-check_held_key.ensures in
    let f = key_few (g.Self.GroupTable.settings c.args.self.now) _ c.args.columns c.args.count (c.args.row ∷ []) e in
    let l : length c.args.columns ≡ 3 = search rules in
    omega arith

pub slice_bounds-compare_with_held-end : goal.slice_bounds-compare_with_held-end
slice_bounds-compare_with_held-end g c =
    let e = passed _ _ _ c.in_ok-check_held_key.ensures in
    let f = key_few (g.Self.GroupTable.settings c.args.self.now) _ c.args.columns c.args.count (c.args.row ∷ []) e in
    let l : length c.args.columns ≡ 3 = search rules in
    sym (length-take-le c.args.count c.args.columns (omega arith))

pub returns : goal.returns
returns g c =
    let s = g.Self.GroupTable.settings c.args.self.now in
    let es = g.Self.GroupTable.entries c.args.self.now in
    let e = passed _ _ _ c.in_ok-check_held_key.ensures in
    let k = key_settled s _ c.args.columns c.args.count (c.args.row ∷ []) e in
    let h = leb-false _ _ (key_held s (leb (length es) c.args.group_idx) c.args.columns c.args.count (c.args.row ∷ []) e) in
    ap Ok (c.compare_with_held.ensures.held h ∙ ap (λ x. verdict s x (get_or es c.args.group_idx [])) (k c.args.row)) ∙ answer_none _ _ e
