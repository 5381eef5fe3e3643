use Rattle.std.proofs.Common.{◌≡◌, rules, sym, length, [], ◌∷◌, ◌∙◌, arith}
use Rattle.std.proofs.lemmas.List.{length-take-le}
use Rattle.tables.proofs.Declining.{passed, answer_none, passed_new}
use Rattle.tables.proofs.Provided.{key_few, key_settled, key_all_taken}
use Rattle.tables.proofs.order.RowOrder.set_key.Goals as goal

pub slice_bounds-columns-end : goal.slice_bounds-columns-end
slice_bounds-columns-end g c =
    let e = passed _ _ _ c.in_ok-check_held_key.ensures in
    let f = key_few (g.Self.GroupTable.settings c.args.self.now) _ c.args.columns c.args.count (c.args.row ∷ []) e in
    let l : length c.args.columns ≡ 3 = search rules in
    omega arith

pub slice_bounds-put_key-end : goal.slice_bounds-put_key-end
slice_bounds-put_key-end g c =
    let e = passed _ _ _ c.in_ok-check_held_key.ensures in
    let f = key_few (g.Self.GroupTable.settings c.args.self.now) _ c.args.columns c.args.count (c.args.row ∷ []) e in
    let l : length c.args.columns ≡ 3 = search rules in
    sym (length-take-le c.args.count c.args.columns (omega arith))

pub returns-clause-settles : goal.returns-clause-settles
returns-clause-settles g c =
    let s = g.Self.GroupTable.settings c.args.self.now in
    let e = passed _ _ _ c.in_ok-check_held_key.ensures in
    let k = key_settled s _ c.args.columns c.args.count (c.args.row ∷ []) e c.args.row in
    let t = key_all_taken s _ c.args.columns c.args.count c.args.row e in
    record { answered = answer_none _ _ e; left = c.put_key.ensures.after ∙ rw (t, k) (passed_new _ _ _ e) }
