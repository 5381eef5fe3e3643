use Rattle.std.proofs.Common.{◌≡◌, rules, sym, length, false, [], ◌∷◌, Ok, ap, ap₂, ◌∙◌, arith}
use Rattle.tables.specs.Refusals.{verdict}
use Rattle.std.proofs.lemmas.List.{length-take-le}
use Rattle.tables.proofs.Declining.{passed, answer_none}
use Rattle.tables.proofs.Provided.{key_few, key_settled}
use Rattle.tables.proofs.order.RowOrder.compare_rows.Goals as goal

pub slice_bounds-columns-end : goal.slice_bounds-columns-end
slice_bounds-columns-end g c =
    let e = passed _ _ _ c.in_ok-check_key.ensures in
    let f = key_few (g.Self.GroupTable.settings c.args.self.now) false c.args.columns c.args.count (c.args.a ∷ c.args.b ∷ []) e in
    let l : length c.args.columns ≡ 3 = search rules in
    omega arith

pub slice_bounds-compare-end : goal.slice_bounds-compare-end
slice_bounds-compare-end g c =
    let e = passed _ _ _ c.in_ok-check_key.ensures in
    let f = key_few (g.Self.GroupTable.settings c.args.self.now) false c.args.columns c.args.count (c.args.a ∷ c.args.b ∷ []) e in
    let l : length c.args.columns ≡ 3 = search rules in
    sym (length-take-le c.args.count c.args.columns (omega arith))

pub returns : goal.returns
returns g c =
    let s = g.Self.GroupTable.settings c.args.self.now in
    let e = passed _ _ _ c.in_ok-check_key.ensures in
    let k = key_settled s false c.args.columns c.args.count (c.args.a ∷ c.args.b ∷ []) e in
    ap Ok (c.compare.ensures ∙ ap₂ (verdict s) (k c.args.a) (k c.args.b)) ∙ answer_none _ _ e
