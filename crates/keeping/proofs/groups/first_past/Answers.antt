use Rattle.std.proofs.Common.{◌≡◌, ◌+◌, ◌-◌, ℕ, false, List, leb, length, drop, take, sym, ap, ◌∙◌, arith}
use Rattle.std.specs.Option.{option_map}
use Rattle.std.specs.List.{list_any, position, position_from}
use Rattle.std.proofs.lemmas.Iterator.Adapters.{position_from-zero}
use Rattle.std.proofs.lemmas.List.{drop-drop, length-drop, take_all}
use Rattle.keeping.proofs.Walking.{skip_from, position_behind}
use Rattle.keeping.proofs.groups.first_past.Goals as goal

rest_is : (xs : List ℕ) (from : ℕ) → take (length xs - from) (drop from xs) ≡ drop from xs
rest_is xs from = take_all (length xs - from) (drop from xs) (grind (arith, length-drop from xs))

pub loop-from-init : goal.loop-from-init
loop-from-init c = (position_from-zero (leb c.args.total) c.args.indices.now, omega arith)

pub loop-from-preserved : goal.loop-from-preserved
loop-from-preserved c =
    let from = c.loop-from.from in
    let p = leb c.args.total in
    let xs = c.args.indices.now in
    let z : from + 64 - from ≡ 64 = omega arith in
    let e : list_any p (take 64 (drop from xs)) ≡ false = rw z at (sym c.some_past.ensures ∙ c.if-some_past.false) in
    (c.loop-from.invariant.0 ∙ skip_from p 64 (drop from xs) from e ∙ ap (position_from p (from + 64)) (drop-drop 64 from xs), omega (arith, c.loop-from-test.true))

pub returns-in_err-row : goal.returns-in_err-row
returns-in_err-row c =
    let from = c.loop-from.from in
    let p = leb c.args.total in
    let xs = c.args.indices.now in
    c.from_residual.ensures ∙ ap (option_map (λ r. from + r)) (sym c.in_err-row.was ∙ c.find_past.ensures ∙ ap (position p) (rest_is xs from)) ∙ sym (position_behind p from (drop from xs)) ∙ sym c.loop-from.invariant.0

pub returns : goal.returns
returns c =
    let from = c.loop-from.from in
    let p = leb c.args.total in
    let xs = c.args.indices.now in
    ap (option_map (λ r. from + r)) (sym c.in_ok-row.was ∙ c.find_past.ensures ∙ ap (position p) (rest_is xs from)) ∙ sym (position_behind p from (drop from xs)) ∙ sym c.loop-from.invariant.0
