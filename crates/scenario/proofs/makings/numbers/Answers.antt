use Rattle.std.proofs.Common.{◌≡◌, ◌≢◌, ◌≤◌, ◌<◌, ◌+◌, ℕ, List, [], ◌∷◌, ◌++◌, map, take, length, ap, ◌∙◌, sym, arith, lit<, eqb}
use Rattle.std.specs.Prelude.{slice_set, slice_index}
use Rattle.std.specs.List.{join_with_byte, slice_split}
use Rattle.std.proofs.Math.ListN.{get_or}
use Rattle.std.proofs.lemmas.List.{append_cancel_left, map-append, take_more_set, length-set, length-map, length-take-le}
use Rattle.std.proofs.lemmas.List.Splits.{join_with_byte-slice_split, length-slice_split}
use Rattle.std.proofs.lemmas.Iterator.Consumers.{YieldsList-end, YieldsList-turn}
use Rattle.std.proofs.lemmas.Iterator.Splits.{YieldsList-from_str_split}
use Rattle.tables.specs.declared.Sorting.{Sorting}
use Rattle.scenario.specs.Names.{sorting_name}
use Rattle.scenario.specs.Accumulators.{options_text}
use Rattle.scenario.specs.Accumulators.{Writes}
use Rattle.scenario.specs.declared.makings.Order.{Order}
use Rattle.scenario.specs.declared.makings.Order.TheVariants.{Numbers, Text}
use Rattle.scenario.proofs.Options.{split_options, named}
use Rattle.scenario.proofs.Telling.{told_on}
use Rattle.scenario.proofs.makings.numbers.Goals as goal
use denote.Ref.{Bor}

options_more : (sorts : List Sorting) (count : ℕ) (s : Sorting) (ys : List (Bor (List ℕ))) (x : Bor (List ℕ)) → count < length sorts
    → map sorting_name (take count sorts) ≡ map (λ x. x.now) ys → x.now ≡ sorting_name s
    → map sorting_name (take (count + 1) (slice_set sorts count s)) ≡ map (λ x. x.now) (ys ++ x ∷ [])
options_more sorts count s ys x some so_far is =
    ap (map sorting_name) (take_more_set sorts count s some)
    ∙ map-append sorting_name (take count sorts) (s ∷ [])
    ∙ ap (λ names. names ++ sorting_name s ∷ []) so_far
    ∙ ap (λ name. map (λ x. x.now) ys ++ name ∷ []) (sym is)
    ∙ sym (map-append (λ x. x.now) ys (x ∷ []))

pub loop-option-preserved : goal.loop-option-preserved
loop-option-preserved c = record {
  three = length-set c.loop-option.sorts c.loop-option.count c.in_ok-sorts.field-0 ∙ c.loop-option.invariant.three;
  few = omega arith;
  options = options_more c.loop-option.sorts c.loop-option.count c.in_ok-sorts.field-0 c.loop-option.yielded c.in-Some.option (omega arith) c.loop-option.invariant.options c.in_ok-sorts.ensures;
}

-- all options are read, and there is one at least
read : (sorts : List Sorting) (count : ℕ) (t : List ℕ) → length sorts ≡ 3 → count ≤ 3 → map sorting_name (take count sorts) ≡ slice_split (λ b. eqb b 44) t → (1 ≤ count) × (t ≡ options_text sorts count)
read sorts count t three few all =
    let some : count ≡ length (slice_split (λ b. eqb b 44) t) = sym (length-take-le count sorts (omega arith)) ∙ sym (length-map (take count sorts) sorting_name) ∙ ap length all in
    let long = length-slice_split (λ b. eqb b 44) t in
    (omega arith, sym (ap (join_with_byte 44) all ∙ join_with_byte-slice_split 44 t))

pub returns : goal.returns
returns c =
    let all = (YieldsList-end (YieldsList-from_str_split {s = c.into_iter-option-iterator.result} 44 c.args.text.now (lit< tt) (cc) (cc) (cc))
    c.loop-option.yielded c.loop-option.option-iterator c.loop-option.yielded_by c.next.result c.next.new.self c.in-None.is c.next.ensures.steps).0 in
    let done = read c.loop-option.sorts c.loop-option.count c.args.text.now c.loop-option.invariant.three c.loop-option.invariant.few (c.loop-option.invariant.options ∙ all) in
    (c.loop-option.invariant.three, done.0, c.loop-option.invariant.few, ap (λ t. 110 ∷ 117 ∷ 109 ∷ 98 ∷ 101 ∷ 114 ∷ 58 ∷ t) done.1)

-- as many options were read as parts came before this one
read_so_far : (sorts : List Sorting) (count : ℕ) (ys : List (Bor (List ℕ))) → length sorts ≡ 3 → count ≤ 3 → map sorting_name (take count sorts) ≡ map (λ x. x.now) ys → length ys ≡ count
read_so_far sorts count ys three few so_far =
    sym (length-map ys (λ x. x.now)) ∙ ap length (sym so_far) ∙ length-map (take count sorts) sorting_name ∙ length-take-le count sorts (omega arith)

-- of a text that writes an order, the parts are the names of its options
parts_of : (t : List ℕ) (sorts : List Sorting) (n : ℕ) → length sorts ≡ 3 → 1 ≤ n → 110 ∷ 117 ∷ 109 ∷ 98 ∷ 101 ∷ 114 ∷ 58 ∷ t ≡ 110 ∷ 117 ∷ 109 ∷ 98 ∷ 101 ∷ 114 ∷ 58 ∷ options_text sorts n
    → slice_split (λ b. eqb b 44) t ≡ map sorting_name (take n sorts)
parts_of t sorts n three some is =
    ap (slice_split (λ b. eqb b 44)) (append_cancel_left (110 ∷ 117 ∷ 109 ∷ 98 ∷ 101 ∷ 114 ∷ 58 ∷ []) t (options_text sorts n) is) ∙ split_options sorts n three some

-- where a part comes behind three options, the text writes no order
too_many : (t : List ℕ) (ys : List (Bor (List ℕ))) → 3 ≤ length ys → length ys < length (slice_split (λ b. eqb b 44) t) → (order : Order) → Writes order (110 ∷ 117 ∷ 109 ∷ 98 ∷ 101 ∷ 114 ∷ 58 ∷ t) → ⊥
too_many t ys three more (Numbers sorts n) (all, some, few, is) =
    let parts = ap length (parts_of t sorts n all some is) ∙ length-map (take n sorts) sorting_name ∙ length-take-le n sorts (omega arith) in
    omega (arith, parts, three, more, few)
too_many t ys three more (Text sort) is = let first : 110 ≡ 116 = ap (λ l. slice_index l 0) is in omega (arith, first)

pub returns-then-count-ge3 : goal.returns-then-count-ge3
returns-then-count-ge3 c =
    let turn = YieldsList-turn (YieldsList-from_str_split {s = c.into_iter-option-iterator.result} 44 c.args.text.now (lit< tt) (cc) (cc) (cc))
    c.loop-option.yielded c.loop-option.option-iterator c.loop-option.yielded_by c.next.result c.next.new.self c.in-Some.option c.in-Some.is c.next.ensures.steps in
    let read = read_so_far c.loop-option.sorts c.loop-option.count c.loop-option.yielded c.loop-option.invariant.three c.loop-option.invariant.few c.loop-option.invariant.options in
    too_many c.args.text.now c.loop-option.yielded (omega (arith, read, c.if-count-ge3.true)) turn.0

-- where a part is the name of no option, the text writes no order
unnamed : (t x : List ℕ) (n : ℕ) → n < length (slice_split (λ b. eqb b 44) t) → x ≡ get_or (slice_split (λ b. eqb b 44) t) n x → ((s : Sorting) → x ≢ sorting_name s)
    → (order : Order) → Writes order (110 ∷ 117 ∷ 109 ∷ 98 ∷ 101 ∷ 114 ∷ 58 ∷ t) → ⊥
unnamed t x n more at none (Numbers sorts k) (all, some, few, is) =
    let parts = parts_of t sorts k all some is in
    let found = named (take k sorts) n x (omega (arith, ap length parts, length-map (take k sorts) sorting_name, more)) in
    none found.0 (at ∙ ap (λ l. get_or l n x) parts ∙ found.1)
unnamed t x n more at none (Text sort) is = let first : 110 ≡ 116 = ap (λ l. slice_index l 0) is in absurd (omega (arith, first))

pub returns-in_err-sorts : goal.returns-in_err-sorts
returns-in_err-sorts c =
    let turn = YieldsList-turn (YieldsList-from_str_split {s = c.into_iter-option-iterator.result} 44 c.args.text.now (lit< tt) (cc) (cc) (cc))
    c.loop-option.yielded c.loop-option.option-iterator c.loop-option.yielded_by c.next.result c.next.new.self c.in-Some.option c.in-Some.is c.next.ensures.steps in
    told_on _ _ _ _ _ c.read_sorting.result c.from_residual.result c.in_err-sorts.field-0.0 c.read_sorting.ensures c.in_err-sorts.was c.from_residual.ensures.1 (λ f h. h)
    (unnamed c.args.text.now c.in-Some.option.now (length c.loop-option.yielded) turn.0 turn.1)
