-- The comparisons that come with the stage are total orders, and the states and orders keep their laws.
use Rattle.std.proofs.Common.{◌≡◌, ℕ, zero, suc, ◌<◌, Bool, true, cond, not, ◌&&◌, ◌||◌, ltb, leb, List, [], ◌∷◌, map, length, get_or, ℤ, Some, None, Option, Ordering, Less, Equal, Greater, sym, refl, ap, ◌∙◌, arith}
use Rattle.std.specs.Cmp.{IsTotalOrder}
use Rattle.std.specs.List.{AllByRecursion}
use Rattle.std.specs.Ordering.{is_le, is_gt, ordering_reverse}
use Rattle.std.proofs.lemmas.Cmp.{upto, alike_right, int_cmp_total, on_total, then_total}
use Rattle.std.proofs.lemmas.Bool.{ltb-true, leb-true, and_parts, false≢true, not-true}
use Rattle.column.specs.Cells.{Kind, numbers, strings, records, Cell, null, number, text, fields, FieldFits, Proper}
use Rattle.tables.specs.declared.Sorting.{Sorting}
use Rattle.tables.specs.Meaning.{StateLaws, OrderLaws, state_of}
use Rattle.tables.specs.Missing.{sorted_verdict}
use Rattle.tables.specs.Refusals.{verdict}
use Rattle.tables.specs.Delivered.{head_cell, tail_cells, by_columns, leq_by, as_number, number_cmp, all_bytes, takes_number, takes_text, takes_field, takes_record, number_state, bytes_state, record_state, number_columns, number_order}

-- Comparisons

not_above : (o : Ordering) → is_le o ≡ not (is_gt o)
not_above Less = refl
not_above Equal = refl
not_above Greater = refl

verdict_at : (o p : Ordering) → o ≡ ordering_reverse p → cond (is_le o) (cond (is_le p) Equal Less) Greater ≡ o
verdict_at o Less e = rw e
verdict_at o Equal e = rw e
verdict_at o Greater e = rw e

either : (o p : Ordering) → o ≡ ordering_reverse p → (is_le o || is_le p) ≡ true
either o Less e = rw e
either o Equal e = rw e
either o Greater e = rw e

-- what the relation of a total order keeps, and the verdict that it says
module _ {X : Type 0} {cmp : X → X → Ordering} (o : IsTotalOrder cmp) where
  pub leq_total : (a b : X) → (leq_by cmp a b || leq_by cmp b a) ≡ true
  leq_total a b = either (cmp a b) (cmp b a) (o.antisymm a b)

  pub leq_transitive : (a b c : X) → leq_by cmp a b ≡ true → leq_by cmp b c ≡ true → leq_by cmp a c ≡ true
  leq_transitive a b c h k =
      let p = not_above (cmp a b) in
      let q = not_above (cmp b c) in
      not_above (cmp a c) ∙ ap not (upto o a b c (not-true _ (sym p ∙ h)) (not-true _ (sym q ∙ k)))

pub verdict_is : {cmp : List Cell → List Cell → Ordering} → IsTotalOrder cmp → (ks : List Kind) (takes : ℕ → Cell → Bool) (a b : List Cell)
    → verdict (record { kinds = ks; takes = takes; leq = leq_by cmp }) a b ≡ cmp a b
unfolding verdict
verdict_is {cmp} o ks takes a b = verdict_at (cmp a b) (cmp b a) (o.antisymm a b)

-- null or a value
pub sorted_total : {X : Type 0} {cmp : X → X → Ordering} → IsTotalOrder cmp → (s : Sorting) → IsTotalOrder (sorted_verdict cmp s)
sorted_total {X} {cmp} o s = record { antisymm = back; trans = between; congr = alike }
  where
    back : (a b : Option X) → sorted_verdict cmp s a b ≡ ordering_reverse (sorted_verdict cmp s b a)
    back None None = refl
    back None (Some y) = grind arith
    back (Some x) None = grind arith
    back (Some x) (Some y) = let t = o.antisymm x y in let u = o.antisymm y x in grind arith

    between : (a b c : Option X) → sorted_verdict cmp s a b ≡ Less → sorted_verdict cmp s b c ≡ Less → sorted_verdict cmp s a c ≡ Less
    between None None c h k = k
    between None (Some y) None h k = grind arith
    between None (Some y) (Some z) h k = h
    between (Some x) None None h k = h
    between (Some x) None (Some z) h k = grind arith
    between (Some x) (Some y) None h k = k
    between (Some x) (Some y) (Some z) h k = let t = o.trans x y z in let u = o.trans z y x in grind arith

    alike : (a b c : Option X) → sorted_verdict cmp s a b ≡ Equal → sorted_verdict cmp s a c ≡ sorted_verdict cmp s b c
    alike None None c h = refl
    alike None (Some y) c h = grind arith
    alike (Some x) None c h = grind arith
    alike (Some x) (Some y) None h = refl
    alike (Some x) (Some y) (Some z) h =
        let t = o.congr x y z in let u = alike_right o x y z in let v = alike_right o y x z in grind arith

-- column by column
pub columns_total : (cmps : List (Cell → Cell → Ordering)) → AllByRecursion (λ cmp. IsTotalOrder cmp) cmps → IsTotalOrder (by_columns cmps)
columns_total [] h = record { antisymm = λ a b. refl; trans = λ a b c h k. h; congr = λ a b c h. refl }
columns_total (cmp ∷ cmps) h = then_total (on_total head_cell h.0) (on_total tail_cells (columns_total cmps h.1))

pub number_total : (s : Sorting) → IsTotalOrder (number_cmp s)
number_total s = on_total as_number (sorted_total int_cmp_total s)

pub numbers_total : (ss : List Sorting) → IsTotalOrder (number_columns ss)
numbers_total ss = columns_total (map number_cmp ss) (go ss)
  where
    go : (ts : List Sorting) → AllByRecursion (λ cmp. IsTotalOrder cmp) (map number_cmp ts)
    go [] = tt
    go (t ∷ ts) = (number_total t, go ts)

-- The cells that are taken

number_proper : (c : Cell) → takes_number c ≡ true → Proper numbers c
number_proper null h = tt
number_proper (number z) h = (refl, record { sfits = ltb-true _ _ h })
number_proper (text bs) h = absurd (false≢true h)
number_proper (fields a b c) h = absurd (false≢true h)

field_proper : (o : Option ℤ) → takes_field o ≡ true → FieldFits o
field_proper None h = tt
field_proper (Some z) h = record { sfits = ltb-true _ _ h }

record_proper : (c : Cell) → takes_record c ≡ true → Proper records c
record_proper null h = tt
record_proper (number z) h = absurd (false≢true h)
record_proper (text bs) h = absurd (false≢true h)
record_proper (fields a b c) h =
    let p = and_parts (takes_field a) (takes_field b && takes_field c) h in
    let q = and_parts (takes_field b) (takes_field c) p.1 in
    (refl, field_proper a p.0, field_proper b q.0, field_proper c q.1)

bytes_below : (bs : List ℕ) → all_bytes bs ≡ true → AllByRecursion (λ b. b < 256) bs
bytes_below [] h = tt
bytes_below (b ∷ bs) h = let p = and_parts (ltb b 256) (all_bytes bs) h in (ltb-true b 256 p.0, bytes_below bs p.1)

pub text_proper : (c : Cell) → takes_text c ≡ true → Proper strings c
text_proper null h = tt
text_proper (number z) h = absurd (false≢true h)
text_proper (text bs) h =
    let p = and_parts (leb (length bs) 32) (all_bytes bs) h in
    let l = leb-true (length bs) 32 p.0 in
    (refl, bytes_below bs p.1, omega arith)
text_proper (fields a b c) h = absurd (false≢true h)

pub number_kinds : (ss : List Sorting) (j : ℕ) → get_or (map (λ s. numbers) ss) j numbers ≡ numbers
number_kinds [] j = refl
number_kinds (s ∷ ss) zero = refl
number_kinds (s ∷ ss) (suc j) = number_kinds ss j

pub number_state_laws : StateLaws (state_of number_state)
number_state_laws = record { takes_null = refl; takes_proper = number_proper }

pub record_state_laws : StateLaws (state_of record_state)
record_state_laws = record { takes_null = refl; takes_proper = record_proper }

pub bytes_state_laws : StateLaws (state_of bytes_state)
bytes_state_laws = record { takes_null = refl; takes_proper = text_proper }

pub number_order_laws : (ss : List Sorting) → OrderLaws (number_order ss)
number_order_laws ss = record {
  takes_null = λ j. refl;
  takes_proper = λ j c h. rw (number_kinds ss j) (number_proper c h);
  total = leq_total (numbers_total ss);
  transitive = leq_transitive (numbers_total ss);
}
