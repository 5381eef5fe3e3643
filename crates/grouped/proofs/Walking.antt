-- The walk through a batch finds the winner of each group.
use Rattle.std.proofs.Common.{◌≡◌, ℕ, zero, suc, ◌+◌, ◌<◌, ◌≢◌, Bool, true, false, cond, not, ◌&&◌, eqb, List, [], ◌∷◌, ◌++◌, map, length, get_or, set, Some, None, filter, Option, sym, refl, ap, ap₂, ◌∙◌, subst, ⊎_elim, add-one, eq-eqb, arith}
use Rattle.std.proofs.lemmas.List.Elements.{filter-append}
use Rattle.std.proofs.lemmas.List.{map-append, get_or-set_same, get_or-set_other}
use Rattle.std.proofs.lemmas.Bool.{cases_eq, ne_eqb}
use Rattle.std.specs.Option.{is_some}
use Rattle.column.specs.Columns.{Flags, count_up}
use Rattle.column.specs.Seen.{marks_seen}
use Rattle.column.specs.declared.BoolColumn as code
use Rattle.book.specs.Winners.{Row, Making, Lawful, winner, top_rows}
use Rattle.book.specs.Batches.{Given, Batch, row_at, admitted}
use Rattle.book.proofs.Winning.{challenge, winner_append}
use Rattle.grouped.specs.Walk.{brought, marked_row, outranks, Best}

pub count_push : (s n : ℕ) → count_up s (suc n) ≡ count_up s n ++ (s + n) ∷ []
count_push s zero = ap (λ k. k ∷ []) (let z : s ≡ s + 0 = omega arith in z)
count_push s (suc n) = ap (λ l. s ∷ l) (count_push (suc s) n ∙ ap (λ k. count_up (suc s) n ++ k ∷ []) (let z : suc s + n ≡ s + suc n = omega arith in z))

abbrev push_if : Bool → List Row → Row → List Row
push_if true xs y = xs ++ y ∷ []
push_if false xs y = xs ++ []

-- whether row n is an admitted row of group k
abbrev comes : Making → Batch → Option Flags → ℕ → ℕ → Bool
comes m b marks k n = eqb (get_or b.indices n 0) k && admitted m b.columns marks n

brought_push : (m : Making) (b : Batch) (marks : Option Flags) (k n : ℕ)
    → brought m b marks k (suc n) ≡ push_if (comes m b marks k n) (brought m b marks k n) (row_at b.columns n)
brought_push m b marks k n =
    let p : ℕ → Bool = comes m b marks k in
    let z : 0 + n ≡ n = omega arith in
    ap (λ l. map (row_at b.columns) (filter p l)) (count_push 0 n ∙ ap (λ i. count_up 0 n ++ i ∷ []) z)
    ∙ ap (map (row_at b.columns)) (filter-append p (count_up 0 n) (n ∷ []))
    ∙ map-append (row_at b.columns) (filter p (count_up 0 n)) (filter p (n ∷ []))
    ∙ go (p n)
  where
    go : (t : Bool) → map (row_at b.columns) (filter (comes m b marks k) (count_up 0 n)) ++ map (row_at b.columns) (cond t (n ∷ []) []) ≡ push_if t (brought m b marks k n) (row_at b.columns n)
    go true = refl
    go false = refl

pub best_start : (m : Making) (b : Batch) (marks : Option Flags) (k : ℕ) (o : Option ℕ) → o ≡ None → Best m b marks k 0 o
unfolding winner top_rows
best_start m b marks k o e = record { wins_so = ap (marked_row b.columns) e; among = λ r h. absurd (let z : ◌≡◌ {A = ℕ} 0 1 = cc in omega arith) }

module _ (m : Making) (laws : Lawful m) (b : Batch) (marks : Option Flags) (n : ℕ) where
  grows : (k : ℕ) (t : Bool) → comes m b marks k n ≡ t → winner m (brought m b marks k (n + 1)) ≡ winner m (push_if t (brought m b marks k n) (row_at b.columns n))
  grows k t e = ap (λ i. winner m (brought m b marks k i)) (add-one n) ∙ ap (winner m) (brought_push m b marks k n) ∙ ap (λ t. winner m (push_if t (brought m b marks k n) (row_at b.columns n))) e

  -- a row that is not admitted, or not of the group, changes nothing
  pub best_passes : (k : ℕ) (o : Option ℕ) → comes m b marks k n ≡ false → Best m b marks k n o → Best m b marks k (n + 1) o
  best_passes k o e h = record {
    wins_so = h.wins_so ∙ sym (winner_append m laws (brought m b marks k n) []) ∙ sym (grows k false e);
    among = λ r q. let l = h.among r q in omega arith;
  }

  challenged : (o : Option ℕ) (t : Bool) → t ≡ outranks m (row_at b.columns n) (marked_row b.columns o)
      → marked_row b.columns (cond t (Some n) o) ≡ challenge m (marked_row b.columns o) (row_at b.columns n)
  challenged None t e = rw e
  challenged (Some a) true e = ap (λ t. cond t (Some (row_at b.columns n)) (Some (row_at b.columns a))) e
  challenged (Some a) false e = ap (λ t. cond t (Some (row_at b.columns n)) (Some (row_at b.columns a))) e

  under : (o : Option ℕ) (t : Bool) → ((r : ℕ) → o ≡ Some r → r < n) → (r : ℕ) → cond t (Some n) o ≡ Some r → r < n + 1
  under o true h r e = let q : n ≡ r = cc in omega arith
  under o false h r e = let l = h r e in omega arith

  -- an admitted row of the group is marked where it outranks the marked one
  pub best_meets : (k : ℕ) (o : Option ℕ) (t : Bool) → comes m b marks k n ≡ true → t ≡ outranks m (row_at b.columns n) (marked_row b.columns o)
      → Best m b marks k n o → Best m b marks k (n + 1) (cond t (Some n) o)
  best_meets k o t e w h = record {
    wins_so = challenged o t w ∙ ap (λ v. challenge m v (row_at b.columns n)) h.wins_so
        ∙ sym (winner_append m laws (brought m b marks k n) (row_at b.columns n ∷ [])) ∙ sym (grows k true e);
    among = under o t h.among;
  }

  -- the rows that are marked after one row more
  pub best_next : (rows : List (Option ℕ)) (group : ℕ) (t : Bool) (new : Option ℕ) → group < length rows → group ≡ get_or b.indices n 0
      → t ≡ (admitted m b.columns marks n && outranks m (row_at b.columns n) (marked_row b.columns (get_or rows group None)))
      → new ≡ cond t (Some n) (get_or rows group None)
      → ((k : ℕ) → Best m b marks k n (get_or rows k None)) → (k : ℕ) → Best m b marks k (n + 1) (get_or (set rows group new) k None)
  best_next rows group t new l at e is h k = ⊎_elim here other (cases_eq k group)
    where
      old : Option ℕ
      old = get_or rows group None

      met : (a : Bool) → admitted m b.columns marks n ≡ a → t ≡ (a && outranks m (row_at b.columns n) (marked_row b.columns old)) → Best m b marks group (n + 1) (cond t (Some n) old)
      met true f q = best_meets group old t (ap₂ (λ x y. x && y) (eq-eqb _ _ (sym at)) f) q (h group)
      met false f q = rw q (best_passes group old (ap₂ (λ x y. x && y) (eq-eqb _ _ (sym at)) f) (h group))

      here : k ≡ group → Best m b marks k (n + 1) (get_or (set rows group new) k None)
      here i = rw (i, get_or-set_same rows group new None l, is) (met (admitted m b.columns marks n) refl e)

      other : k ≢ group → Best m b marks k (n + 1) (get_or (set rows group new) k None)
      other i = rw (get_or-set_other rows group k new None i) (best_passes k (get_or rows k None) (ap (λ x. x && admitted m b.columns marks n) (ne_eqb _ _ (λ j. i (sym j ∙ sym at)))) (h k))

  pub best_after : (rows rows' : List (Option ℕ)) (group : ℕ) (t : Bool) (old new : Option ℕ) → group < length rows → group ≡ get_or b.indices n 0 → old ≡ get_or rows group None
      → t ≡ (admitted m b.columns marks n && outranks m (row_at b.columns n) (marked_row b.columns old)) → new ≡ cond t (Some n) old → rows' ≡ set rows group new
      → ((k : ℕ) → Best m b marks k n (get_or rows k None)) → (k : ℕ) → Best m b marks k (n + 1) (get_or rows' k None)
  best_after rows rows' group t old new l at o e is r h k =
      subst (λ xs. Best m b marks k (n + 1) (get_or xs k None)) (sym r)
      (best_next rows group t new l at (e ∙ ap (λ x. admitted m b.columns marks n && outranks m (row_at b.columns n) (marked_row b.columns x)) o) (is ∙ ap (cond t (Some n)) o) h k)

-- Choosing

pub chosen_so : (a t u : Bool) → a ≡ true → t ≡ u → t ≡ (a && u)
chosen_so a t u e f = f ∙ ap (λ x. x && u) (sym e)

no_marks : (f : Option code.BoolColumn) → is_some f ≡ false → marks_seen f ≡ None
no_marks None e = refl
no_marks (Some c) e = cc

pub all_admitted : (m : Making) (g : Given) (f : Option code.BoolColumn) (t : Bool) (r : ℕ) → is_some f ≡ not t → t ≡ true → m.ignore_nulls ≡ false → admitted m g (marks_seen f) r ≡ true
unfolding admitted
all_admitted m g f t r e h n = rw (no_marks f (e ∙ ap not h), n)
