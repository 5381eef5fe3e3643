-- The walk through a batch finds the row that the batch puts up.
use Rattle.std.proofs.Common.{◌≡◌, ℕ, zero, suc, ◌+◌, ◌-◌, ◌<◌, ◌≤◌, Bool, true, false, cond, not, ◌&&◌, List, [], ◌∷◌, ◌++◌, map, reverse, Some, None, filter, find, Option, sym, refl, ap, ◌∙◌, subst, arith, add-one, append-nil}
use Rattle.std.specs.Option.{option_map}
use Rattle.std.proofs.lemmas.List.Elements.{filter-append}
use Rattle.std.proofs.lemmas.List.{map-append, reverse-append}
use mathlib.Core.List.{reverse-cons}
use Rattle.column.specs.Cells.{is_null}
use Rattle.column.specs.Columns.{Flags, cell_at, count_up}
use Rattle.book.specs.Winners.{Row, Making, Lawful, top_rows, earliest}
use Rattle.book.specs.Batches.{Given, row_at, admitted}
use Rattle.ungrouped.specs.Rows.{Alone, arrives, counts, counted, latest, outermost, picked}
use Rattle.ungrouped.specs.Held.{Kept, outdoes, stored, taken}
use Rattle.ungrouped.specs.Found.{rows_to, outermost_top, Found}
use Rattle.ungrouped.proofs.Numbering.{count_push}
use Rattle.ungrouped.proofs.Picking.{or_row, top_none, top_push}
use Rattle.ungrouped.proofs.Rounding.{earliest_reverse, filter_reverse}

abbrev push_if : Bool → List Row → Row → List Row
push_if true xs y = xs ++ y ∷ []
push_if false xs y = xs

rows_push : (p : ℕ → Bool) (g : Given) (n : ℕ) → rows_to p g (suc n) ≡ push_if (p n) (rows_to p g n) (row_at g n)
rows_push p g n =
    let z : 0 + n ≡ n = omega arith in
    ap (λ l. map (row_at g) (filter p l)) (count_push 0 n ∙ ap (λ i. count_up 0 n ++ i ∷ []) z)
    ∙ ap (map (row_at g)) (filter-append p (count_up 0 n) (n ∷ []))
    ∙ map-append (row_at g) (filter p (count_up 0 n)) (filter p (n ∷ []))
    ∙ go (p n)
  where
    go : (t : Bool) → rows_to p g n ++ map (row_at g) (cond t (n ∷ []) []) ≡ push_if t (rows_to p g n) (row_at g n)
    go true = refl
    go false = append-nil (rows_to p g n)

rows_more : (p : ℕ → Bool) (g : Given) (n : ℕ) (t : Bool) → p n ≡ t → rows_to p g (n + 1) ≡ push_if t (rows_to p g n) (row_at g n)
rows_more p g n t e = ap (rows_to p g) (add-one n) ∙ rows_push p g n ∙ ap (λ b. push_if b (rows_to p g n) (row_at g n)) e

-- The first and the last row that pass

find_first : (f : ℕ → Row) (p : ℕ → Bool) (ks : List ℕ) → option_map f (find p ks) ≡ earliest (map f (filter p ks))
find_first f p [] = refl
find_first f p (k ∷ ks) = go (p k) (find_first f p ks)
  where
    go : (t : Bool) → option_map f (find p ks) ≡ earliest (map f (filter p ks)) → option_map f (cond t (Some k) (find p ks)) ≡ earliest (map f (cond t (k ∷ filter p ks) (filter p ks)))
    go true e = refl
    go false e = e

map_round : (f : ℕ → Row) (ks : List ℕ) → map f (reverse ks) ≡ reverse (map f ks)
map_round f [] = refl
map_round f (k ∷ ks) = ap (map f) (reverse-cons k ks) ∙ map-append f (reverse ks) (k ∷ []) ∙ ap (λ l. l ++ f k ∷ []) (map_round f ks) ∙ sym (reverse-cons (f k) (map f ks))

find_last : (f : ℕ → Row) (p : ℕ → Bool) (ks : List ℕ) → option_map f (find p (reverse ks)) ≡ latest (map f (filter p ks))
find_last f p ks =
    find_first f p (reverse ks) ∙ ap (λ l. earliest (map f l)) (filter_reverse p ks) ∙ ap earliest (map_round f (filter p ks)) ∙ earliest_reverse (map f (filter p ks))

-- the first number that passes: those below it do not
record FirstSo (p : ℕ → Bool) (s n k : ℕ) : Type 0 where
  pub range : (s ≤ k) × (k < s + n)
  pub passes : p k ≡ true
  pub none_below : filter p (count_up s (k - s)) ≡ []

first_so : (p : ℕ → Bool) (s n k : ℕ) → find p (count_up s n) ≡ Some k → FirstSo p s n k
first_so p s zero k e = cc
first_so p s (suc n) k e = go (p s) refl e (first_so p (suc s) n k)
  where
    go : (t : Bool) → p s ≡ t → cond t (Some s) (find p (count_up (suc s) n)) ≡ Some k → (find p (count_up (suc s) n) ≡ Some k → FirstSo p (suc s) n k) → FirstSo p s (suc n) k
    go true f q ih =
        let z : s ≡ k = cc in
        let o : k - s ≡ 0 = omega arith in
        record { range = (omega arith, omega arith); passes = ap p (sym z) ∙ f; none_below = ap (λ i. filter p (count_up s i)) o }
    go false f q ih =
        let w = ih q in
        let r = w.range in
        let o : k - s ≡ suc (k - suc s) = omega (arith, r.0) in
        record {
          range = (omega (arith, r.0), omega (arith, r.1));
          passes = w.passes;
          none_below = ap (λ i. filter p (count_up s i)) o ∙ ap (λ b. cond b (s ∷ filter p (count_up (suc s) (k - suc s))) (filter p (count_up (suc s) (k - suc s)))) f ∙ w.none_below;
        }

back_cons : (n : ℕ) → reverse (count_up 0 (suc n)) ≡ n ∷ reverse (count_up 0 n)
back_cons n = let z : 0 + n ≡ n = omega arith in ap reverse (count_push 0 n) ∙ reverse-append (count_up 0 n) ((0 + n) ∷ []) ∙ ap (λ k. k ∷ reverse (count_up 0 n)) z

last_below : (p : ℕ → Bool) (n r : ℕ) → find p (reverse (count_up 0 n)) ≡ Some r → r < n
last_below p zero r e = cc
last_below p (suc n) r e = go (p n) (sym (ap (find p) (back_cons n)) ∙ e) (last_below p n r)
  where
    go : (t : Bool) → cond t (Some n) (find p (reverse (count_up 0 n))) ≡ Some r → (find p (reverse (count_up 0 n)) ≡ Some r → r < n) → r < suc n
    go true q ih = let z : n ≡ r = cc in omega arith
    go false q ih = omega (arith, ih q)

-- Of all rows that pass the best: it starts with the first, and each later row takes its place or does not

module _ (m : Making) (p : ℕ → Bool) (g : Given) where
  none_yet : (n : ℕ) → rows_to p g n ≡ [] → Found (outermost_top m) p g n None
  none_yet n e = record { puts_up = sym (top_none m) ∙ ap (outermost_top m) (sym e); among = λ r h. cc }

  no_rows : (rs : List Row) → None ≡ earliest rs → rs ≡ []
  no_rows [] e = refl
  no_rows (r ∷ rs) e = cc

  pub best_none : (n : ℕ) → None ≡ find p (count_up 0 n) → Found (outermost_top m) p g n None
  best_none n e = none_yet n (no_rows (rows_to p g n) (ap (option_map (row_at g)) e ∙ find_first (row_at g) p (count_up 0 n)))

module _ (m : Making) (laws : Lawful m) (p : ℕ → Bool) (g : Given) where
  -- with one row more, that the best before it does or does not outlast
  chosen_so : (b : Bool) (n k : ℕ) → b ≡ outdoes m true (row_at g n) (row_at g k)
      → option_map (row_at g) (Some (cond b n k)) ≡ cond (outdoes m true (row_at g n) (row_at g k)) (Some (row_at g n)) (Some (row_at g k))
  chosen_so true n k h = ap (λ t. cond t (Some (row_at g n)) (Some (row_at g k))) h
  chosen_so false n k h = ap (λ t. cond t (Some (row_at g n)) (Some (row_at g k))) h

  passes_on : (n k : ℕ) (b : Bool) → p n ≡ true → b ≡ outdoes m true (row_at g n) (row_at g k) → Found (outermost_top m) p g n (Some k) → Found (outermost_top m) p g (n + 1) (Some (cond b n k))
  passes_on n k b e w h = record {
    puts_up = chosen_so b n k w
        ∙ ap (λ x. or_row (record { making = m; in_order = false }) None x (row_at g n)) h.puts_up
        ∙ sym (top_push m laws (rows_to p g n) (row_at g n)) ∙ ap (outermost_top m) (sym (rows_more p g n true e));
    among = λ r q. below b r (h.among k refl) q;
  }
    where
      below : (t : Bool) (r : ℕ) → k < n → Some (cond t n k) ≡ Some r → r < n + 1
      below true r l q = let z : n ≡ r = cc in omega arith
      below false r l q = let z : k ≡ r = cc in omega arith

  stays : (n : ℕ) (o : Option ℕ) → p n ≡ false → Found (outermost_top m) p g n o → Found (outermost_top m) p g (n + 1) o
  stays n o e h = record {
    puts_up = h.puts_up ∙ ap (outermost_top m) (sym (rows_more p g n false e));
    among = λ r q. omega (arith, h.among r q);
  }

  -- the first that passes
  starts : (k : ℕ) → p k ≡ true → rows_to p g k ≡ [] → Found (outermost_top m) p g (k + 1) (Some k)
  starts k e h = record {
    puts_up = ap (λ x. or_row (record { making = m; in_order = false }) None x (row_at g k)) (sym (top_none m) ∙ ap (outermost_top m) (sym h))
        ∙ sym (top_push m laws (rows_to p g k) (row_at g k)) ∙ ap (outermost_top m) (sym (rows_more p g k true e));
    among = λ r q. let z : k ≡ r = cc in omega arith;
  }

  pub best_first : (n k : ℕ) → Some k ≡ find p (count_up 0 n) → Found (outermost_top m) p g (k + 1) (Some k)
  best_first n k e = let q = first_so p 0 n k (sym e) in let z : k - 0 ≡ k = omega arith in starts k q.passes (ap (λ i. map (row_at g) (filter p (count_up 0 i))) (sym z) ∙ ap (map (row_at g)) q.none_below)

  pub best_more : (n k k' : ℕ) (t b : Bool) → t ≡ p n → b ≡ outdoes m true (row_at g n) (row_at g k) → k' ≡ cond (t && b) n k
      → Found (outermost_top m) p g n (Some k) → Found (outermost_top m) p g (n + 1) (Some k')
  best_more n k k' true b e w is h = subst (λ i. Found (outermost_top m) p g (n + 1) (Some i)) (sym is) (passes_on n k b (sym e) w h)
  best_more n k k' false b e w is h = subst (λ i. Found (outermost_top m) p g (n + 1) (Some i)) (sym is) (stays n (Some k) (sym e) h)

module _ (m : Making) (p : ℕ → Bool) (g : Given) (n : ℕ) (o : Option ℕ) where
  pub first_found : m.first ≡ true → o ≡ find p (count_up 0 n) → Found (outermost m) p g n o
  first_found f e = record {
    puts_up = ap (option_map (row_at g)) e ∙ find_first (row_at g) p (count_up 0 n) ∙ ap (λ b. cond b (earliest (rows_to p g n)) (latest (rows_to p g n))) (sym f);
    among = λ r h. omega (arith, (first_so p 0 n r (sym e ∙ h)).range.1);
  }

  pub last_found : m.first ≡ false → o ≡ find p (reverse (count_up 0 n)) → Found (outermost m) p g n o
  last_found f e = record {
    puts_up = ap (option_map (row_at g)) e ∙ find_last (row_at g) p (count_up 0 n) ∙ ap (λ b. cond b (earliest (rows_to p g n)) (latest (rows_to p g n))) (sym f);
    among = λ r h. last_below p n r (sym e ∙ h);
  }

-- what input in order puts up, and what else does
module _ (a : Alone) (marks : Option Flags) (p : ℕ → Bool) (g : Given) (n : ℕ) (o : Option ℕ) where
  pub found_end : Found (outermost a.making) p g n o → arrives a marks ≡ true → Found (picked a marks) p g n o
  unfolding picked
  found_end h e = record {
    puts_up = h.puts_up ∙ ap (λ b. outermost a.making (cond b (rows_to p g n) (top_rows a.making (rows_to p g n)))) (sym e);
    among = h.among;
  }

  pub found_best : Found (outermost_top a.making) p g n o → arrives a marks ≡ false → Found (picked a marks) p g n o
  unfolding picked
  found_best h e = record {
    puts_up = h.puts_up ∙ ap (λ b. outermost a.making (cond b (rows_to p g n) (top_rows a.making (rows_to p g n)))) (sym e);
    among = h.among;
  }

-- what is stored of the row that was found is what is taken of the batch
pub found_taken : (a : Alone) (marks : Option Flags) (g : Given) (held : Option Kept) (o : Option ℕ) → Found (picked a marks) (counts a.making g marks) g g.value.rows o
    → stored a marks held (option_map (row_at g) o) ≡ taken a marks held g
unfolding counted
found_taken a marks g held o h = ap (stored a marks held) h.puts_up

-- which rows of an update count, by the null policy
module _ (m : Making) (g : Given) (r : ℕ) where
  pub counts_known : m.ignore_nulls ≡ true → not (is_null (cell_at g.value r)) ≡ counts m g None r
  unfolding admitted
  counts_known e = ap (λ b. not (b && is_null (cell_at g.value r))) (sym e)

  pub counts_each : m.ignore_nulls ≡ false → true ≡ counts m g None r
  unfolding admitted
  counts_each e = ap (λ b. not (b && is_null (cell_at g.value r))) (sym e)
