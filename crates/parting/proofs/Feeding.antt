-- The batches that a grouped and an ungrouped LAST are both given bring the same rows.
use Rattle.std.proofs.Common.{◌≡◌, ℕ, zero, suc, ◌≤◌, Bool, true, false, cond, eqb, leb, ltb, List, [], ◌∷◌, ◌++◌, map, length, get_or, drop, replicate, Some, None, filter, Option, sym, refl, ap, ap₂, ◌∙◌, append_assoc, append-nil, arith}
use Rattle.std.proofs.Math.Seq.{drop-append_seam}
use Rattle.std.proofs.lemmas.Bool.{eq-eqb, le-ltb, lt-leb}
use Rattle.std.proofs.lemmas.List.{length-replicate}
use Rattle.column.specs.Checks.{first_of, unless_refused}
use Rattle.column.specs.Faults.{Fault, fault, GROUP, in_accumulator}
use Rattle.book.specs.Winners.{Row, Making, Lawful, beats, top_rows, earliest, winners}
use Rattle.book.specs.Batches.{Book, Given, every_row, row_at, admitted, entries, entered}
use Rattle.book.specs.Declines.{at_row, cols, kind, rows, null_flag, batch_declined, ungrouped_declined}
use Rattle.keeping.specs.Replies.{no_outputs}
use Rattle.book.specs.Calls.{update, taken_in, after}
use Rattle.book.proofs.Following.{winners_length}
use Rattle.book.proofs.ByGroup.{stored}
use Rattle.ungrouped.specs.Rows.{counted, latest, picked}
use Rattle.ungrouped.specs.declared.origin.Origin.TheVariants as origin
use Rattle.ungrouped.specs.Held.{Kept, shown_row, outdoes, taken}
use Rattle.ungrouped.specs.Held as Held
use Rattle.ungrouped.specs.Calls as Ungrouped
use Rattle.parting.specs.Batches.{as_batch, alone_calls, alone_of, group, fed, fed_all, brought}
use Rattle.parting.proofs.Rounds.{rows_of, stored_all}

index_zero : (n r : ℕ) → ◌≡◌ {A = ℕ} (get_or (replicate n 0) r 0) 0
index_zero zero r = refl
index_zero (suc n) zero = refl
index_zero (suc n) (suc r) = index_zero n r

no_row : (test : ℕ → Bool) (f : ℕ → Fault) (rs : List ℕ) → ((r : ℕ) → test r ≡ false) → at_row test f rs ≡ None
no_row test f [] h = refl
no_row test f (r ∷ rs) h = rw (h r) (no_row test f rs h)

first_more : (o : Option Fault) (cs ds : List (Option Fault)) → first_of cs ≡ first_of ds → first_of (o ∷ cs) ≡ first_of (o ∷ ds)
first_more None cs ds e = e
first_more (Some f) cs ds e = refl

-- the checks that only a grouped batch has do not hold
same_declined : (m : Making) (g : Given) (held : ℕ) → held ≤ 1 → batch_declined m held (as_batch g) None ≡ ungrouped_declined m g None
unfolding batch_declined ungrouped_declined null_flag
same_declined m g held h =
    let a : eqb (length {A = ℕ} (replicate g.value.rows 0)) g.value.rows ≡ true = eq-eqb _ _ (length-replicate g.value.rows 0) in
    let b : ltb 1 held ≡ false = le-ltb 1 held h in
    let c = no_row (λ r. leb 1 (get_or (replicate g.value.rows 0) r 0)) (λ r. fault GROUP in_accumulator 9 r) (every_row g)
    (λ r. lt-leb 1 (get_or (replicate g.value.rows 0) r 0) (let z = index_zero g.value.rows r in omega arith)) in
    rw (a, b, c) (first_more (cols m g) _ _ (first_more (kind m g) _ _ (first_more (rows g None) _ _ refl)))

-- a row of group 0
abbrev in_zero : Row → ℕ × Row
in_zero r = (0, r)

same_entries : (m : Making) (g : Given) → entries m (as_batch g) None ≡ map in_zero (counted m g None)
unfolding entries counted
same_entries m g = go (filter (admitted m g None) (every_row g))
  where
    entry : ℕ → ℕ × Row
    entry r = (get_or (replicate g.value.rows 0) r 0, row_at g r)

    go : (rs : List ℕ) → map entry rs ≡ map in_zero (map (row_at g) rs)
    go [] = refl
    go (r ∷ rs) = λ i. (index_zero g.value.rows r i, row_at g r) ∷ go rs i

entered_one : (q : List Row) (rs : List Row) → entered (q ∷ []) (map in_zero rs) ≡ (q ++ rs) ∷ []
entered_one q [] = ap (λ x. x ∷ []) (sym (append-nil q))
entered_one q (r ∷ rs) = entered_one (q ++ r ∷ []) rs ∙ ap (λ x. x ∷ []) (append_assoc q (r ∷ []) rs)

-- a book of at most one group
pub data One : Book → Type 0 where
  none_yet : One []
  just : (q : List Row) → One (q ∷ [])

one_length : {b : Book} → One b → length b ≤ 1
one_length none_yet = omega arith
one_length (just q) = omega arith

abbrev rows_if : Option Fault → List Row → List Row
rows_if None rs = rs
rows_if (Some f) rs = []

-- the rows that a batch brings
abbrev new_rows : Making → Given → List Row
new_rows m g = rows_if (ungrouped_declined m g None) (counted m g None)

-- a book after a batch: still one group, with the new rows at its end
record Step (m : Making) (b : Book) (g : Given) (after_it : Book) : Type 0 where
  pub one : One after_it
  pub grew : group after_it ≡ group b ++ new_rows m g

taken_is : (m : Making) (g : Given) {b : Book} → One b → taken_in m b (update (as_batch g) None) ≡ (group b ++ counted m g None) ∷ []
taken_is m g none_yet = ap (entered ([] ∷ [])) (same_entries m g) ∙ entered_one [] (counted m g None)
taken_is m g (just q) = ap (entered (q ∷ [])) (same_entries m g) ∙ entered_one q (counted m g None)

module _ (m : Making) (laws : Lawful m) where
  fed_is : {b : Book} (g : Given) → One b → fed m b g ≡ unless_refused (ungrouped_declined m g None) ((group b ++ counted m g None) ∷ []) b
  unfolding after
  fed_is {b} g o =
      let n = winners_length m laws b in let l = one_length o in
      ap₂ (λ d x. unless_refused d x b) (same_declined m g (length (winners m b)) (omega arith)) (taken_is m g o)

  step : {b : Book} (g : Given) → One b → Step m b g (fed m b g)
  step {b} g o = rw (fed_is g o) (go (ungrouped_declined m g None) refl)
    where
      go : (d : Option Fault) → ungrouped_declined m g None ≡ d → Step m b g (unless_refused d ((group b ++ counted m g None) ∷ []) b)
      go None e = record { one = just _; grew = ap (λ d. group b ++ rows_if d (counted m g None)) (sym e) }
      go (Some f) e = record { one = o; grew = sym (append-nil (group b)) ∙ ap (λ d. group b ++ rows_if d (counted m g None)) (sym e) }

  brought_is : {b : Book} (g : Given) → One b → drop (length (group b)) (group (fed m b g)) ≡ new_rows m g
  brought_is {b} g o = ap (drop (length (group b))) (step g o).grew ∙ drop-append_seam (group b) (new_rows m g)

  pub group_is : (gs : List Given) (b : Book) → One b → group (fed_all m b gs) ≡ group b ++ rows_of (brought m b gs)
  group_is [] b o = sym (append-nil (group b))
  group_is (g ∷ gs) b o =
      group_is gs (fed m b g) (step g o).one ∙ ap (λ l. l ++ rows_of (brought m (fed m b g) gs)) ((step g o).grew ∙ ap (λ l. group b ++ l) (sym (brought_is g o)))
      ∙ append_assoc (group b) (drop (length (group b)) (group (fed m b g))) (rows_of (brought m (fed m b g) gs))

  module _ (last : m.first ≡ false) where
    put_up : (rs : List Row) → picked (alone_of m) None rs ≡ latest (top_rows m rs)
    unfolding picked
    put_up rs = ap (λ f. cond f (earliest (top_rows m rs)) (latest (top_rows m rs))) last

    shown_stored : (held : Option Kept) (o : Option Row) → shown_row (Held.stored (alone_of m) None held o) ≡ stored m (shown_row held) o
    unfolding outdoes
    shown_stored held None = refl
    shown_stored None (Some r) = refl
    shown_stored (Some k) (Some r) = go (beats m r k.row)
      where
        go : (b : Bool) → shown_row (cond b (Some (record { row = r; came_by = origin.Update })) (Some k)) ≡ cond b (Some r) (Some k.row)
        go true = refl
        go false = refl

    shown_after : (held : Option Kept) (g : Given) → shown_row (Ungrouped.after (alone_of m) held (Ungrouped.update g) no_outputs) ≡ stored m (shown_row held) (latest (top_rows m (new_rows m g)))
    unfolding Ungrouped.after Ungrouped.declined top_rows
    shown_after held g = go (ungrouped_declined m g None)
      where
        go : (d : Option Fault) → shown_row (unless_refused d (taken (alone_of m) None held g) held) ≡ stored m (shown_row held) (latest (top_rows m (rows_if d (counted m g None))))
        go None = shown_stored held (picked (alone_of m) None (counted m g None)) ∙ ap (stored m (shown_row held)) (put_up (counted m g None))
        go (Some f) = refl

    pub shown_on : (gs : List Given) (b : Book) (held : Option Kept) → One b
        → shown_row (Ungrouped.held_on (alone_of m) held (alone_calls gs)) ≡ stored_all m laws (shown_row held) (brought m b gs)
    shown_on [] b held o = refl
    shown_on (g ∷ gs) b held o =
        shown_on gs (fed m b g) (Ungrouped.after (alone_of m) held (Ungrouped.update g) no_outputs) (step g o).one
        ∙ ap (λ x. stored_all m laws x (brought m (fed m b g) gs)) (shown_after held g ∙ ap (λ l. stored m (shown_row held) (latest (top_rows m l))) (sym (brought_is g o)))
