-- What a batch brings to each group of a book, and what the accumulator then shows.
use Rattle.std.proofs.Common.{◌≡◌, ℕ, ◌+◌, ◌-◌, ◌<◌, ◌≤◌, Bool, true, false, cond, ◌&&◌, eqb, List, [], ◌∷◌, ◌++◌, map, length, get_or, set, replicate, None, filter, Option, sym, refl, ap, ◌∙◌, ⊎_elim, append_assoc, append-nil, arith, length-set}
use lib.ListN.{get_or-map}
use Rattle.std.proofs.lemmas.List.{map-set, set-get_or, get_or-set_same, get_or-set_other, get_or_past, ext_get_or, set-set, length-append, length-replicate}
use Rattle.std.proofs.lemmas.Bool.{eqb-true, eqb-false, cases_eq}
use Rattle.column.specs.Columns.{Flags}
use Rattle.book.specs.Winners.{Row, Making, Lawful, winner, winners, top_rows}
use Rattle.book.specs.Batches.{Book, Batch, row_at, admitted, entries, grown, entered, every_row}
use Rattle.book.proofs.Winning.{winner_append}
use Rattle.book.proofs.ByGroup.{stored, stored_winner, rows_for}
use Rattle.grouped.specs.Walk.{brought, gained, GotBelow}

-- Entries, group by group

pub entered_many : (es : List (ℕ × Row)) (b : Book) → length (entered b es) ≡ length b
entered_many [] b = refl
entered_many (e ∷ es) b = entered_many es (set b e.0 (get_or b e.0 [] ++ e.1 ∷ [])) ∙ length-set b e.0 _

pub entered_at : (es : List (ℕ × Row)) (b : Book) (k : ℕ) → k < length b → get_or (entered b es) k [] ≡ get_or b k [] ++ rows_for k es
entered_at [] b k h = sym (append-nil (get_or b k []))
entered_at (e ∷ es) b k h = go (eqb e.0 k) refl (entered_at es (set b e.0 (get_or b e.0 [] ++ e.1 ∷ [])) k)
  where
    new : Book
    new = set b e.0 (get_or b e.0 [] ++ e.1 ∷ [])

    go : (t : Bool) → eqb e.0 k ≡ t
        → (k < length new → get_or (entered new es) k [] ≡ get_or new k [] ++ rows_for k es)
        → get_or (entered new es) k [] ≡ get_or b k [] ++ map (λ (e : ℕ × Row). e.1) (cond t (e ∷ filter (λ (e : ℕ × Row). eqb e.0 k) es) (filter (λ (e : ℕ × Row). eqb e.0 k) es))
    go true f ih =
        let j : e.0 ≡ k = eqb-true e.0 k f in
        let n : length new ≡ length b = length-set b e.0 _ in
        let s : get_or new k [] ≡ get_or b k [] ++ e.1 ∷ [] =
        ap (λ i. get_or (set b i (get_or b i [] ++ e.1 ∷ [])) k []) j ∙ get_or-set_same b k (get_or b k [] ++ e.1 ∷ []) [] h in
        ih (omega arith) ∙ ap (λ l. l ++ rows_for k es) s ∙ append_assoc (get_or b k []) (e.1 ∷ []) (rows_for k es)
    go false f ih =
        let n : length new ≡ length b = length-set b e.0 _ in
        let s : get_or new k [] ≡ get_or b k [] = get_or-set_other b e.0 k _ [] (λ i. eqb-false e.0 k f (sym i)) in
        ih (omega arith) ∙ ap (λ l. l ++ rows_for k es) s

-- the rows of a group, read off a batch's entries
rows_for_is : (m : Making) (b : Batch) (marks : Option Flags) (k : ℕ) (xs : List ℕ)
    → rows_for k (map (λ r. (get_or b.indices r 0, row_at b.columns r)) (filter (admitted m b.columns marks) xs))
    ≡ map (row_at b.columns) (filter (λ r. eqb (get_or b.indices r 0) k && admitted m b.columns marks r) xs)
rows_for_is m b marks k [] = refl
rows_for_is m b marks k (r ∷ xs) = go (admitted m b.columns marks r) (eqb (get_or b.indices r 0) k) refl (rows_for_is m b marks k xs)
  where
    rest : List ℕ
    rest = filter (admitted m b.columns marks) xs

    both : List ℕ
    both = filter (λ r. eqb (get_or b.indices r 0) k && admitted m b.columns marks r) xs

    go : (a t : Bool) → eqb (get_or b.indices r 0) k ≡ t → rows_for k (map (λ r. (get_or b.indices r 0, row_at b.columns r)) rest) ≡ map (row_at b.columns) both
        → rows_for k (map (λ r. (get_or b.indices r 0, row_at b.columns r)) (cond a (r ∷ rest) rest)) ≡ map (row_at b.columns) (cond (t && a) (r ∷ both) both)
    go true true q ih = rw q (ap (λ l. row_at b.columns r ∷ l) ih)
    go true false q ih = rw q ih
    go false true q ih = ih
    go false false q ih = ih

-- a whole batch, where as many groups are held as its total
pub batch_got : (m : Making) (b : Batch) (marks : Option Flags) (book : Book) → length b.indices ≡ b.columns.value.rows → length book ≡ b.total
    → GotBelow m b marks b.total book (entered book (entries m b marks))
unfolding entries
batch_got m b marks book sized many =
    let es = entries m b marks in
    let n = entered_many es book in
    record {
      as_many = n;
      got = λ k h l. entered_at es book k l ∙ ap (λ xs. get_or book k [] ++ xs)
          (rows_for_is m b marks k (every_row b.columns) ∙ ap (brought m b marks k) (sym sized));
      others = λ k h. get_or_past (entered book es) k [] (omega arith) ∙ sym (get_or_past book k [] (omega arith));
    }

-- as many groups as the total after growing
pub grows_long : {X : Type 0} (xs : List X) (x : X) (n : ℕ) → length xs ≤ n → length (xs ++ replicate (n - length xs) x) ≡ n
grows_long xs x n h = let l = length-append xs (replicate (n - length xs) x) in let k = length-replicate (n - length xs) x in omega arith

pub grown_many : (b : Book) (total : ℕ) → length b ≤ total → length (grown b total) ≡ total
grown_many b total h = grows_long b [] total h

-- one group more: the book before its rows came

pub got_none : (m : Making) (b : Batch) (marks : Option Flags) (before after : Book) → GotBelow m b marks 0 before after → after ≡ before
got_none m b marks before after h = ext_get_or [] after before h.as_many (λ i l. h.others i (omega arith))

pub got_more : (m : Making) (b : Batch) (marks : Option Flags) (g : ℕ) (before after : Book) → g < length before → GotBelow m b marks (g + 1) before after
    → (middle : Book) × GotBelow m b marks g before middle × (after ≡ gained middle g (brought m b marks g (length b.indices)))
got_more m b marks g before after l h =
    let held : List Row = get_or before g [] in
    let more : List Row = brought m b marks g (length b.indices) in
    let middle : Book = set after g held in
    let n = h.as_many in
    let at : get_or middle g [] ≡ held = get_or-set_same after g held [] (omega arith) in (
      middle,
      record {
        as_many = length-set after g held ∙ n;
        got = λ k i j. get_or-set_other after g k held [] (λ e. omega arith) ∙ h.got k (omega arith) j;
        others = λ k i. ⊎_elim
            (λ e. ap (λ x. get_or middle x []) e ∙ at ∙ ap (λ x. get_or before x []) (sym e))
            (λ e. get_or-set_other after g k held [] e ∙ h.others k (omega (arith, e)))
            (cases_eq k g);
      },
      sym (ap (λ x. set middle g (x ++ more)) at ∙ set-set after g held (held ++ more) ∙ ap (set after g) (sym (h.got g (omega arith) l)) ∙ set-get_or after g []),
    )

-- Winners

module _ (m : Making) (laws : Lawful m) where
  -- the winners of a book in which a group got more rows
  pub gained_winners : (b : Book) (g : ℕ) (rows : List Row) → winners m (gained b g rows) ≡ set (winners m b) g (stored m (get_or (winners m b) g None) (winner m rows))
  unfolding winners winner top_rows
  gained_winners b g rows =
      map-set (winner m) b g (get_or b g [] ++ rows)
      ∙ ap (set (map (winner m) b) g)
      (winner_append m laws (get_or b g []) rows ∙ sym (stored_winner m laws (winner m (get_or b g [])) rows) ∙ ap (λ o. stored m o (winner m rows)) (sym (get_or-map (winner m) b g [])))
