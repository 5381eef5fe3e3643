-- The cells of a source by rows: how many, one more of them, and those that stand in a list.
use Rattle.std.proofs.Common.{◌≡◌, ℕ, zero, suc, ◌+◌, ◌*◌, ◌<◌, ◌≤◌, Bool, false, not, List, [], ◌∷◌, ◌++◌, map, length, get_or, take, sym, refl, ap, ◌∙◌, append-nil, add-one, arith}
use borrow.Rule.Slice.PartMut.{put_mid}
use Rattle.std.specs.List.{flat_map}
use Rattle.std.proofs.lemmas.List.{length-map, get_or-map, ext_get_or, map-append, take_all, take_more}
use Rattle.std.proofs.lemmas.List.Concat.{flat_map-append}
use Rattle.std.proofs.lemmas.List.FromFn.{length-map-range_with_len, get_or-map-range_with_len}
use Rattle.std.proofs.lemmas.Simd.{map-map}
use Rattle.column.specs.Cells.{Cell, null, is_null}
use Rattle.column.specs.Columns.{count_up}
use Rattle.layout.specs.Layout.{over}
use Rattle.layout.proofs.Overs.{over_part, joined_length}
use Rattle.layout.proofs.Packing.{count_up_counting}

pub count_up_next : (a n : ℕ) → count_up a (suc n) ≡ count_up a n ++ (a + n) ∷ []
count_up_next a zero = ap (λ k. k ∷ []) (let e : a ≡ a + 0 = omega arith in e)
count_up_next a (suc n) = ap (λ ks. a ∷ ks) (count_up_next (suc a) n ∙ ap (λ k. count_up (suc a) n ++ k ∷ []) (let e : suc a + n ≡ a + suc n = omega arith in e))

pub count_up_more : (n : ℕ) → count_up 0 (n + 1) ≡ count_up 0 n ++ n ∷ []
count_up_more n = ap (count_up 0) (add-one n) ∙ count_up_next 0 n ∙ ap (λ k. count_up 0 n ++ k ∷ []) (let e : 0 + n ≡ n = omega arith in e)

-- what a function gives by row
module _ {X : Type 0} (shows : ℕ → X) where
  abbrev pub rows_of : ℕ → List X
  rows_of n = map shows (count_up 0 n)

  pub rows_more : (n : ℕ) → rows_of (n + 1) ≡ rows_of n ++ shows n ∷ []
  rows_more n = ap (map shows) (count_up_more n) ∙ map-append shows (count_up 0 n) (n ∷ [])

  pub rows_length : (n : ℕ) → length (rows_of n) ≡ n
  rows_length n = ap (λ ks. length (map shows ks)) (count_up_counting 0 n) ∙ length-map-range_with_len shows 0 n

  pub rows_at : (n k : ℕ) (d : X) → k < n → get_or (rows_of n) k d ≡ shows k
  rows_at n k d h = ap (λ ks. get_or (map shows ks) k d) (count_up_counting 0 n) ∙ get_or-map-range_with_len shows 0 n k k d h (omega arith)

  -- the bytes that a function gives by cell, with those of one row more
  pub joined_next : (f : X → List ℕ) (n : ℕ) → flat_map f (rows_of (n + 1)) ≡ flat_map f (rows_of n) ++ f (shows n)
  joined_next f n =
      ap (flat_map f) (rows_more n) ∙ flat_map-append f (rows_of n) (shows n ∷ [])
      ∙ ap (λ ys. flat_map f (rows_of n) ++ ys) (append-nil (f (shows n)))

  -- the same behind what was written before, where each cell has bytes of one length
  pub wide_put : (f : X → List ℕ) (w : ℕ) → ((c : X) → length (f c) ≡ w) → (i at k : ℕ) (ys xs : List ℕ) → at ≡ w * i → k ≡ w → ys ≡ f (shows i)
      → put_mid at k (over (flat_map f (rows_of i)) xs) ys ≡ over (flat_map f (rows_of (i + 1))) xs
  wide_put f w all i at k ys xs a e y =
      over_part (flat_map f (rows_of i)) ys xs at k
      (joined_length f w all (rows_of i) ∙ ap (λ n. w * n) (rows_length i) ∙ sym a)
      (ap length y ∙ all (shows i) ∙ sym e)
      ∙ ap (λ p. over p xs) (ap (λ z. flat_map f (rows_of i) ++ z) y ∙ sym (joined_next f i))

-- a list, and a default past its end, by row: the rows of the list are its front
pub rows_front : {X : Type 0} (xs : List X) (d : X) (n : ℕ) → n ≤ length xs → map (λ r. get_or xs r d) (count_up 0 n) ≡ take n xs
rows_front xs d zero h = refl
rows_front xs d (suc n) h =
    ap (map (λ r. get_or xs r d)) (ap (count_up 0) (sym (add-one n))) ∙ rows_more (λ r. get_or xs r d) n
    ∙ ap (λ ys. ys ++ get_or xs n d ∷ []) (rows_front xs d n (omega arith))
    ∙ sym (take_more xs n d (omega arith)) ∙ ap (λ k. take k xs) (add-one n)

-- what is made of each element of a list, by row
pub rows_made : {X Y : Type 0} (f : X → Y) (xs : List X) (d : X) → map (λ r. f (get_or xs r d)) (count_up 0 (length xs)) ≡ map f xs
rows_made f xs d =
    sym (map-map f (λ r. get_or xs r d) (count_up 0 (length xs)))
    ∙ ap (map f) (rows_front xs d (length xs) (omega arith) ∙ take_all (length xs) xs (omega arith))

-- which of the rows are there
pub there_rows : (shows : ℕ → Cell) (n : ℕ) (bs : List Bool) → length bs ≡ n → ((k : ℕ) → k < n → get_or bs k false ≡ not (is_null (shows k))) → bs ≡ map (λ c. not (is_null c)) (map shows (count_up 0 n))
there_rows shows n bs e h =
    let l = rows_length shows n in
    let m = length-map (map shows (count_up 0 n)) (λ c. not (is_null c)) in
    ext_get_or false _ _ (omega arith)
    (λ k g. h k (omega arith) ∙ ap (λ c. not (is_null c)) (sym (rows_at shows n k null (omega arith))) ∙ sym (get_or-map (λ c. not (is_null c)) (map shows (count_up 0 n)) k null false (omega arith)))
