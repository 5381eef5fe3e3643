-- Truth values by row, eight to a byte: one row more, eight more, and the first few of eight.
use Rattle.std.proofs.Common.{◌≡◌, ℕ, zero, suc, ◌+◌, ◌*◌, ◌/◌, ◌%◌, ◌^◌, ◌<◌, ◌≤◌, Bool, true, false, List, [], ◌∷◌, ◌++◌, map, length, take, drop, set, is_some, Some, None, Option, refl, sym, ap, ◌∙◌, ap₂, add-one, arith}
use Rattle.std.specs.Option.{unwrap_or}
use Rattle.std.proofs.Math.Nat.{pow-suc}
use Rattle.std.proofs.lemmas.List.{length-map, length-take-le, map-append, take-append-drop}
use Rattle.std.proofs.lemmas.List.FromFn.{length-map-range_with_len, take-map-range_with_len}
use Rattle.std.proofs.lemmas.Nat.{mod_low, one_shl}
use Rattle.column.specs.Columns.{count_up}
use Rattle.layout.specs.Layout.{binary, packed, known, holds, over}
use Rattle.layout.specs.Written.{eight}
use Rattle.layout.proofs.Packing.{count_up_counting, binary_below, byte_put}
use Rattle.layout.proofs.Sources.{count_up_next, rows_length}

pub known_some : (o : Option Bool) → is_some o ≡ known o
known_some None = refl
known_some (Some b) = refl

pub holds_some : (o : Option Bool) → unwrap_or o false ≡ holds o
holds_some None = refl
holds_some (Some b) = refl

-- one row more of a byte
pub shown_next : (p : ℕ → Bool) (bs : List Bool) (a i : ℕ) (b : Bool) → bs ≡ map p (count_up a i) → b ≡ p (a + i) → bs ++ b ∷ [] ≡ map p (count_up a (i + 1))
shown_next p bs a i b e f =
    ap₂ (λ xs x. xs ++ x ∷ []) e f
    ∙ sym (map-append p (count_up a i) ((a + i) ∷ []))
    ∙ ap (map p) (sym (ap (count_up a) (add-one i) ∙ count_up_next a i))

pub eight_is : (p : ℕ → Bool) (j i n : ℕ) (bs : List Bool) → n ≡ binary bs → bs ≡ map p (count_up (8 * j) i) → i ≡ 8 → n ≡ eight p j
unfolding eight
eight_is p j i n bs e f h = e ∙ ap binary (f ∙ ap (λ k. map p (count_up (8 * j) k)) h)

-- the row that the code reads, counted modulo 2 ^ 64
pub row_read : (j i : ℕ) → 8 * j + 7 < 2 ^ 64 → i < 8 → (j * 8 % 2 ^ 64 + i) % 2 ^ 64 ≡ 8 * j + i
row_read j i h k = omega arith

-- rows behind rows
count_up_both : (a m k : ℕ) → count_up a m ++ count_up (a + m) k ≡ count_up a (m + k)
count_up_both a zero k = let e : a + 0 ≡ a = omega arith in let f : 0 + k ≡ k = omega arith in rw (e, f)
count_up_both a (suc m) k =
    let e : a + suc m ≡ suc a + m = omega arith in
    let f : suc m + k ≡ suc (m + k) = omega arith in
    rw (e, f) (ap (λ ks. a ∷ ks) (count_up_both (suc a) m k))

module _ (v : Option Bool → Bool) (shows : ℕ → Option Bool) where
  abbrev p : ℕ → Bool
  p r = v (shows r)

  both : (ks : List ℕ) → map v (map shows ks) ≡ map p ks
  both [] = refl
  both (k ∷ ks) = ap (λ bs. p k ∷ bs) (both ks)

  flags_both : (m k : ℕ) → map v (map shows (count_up 0 m)) ++ map p (count_up m k) ≡ map v (map shows (count_up 0 (m + k)))
  flags_both m k =
      let z : 0 + m ≡ m = omega arith in
      let u : count_up 0 m ++ count_up m k ≡ count_up 0 (m + k) = rw z at (count_up_both 0 m k) in
      ap (λ bs. bs ++ map p (count_up m k)) (both (count_up 0 m))
      ∙ sym (map-append p (count_up 0 m) (count_up m k))
      ∙ ap (map p) u
      ∙ sym (both (count_up 0 (m + k)))

  flags_length : (m : ℕ) → length (map v (map shows (count_up 0 m))) ≡ m
  flags_length m = length-map (map shows (count_up 0 m)) v ∙ rows_length shows m

  some_length : (a k : ℕ) → length (map p (count_up a k)) ≡ k
  some_length a k = ap (λ ks. length (map p ks)) (count_up_counting a k) ∙ length-map-range_with_len p a k

  -- a byte of eight rows more, and of fewer
  rows_put : (j k n : ℕ) (out before : List ℕ) → 0 < k → k ≤ 8 → n ≡ binary (map p (count_up (8 * j) k)) → j < length before
      → out ≡ over (packed (map v (map shows (count_up 0 (8 * j))))) before → set out j n ≡ over (packed (map v (map shows (count_up 0 (8 * j + k))))) before
  rows_put j k n out before l m e h o =
      let a = some_length (8 * j) k in
      byte_put (map v (map shows (count_up 0 (8 * j)))) (map p (count_up (8 * j) k)) j n out before (flags_length (8 * j)) (omega arith) (omega arith) e h o
      ∙ ap (λ bs. over (packed bs) before) (flags_both (8 * j) k)

  binary_both : (xs ys : List Bool) → binary (xs ++ ys) ≡ binary ys * 2 ^ length xs + binary xs
  binary_both [] ys = omega arith
  binary_both (true ∷ xs) ys = let ih = binary_both xs ys in rw (pow-suc 2 (length xs)) (omega arith)
  binary_both (false ∷ xs) ys = let ih = binary_both xs ys in rw (pow-suc 2 (length xs)) (omega arith)

  binary_front : (bs : List Bool) (k : ℕ) → k ≤ length bs → binary bs % 2 ^ k ≡ binary (take k bs)
  binary_front bs k h =
      let l = length-take-le k bs h in
      let b : binary (take k bs) < 2 ^ k = rw l at (binary_below (take k bs)) in
      let e : binary bs ≡ binary (drop k bs) * 2 ^ k + binary (take k bs) = rw l at (ap binary (sym (take-append-drop k bs)) ∙ binary_both (take k bs) (drop k bs)) in
      ap (λ n. n % 2 ^ k) e ∙ mod_low (binary (drop k bs)) k (binary (take k bs)) b

  pub eight_put : (j n : ℕ) (out before : List ℕ) → n ≡ eight p j → j < length before → out ≡ over (packed (map v (map shows (count_up 0 (8 * j))))) before
      → set out j n ≡ over (packed (map v (map shows (count_up 0 (8 * (j + 1)))))) before
  unfolding eight
  eight_put j n out before e h o =
      rows_put j 8 n out before (omega arith) (omega arith) e h o
      ∙ ap (λ m. over (packed (map v (map shows (count_up 0 m)))) before) (let z : 8 * j + 8 ≡ 8 * (j + 1) = omega arith in z)

  pub last_put : (rows n : ℕ) (out before : List ℕ) → n ≡ eight p (rows / 8) → 0 < rows % 8 → rows / 8 < length before
      → out ≡ over (packed (map v (map shows (count_up 0 (8 * (rows / 8)))))) before
      → set out (rows / 8) (n % (1 * 2 ^ (rows % 8) % 256)) ≡ over (packed (map v (map shows (count_up 0 rows)))) before
  unfolding eight
  last_put rows n out before e l h o =
      let k = rows % 8 in
      let j = rows / 8 in
      let s : 1 * 2 ^ k % 256 ≡ 2 ^ k = one_shl k 8 (omega arith) in
      let f : take k (map p (count_up (8 * j) 8)) ≡ map p (count_up (8 * j) k) =
      ap (λ ks. take k (map p ks)) (count_up_counting (8 * j) 8) ∙ take-map-range_with_len p (8 * j) 8 k (omega arith) ∙ ap (map p) (sym (count_up_counting (8 * j) k)) in
      let a = some_length (8 * j) 8 in
      let b : n % (1 * 2 ^ k % 256) ≡ binary (map p (count_up (8 * j) k)) =
      ap₂ (λ x y. x % y) e s ∙ binary_front (map p (count_up (8 * j) 8)) k (omega arith) ∙ ap binary f in
      rows_put j k (n % (1 * 2 ^ k % 256)) out before l (omega arith) b h o
      ∙ ap (λ m. over (packed (map v (map shows (count_up 0 m)))) before) (let z : 8 * j + k ≡ rows = omega arith in z)
