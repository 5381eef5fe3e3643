-- Truth values as bits: a byte bit by bit, and the packed bytes by their index.
use Rattle.std.proofs.Common.{◌≡◌, ℕ, zero, suc, ◌+◌, ◌-◌, ◌*◌, ◌/◌, ◌%◌, ◌^◌, ◌<◌, ◌≤◌, Bool, true, false, List, [], ◌∷◌, ◌++◌, map, length, get_or, take, drop, set, None, Option, sym, refl, ap, ◌∙◌, subst, inl, inr, add-one, arith, length-append, length-drop}
use mir.Val.{bool_byte}
use Rattle.std.specs.List.{range_with_len as counting}
use Rattle.std.proofs.lemmas.List.FromFn.{length-range_with_len, length-map-range_with_len, get_or-map-range_with_len, map-range_with_len_more}
use Rattle.std.proofs.lemmas.List.{drop_at, take_all, drop-append-le, take-append-le, get_or_append_left, get_or-append_right, get_or_push, length-map, get_or-map, ext_get_or}
use Rattle.std.proofs.lemmas.Nat.{pow_below}
use Rattle.std.proofs.lemmas.Bool.{cases_lt}
use Rattle.std.proofs.Math.Nat.{pow-suc}
use Rattle.std.proofs.Math.Pow.{pow_mono}
use Rattle.column.specs.Columns.{part, count_up}
use Rattle.layout.specs.Layout.{FlagParts, bit, binary, packed, known, holds, over, fits_flags}
use Rattle.layout.specs.Written.{flags_laid, flag_room}
use Rattle.layout.proofs.Overs.{over_push}

pub count_up_counting : (a n : ℕ) → count_up a n ≡ counting a n
count_up_counting a zero = refl
count_up_counting a (suc n) = ap (λ ns. a ∷ ns) (count_up_counting (suc a) n ∙ rw add-one)

-- byte j of the bits
abbrev pub byte_at : List Bool → ℕ → ℕ
byte_at bs j = binary (part (8 * j) 8 bs)

pub packed_counting : (bs : List Bool) → packed bs ≡ map (byte_at bs) (counting 0 ((length bs + 7) / 8))
unfolding packed
packed_counting bs = ap (map (byte_at bs)) (count_up_counting 0 ((length bs + 7) / 8))

pub packed_length : (bs : List Bool) → length (packed bs) ≡ (length bs + 7) / 8
packed_length bs = ap length (packed_counting bs) ∙ length-map-range_with_len (byte_at bs) 0 ((length bs + 7) / 8)

-- one more bit of a byte
pub binary_more : (bs : List Bool) (b : Bool) (n : ℕ) → length bs ≡ n → binary (bs ++ b ∷ []) ≡ binary bs + bit b * 2 ^ n
binary_more [] true n e = rw (← e) (omega arith)
binary_more [] false n e = rw (← e) (omega arith)
binary_more (c ∷ bs) true n e = rw (← e) (let ih = binary_more bs true (length bs) refl in rw (pow-suc 2 (length bs)) (omega arith))
binary_more (c ∷ bs) false n e = rw (← e) (let ih = binary_more bs false (length bs) refl in rw (pow-suc 2 (length bs)) (omega arith))

pub binary_below : (bs : List Bool) → binary bs < 2 ^ length bs
binary_below [] = omega arith
binary_below (true ∷ bs) = let ih = binary_below bs in rw (pow-suc 2 (length bs)) (omega arith)
binary_below (false ∷ bs) = let ih = binary_below bs in rw (pow-suc 2 (length bs)) (omega arith)

-- the weight of a bit of a byte
pub weight : (i : ℕ) → i < 8 → 1 * 2 ^ i % 256 ≡ 2 ^ i
weight i h = let p : 2 ^ i < 256 = pow_below i 8 h in omega arith

pub weight_bit : (b : Bool) (n i : ℕ) → n ≡ bool_byte b → i < 8 → n * 2 ^ i % 256 ≡ bit b * 2 ^ i
weight_bit true n i e h = let w = weight i h in rw e (omega arith)
weight_bit false n i e h = let w = weight i h in rw e (omega arith)

-- a bit more keeps within a byte
pub weight_fits : (bs : List Bool) (i : ℕ) → length bs ≡ i → i < 8 → binary bs + 2 ^ i < 256
weight_fits bs i e h =
    let b : binary bs < 2 ^ i = rw e at (binary_below bs) in
    let p : 2 ^ suc i ≤ 2 ^ 8 = let h' : suc i ≤ 8 = h in pow_mono h' in
    let q = pow-suc 2 i in
    omega arith

pub bit_fits : (bs : List Bool) (b : Bool) (i : ℕ) → length bs ≡ i → i < 8 → binary bs + bit b * 2 ^ i < 256
bit_fits bs true i e h = let w = weight_fits bs i e h in omega arith
bit_fits bs false i e h = let w = weight_fits bs i e h in omega arith

-- what holds of each bit, and of the next one
pub told_push : (P : ℕ → Bool → Type 0) (bs : List Bool) (b : Bool) (n : ℕ) → length bs ≡ n → ((k : ℕ) → k < n → P k (get_or bs k false)) → P n b → (k : ℕ) → k < n + 1 → P k (get_or (bs ++ b ∷ []) k false)
told_push P bs b n e h p k l =
    elim (cases_lt k n) [
      | inl a ↦ rw (get_or_append_left bs (b ∷ []) false k (omega arith)) (h k a)
      | inr a ↦ let f : n ≡ k = omega arith in rw (get_or_push bs b false k (omega arith)) (subst (λ i. P i b) f p)
    ]

-- the same of the next ones
pub told_more : (P : ℕ → Bool → Type 0) (bs xs : List Bool) (m n : ℕ) → length bs ≡ m → ((k : ℕ) → k < m → P k (get_or bs k false)) → ((k : ℕ) → k < n → P (m + k) (get_or xs k false))
    → (k : ℕ) → k < m + n → P k (get_or (bs ++ xs) k false)
told_more P bs xs m n e h g k l =
    elim (cases_lt k m) [
      | inl a ↦ rw (get_or_append_left bs xs false k (omega arith)) (h k a)
      | inr a ↦
          let f : m + (k - m) ≡ k = omega arith in
          rw (get_or-append_right bs xs m k false e a) (subst (λ i. P i (get_or xs (k - m) false)) f (g (k - m) (omega arith)))
    ]

-- one more byte
byte_before : (bs xs : List Bool) (j i : ℕ) → length bs ≡ 8 * j → i < j → byte_at (bs ++ xs) i ≡ byte_at bs i
byte_before bs xs j i e h =
    let l = length-drop (8 * i) bs in
    ap (λ t. binary (take 8 t)) (drop-append-le (8 * i) bs xs (omega arith)) ∙ ap binary (take-append-le 8 (drop (8 * i) bs) xs (omega arith))

byte_last : (bs xs : List Bool) (j : ℕ) → length bs ≡ 8 * j → length xs ≤ 8 → byte_at (bs ++ xs) j ≡ binary xs
byte_last bs xs j e h = ap (λ t. binary (take 8 t)) (drop_at bs xs (8 * j) e) ∙ ap binary (take_all 8 xs h)

bytes_same : (f g : ℕ → ℕ) (n : ℕ) → ((i : ℕ) → i < n → f i ≡ g i) → map f (counting 0 n) ≡ map g (counting 0 n)
bytes_same f g n h =
    let a = length-map-range_with_len f 0 n in
    let b = length-map-range_with_len g 0 n in
    ext_get_or 0 _ _ (omega arith) (λ k l. get_or-map-range_with_len f 0 n k k 0 (omega arith) (omega arith) ∙ h k (omega arith) ∙ sym (get_or-map-range_with_len g 0 n k k 0 (omega arith) (omega arith)))

pub packed_more : (bs xs : List Bool) (j : ℕ) → length bs ≡ 8 * j → 0 < length xs → length xs ≤ 8 → packed (bs ++ xs) ≡ packed bs ++ binary xs ∷ []
packed_more bs xs j e l m =
    let f = byte_at (bs ++ xs) in
    let n : (length (bs ++ xs) + 7) / 8 ≡ j + 1 = let a = length-append bs xs in omega arith in
    let o : (length bs + 7) / 8 ≡ j = omega arith in
    packed_counting (bs ++ xs) ∙ ap (λ k. map f (counting 0 k)) n ∙ map-range_with_len_more f 0 j j (omega arith)
    ∙ ap (λ p. p ++ f j ∷ []) (bytes_same f (byte_at bs) j (λ i h. byte_before bs xs j i e h) ∙ ap (λ k. map (byte_at bs) (counting 0 k)) (sym o) ∙ sym (packed_counting bs))
    ∙ ap (λ y. packed bs ++ y ∷ []) (byte_last bs xs j e m)

-- one more byte written behind the bytes of bits
pub byte_put : (bs xs : List Bool) (j n : ℕ) (out before : List ℕ) → length bs ≡ 8 * j → 0 < length xs → length xs ≤ 8 → n ≡ binary xs → j < length before → out ≡ over (packed bs) before → set out j n ≡ over (packed (bs ++ xs)) before
byte_put bs xs j n out before e l m b h o =
    let p = packed_length bs in
    ap (λ ys. set ys j n) o
    ∙ over_push (packed bs) before j n (omega arith) h
    ∙ ap (λ z. over z before) (ap (λ y. packed bs ++ y ∷ []) b ∙ sym (packed_more bs xs j e l m))

-- the truth values of so many rows, row by row
pub shown_length : (v : Option Bool → Bool) (f : ℕ → Option Bool) (n : ℕ) → length (map v (map f (count_up 0 n))) ≡ n
shown_length v f n = length-map (map f (count_up 0 n)) v ∙ length-map (count_up 0 n) f ∙ ap length (count_up_counting 0 n) ∙ length-range_with_len 0 n

pub shown_at : (v : Option Bool → Bool) (f : ℕ → Option Bool) (n k : ℕ) → k < n → get_or (map v (map f (count_up 0 n))) k false ≡ v (f k)
shown_at v f n k h =
    ap (λ l. get_or (map v (map f l)) k false) (count_up_counting 0 n)
    ∙ get_or-map v (map f (counting 0 n)) k None false (let l = length-map-range_with_len f 0 n in omega arith)
    ∙ ap v (get_or-map-range_with_len f 0 n k k None h (omega arith))

-- the room that truth values need
pub flags_fit : (f : ℕ → Option Bool) (n : ℕ) (before : FlagParts) → fits_flags (flags_laid f n) before ≡ flag_room n before
flags_fit f n before = rw (packed_length (map known (map f (count_up 0 n))), packed_length (map holds (map f (count_up 0 n))), shown_length known f n, shown_length holds f n)
