-- Packed truth values, read back bit by bit.
use Rattle.std.proofs.Common.{◌≡◌, ℕ, zero, suc, ◌+◌, ◌*◌, ◌/◌, ◌%◌, ◌^◌, ◌<◌, Bool, true, false, ◌&&◌, ◌||◌, eqb, List, [], ◌∷◌, map, length, get_or, drop, Option, refl, ap, ◌∙◌, ap₂, arith}
use native.Mathlib.Nat.{div-div-eq-div-mul}
use Rattle.std.proofs.Math.Nat.{pow-succ', zero-div}
use Rattle.std.proofs.lemmas.Bool.{ne_eqb}
use Rattle.std.proofs.lemmas.List.FromFn.{get_or-map-range_with_len}
use Rattle.std.proofs.lemmas.List.{get_or-drop, get_or-take}
use Rattle.column.specs.Columns.{bit_at, count_up, part, present}
use Rattle.layout.specs.Layout.{bit, binary, packed, known, holds}
use Rattle.layout.proofs.Packing.{byte_at, packed_counting, packed_length, shown_at, shown_length}

-- a bit of a byte
binary_bit : (bs : List Bool) (i : ℕ) → binary bs / 2 ^ i % 2 ≡ bit (get_or bs i false)
binary_bit [] i = ap (λ n. n % 2) (zero-div (2 ^ i))
binary_bit (true ∷ bs) zero = omega arith
binary_bit (false ∷ bs) zero = omega arith
binary_bit (true ∷ bs) (suc i) =
    let h : (1 + 2 * binary bs) / 2 ≡ binary bs = omega arith in
    rw (pow-succ' 2 i, ← div-div-eq-div-mul (1 + 2 * binary bs) 2 (2 ^ i), h) (binary_bit bs i)
binary_bit (false ∷ bs) (suc i) =
    let h : (0 + 2 * binary bs) / 2 ≡ binary bs = omega arith in
    rw (pow-succ' 2 i, ← div-div-eq-div-mul (0 + 2 * binary bs) 2 (2 ^ i), h) (binary_bit bs i)

bit_tested : (b : Bool) → eqb (bit b) 1 ≡ b
bit_tested true = refl
bit_tested false = refl

pub packed_bit : (bs : List Bool) (r : ℕ) → r < length bs → bit_at (packed bs) r ≡ get_or bs r false
unfolding bit_at
packed_bit bs r h =
    let byte = part (8 * (r / 8)) 8 bs in
    ap (λ l. eqb (get_or l (r / 8) 0 / 2 ^ (r % 8) % 2) 1) (packed_counting bs)
    ∙ ap (λ n. eqb (n / 2 ^ (r % 8) % 2) 1) (get_or-map-range_with_len (byte_at bs) 0 ((length bs + 7) / 8) (r / 8) (r / 8) 0 (omega arith) (omega arith))
    ∙ ap (λ n. eqb n 1) (binary_bit byte (r % 8))
    ∙ bit_tested (get_or byte (r % 8) false)
    ∙ get_or-take 8 (drop (8 * (r / 8)) bs) (r % 8) false (omega arith)
    ∙ get_or-drop (8 * (r / 8)) bs (r % 8) false
    ∙ ap (λ k. get_or bs k false) (let z : 8 * (r / 8) + r % 8 ≡ r = omega arith in z)

-- validity bits of so many rows say of each whether it is there
packed_present : (bs : List Bool) (r : ℕ) → r < length bs → present (packed bs) r ≡ get_or bs r false
packed_present bs r h = ap (λ b. b || bit_at (packed bs) r) (ne_eqb (length (packed bs)) 0 (λ e. let l = packed_length bs in omega arith)) ∙ packed_bit bs r h

-- truth values that were laid out: a row's is there and true where it was
pub flags_back : (f : ℕ → Option Bool) (n r : ℕ) → r < n
    → (present (packed (map known (map f (count_up 0 n)))) r && bit_at (packed (map holds (map f (count_up 0 n)))) r) ≡ (known (f r) && holds (f r))
flags_back f n r h =
    let k = shown_length known f n in
    let l = shown_length holds f n in
    ap₂ (λ a b. a && b)
    (packed_present (map known (map f (count_up 0 n))) r (omega arith) ∙ shown_at known f n r h)
    (packed_bit (map holds (map f (count_up 0 n))) r (omega arith) ∙ shown_at holds f n r h)
