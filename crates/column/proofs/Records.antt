-- A test of each record, and what it says of all of them.
use Rattle.std.proofs.Common.{◌≡◌, ℕ, zero, suc, ◌+◌, ◌*◌, ◌<◌, ◌≤◌, Bool, true, false, ◌&&◌, List, [], length, get_or, take, drop, sym, refl, ap, ◌∙◌, add-zero, inl, inr, arith, get_or-take, get_or-drop}
use Rattle.std.proofs.lemmas.Bool.{cases_lt}
use Rattle.std.proofs.Math.Bool.{and-false}
use Rattle.std.proofs.lemmas.List.{take-take, drop-take, drop-drop}
use Rattle.std.specs.Bool.{MatchBool}
use Rattle.std.specs.List.{AllWithin, HoldsAt, range_with_len}
use Rattle.std.specs.Simd.{first_chunks}
use Rattle.column.specs.Columns.{part}
use Rattle.column.specs.Shapes.{field_fits, record_fits, records_fit}

pub all_three : (f : ℕ → Bool) (r : Bool)
    → MatchBool r (AllWithin (λ j. f j ≡ true) (range_with_len 0 3) 0 3) ((k : ℕ) × (k < 3) × HoldsAt (λ j. f j ≡ false) (range_with_len 0 3) k)
    → r ≡ (f 0 && (f 1 && f 2))
all_three f true h = let a = h 0 0 (omega arith) (omega arith) in let b = h 1 0 (omega arith) (omega arith) in let c = h 2 0 (omega arith) (omega arith) in grind arith
all_three f false (zero, l, e) = let a = e 0 in grind arith
all_three f false (suc zero, l, e) = let a = e 0 in grind arith
all_three f false (suc (suc zero), l, e) = let a = e 0 in grind arith
all_three f false (suc (suc (suc k)), l, e) = absurd (omega arith)

-- a part of a part is a part of the whole
part_part : (bs : List ℕ) (k i n m w s : ℕ) → i + m ≡ w → k + i ≡ s → n ≤ m → part i n (part k w bs) ≡ part s n bs
part_part bs k i n m w s e f h =
    ap (λ v. take n (drop i (take v (drop k bs)))) (sym e) ∙ ap (take n) (drop-take i m (drop k bs)) ∙ take-take n m (drop i (drop k bs)) h
    ∙ ap (take n) (drop-drop i k bs) ∙ ap (λ v. take n (drop v bs)) f

field_at : (bs : List ℕ) (k j m : ℕ) → 0 + 1 + 8 * j + m ≡ 25 → 8 ≤ m → field_fits (part k 25 bs) 0 j ≡ field_fits bs k j
field_at bs k j m e h = rw (part_part bs k 0 1 25 25 k (omega arith) (omega arith) (omega arith), part_part bs k (0 + 1 + 8 * j) 8 m 25 (k + 1 + 8 * j) e (omega arith) h)

-- the 25 bytes from a place on are a record by themselves
record_at : (bs : List ℕ) (k : ℕ) → record_fits (part k 25 bs) 0 ≡ record_fits bs k
record_at bs k =
    let b : get_or (part k 25 bs) 0 0 ≡ get_or bs k 0 = let h : 0 < 25 = omega arith in rw (get_or-take, get_or-drop, add-zero) in
    rw (b, field_at bs k 0 24 (omega arith) (omega arith), field_at bs k 1 16 (omega arith) (omega arith), field_at bs k 2 8 (omega arith) (omega arith))

records_true : (bs : List ℕ) (n : ℕ) → ((k : ℕ) → k < n → record_fits bs (25 * k) ≡ true) → records_fit bs n ≡ true
records_true bs zero h = refl
records_true bs (suc n) h = let a = records_true bs n (λ k l. h k (omega arith)) in let b = h n (omega arith) in rw (a, b)

records_false : (bs : List ℕ) (n k : ℕ) → k < n → record_fits bs (25 * k) ≡ false → records_fit bs n ≡ false
records_false bs zero k l e = absurd (omega arith)
records_false bs (suc n) k l e =
    elim (cases_lt k n) [
      | inl h ↦ rw (records_false bs n k h e)
      | inr h ↦ let g : k ≡ n = omega arith in let f : record_fits bs (25 * n) ≡ false = rw g at e in rw f (and-false (records_fit bs n))
    ]

-- the records of a list, one after the other
records_length : (n : ℕ) (bs : List ℕ) → length (first_chunks 25 n bs) ≡ n
records_length zero bs = refl
records_length (suc n) bs = ap suc (records_length n (drop 25 bs))

records_at : (n : ℕ) (bs : List ℕ) (k : ℕ) (d : List ℕ) → k < n → get_or (first_chunks 25 n bs) k d ≡ part (25 * k) 25 bs
records_at zero bs k d h = absurd (omega arith)
records_at (suc n) bs zero d h = refl
records_at (suc n) bs (suc k) d h = records_at n (drop 25 bs) k d (omega arith) ∙ ap (take 25) (drop-drop (25 * k) 25 bs ∙ ap (λ i. drop i bs) (omega arith))

pub all_records : (bs : List ℕ) (n : ℕ) (r : Bool)
    → MatchBool r (AllWithin (λ b. record_fits b 0 ≡ true) (first_chunks 25 n bs) 0 (length (first_chunks 25 n bs)))
    ((k : ℕ) × (k < length (first_chunks 25 n bs)) × HoldsAt (λ b. record_fits b 0 ≡ false) (first_chunks 25 n bs) k)
    → r ≡ records_fit bs n
all_records bs n true h =
    let l = records_length n bs in
    sym (records_true bs n (λ k g. sym (record_at bs (25 * k)) ∙ ap (λ b. record_fits b 0) (sym (records_at n bs k [] g)) ∙ h k [] (omega arith) (omega arith)))
all_records bs n false (k, g, e) =
    let l = records_length n bs in
    sym (records_false bs n k (omega arith) (sym (record_at bs (25 * k)) ∙ ap (λ b. record_fits b 0) (sym (records_at n bs k [] (omega arith))) ∙ e []))
