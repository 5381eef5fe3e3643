-- Truth values by row, eight to a byte, as the bytes of a filter have them.
use Rattle.std.proofs.Common.{◌≡◌, ℕ, zero, suc, ◌+◌, ◌*◌, ◌/◌, ◌%◌, ◌^◌, ◌<◌, Bool, true, false, cond, ◌&&◌, ◌||◌, eqb, eq-eqb, List, [], ◌∷◌, map, length, get_or, min, Some, None, Option, refl, sym, ap, ◌∙◌, ap₂, lit<, arith}
use native.Mathlib.Nat.{div-div-eq-div-mul}
use Rattle.std.proofs.Math.Nat.{pow-succ', zero-div}
use Rattle.std.proofs.lemmas.List.FromFn.{length-map-range_with_len, get_or-map-range_with_len}
use Rattle.std.proofs.lemmas.Nat.{and_le_r}
use Rattle.std.proofs.lemmas.Nat.Bits as Bits
use Rattle.std.specs.Int.Bits as Words
use Rattle.column.specs.Columns.{Flags, bit_at, count_up, flag_at, present}
use Rattle.column.specs.Seen.{marks_seen}
use Rattle.column.specs.declared.BoolColumn as code
use Rattle.book.specs.Emission.{passed_on}
use Rattle.layout.specs.Layout.{bit, binary, known, holds}
use Rattle.layout.specs.Written.{eight}
use Rattle.layout.proofs.Packing.{binary_below, count_up_counting}

binary_bit : (bs : List Bool) (i : ℕ) → binary bs / 2 ^ i % 2 ≡ bit (get_or bs i false)
binary_bit [] i = ap (λ n. n % 2) (zero-div (2 ^ i))
binary_bit (true ∷ bs) zero = omega arith
binary_bit (false ∷ bs) zero = omega arith
binary_bit (true ∷ bs) (suc i) =
    let h : (1 + 2 * binary bs) / 2 ≡ binary bs = omega arith in
    rw (pow-succ' 2 i, ← div-div-eq-div-mul (1 + 2 * binary bs) 2 (2 ^ i), h) (binary_bit bs i)
binary_bit (false ∷ bs) (suc i) =
    let h : (0 + 2 * binary bs) / 2 ≡ binary bs = omega arith in
    rw (pow-succ' 2 i, ← div-div-eq-div-mul (0 + 2 * binary bs) 2 (2 ^ i), h) (binary_bit bs i)

module _ (p : ℕ → Bool) (j : ℕ) where
  abbrev rows : List Bool
  rows = map p (count_up (8 * j) 8)

  many : length rows ≡ 8
  many = ap (λ ks. length (map p ks)) (count_up_counting (8 * j) 8) ∙ length-map-range_with_len p (8 * j) 8

  row : (i : ℕ) → i < 8 → get_or rows i false ≡ p (8 * j + i)
  row i h = ap (λ ks. get_or (map p ks) i false) (count_up_counting (8 * j) 8) ∙ get_or-map-range_with_len p (8 * j) 8 i (8 * j + i) false h (omega arith)

  below : eight p j < 2 ^ 8
  unfolding eight
  below = let b = binary_below rows in let n = many in rw n at b

  bits_of : (i : ℕ) → i < 8 → eight p j / 2 ^ i % 2 ≡ bit (p (8 * j + i))
  unfolding eight
  bits_of i h = binary_bit rows i ∙ ap bit (row i h)

  -- a byte of these bits
  from_bits : (n : ℕ) → n < 2 ^ 8 → ((i : ℕ) → i < 8 → n / 2 ^ i % 2 ≡ bit (p (8 * j + i))) → n ≡ eight p j
  from_bits n h e = Bits.same_from_bits_below 8 n (eight p j) h below (λ i l. e i l ∙ sym (bits_of i l))

tested : (n : ℕ) → bit (eqb (n % 2) 1) ≡ n % 2
tested n = go (n % 2) (omega arith)
  where
    go : (q : ℕ) → q < 2 → bit (eqb q 1) ≡ q
    go zero h = refl
    go (suc zero) h = refl
    go (suc (suc q)) h = absurd (omega arith)

-- a byte of a buffer
pub byte_is : (bytes : List ℕ) (j n : ℕ) → n ≡ get_or bytes j 0 → n < 2 ^ 8 → n ≡ eight (bit_at bytes) j
unfolding bit_at
byte_is bytes j n e h = from_bits (bit_at bytes) j n h (λ i l.
    let d : (8 * j + i) / 8 ≡ j = omega arith in
    let r : (8 * j + i) % 8 ≡ i = omega arith in
    ap (λ b. b / 2 ^ i % 2) e ∙ sym (ap₂ (λ k s. bit (eqb (get_or bytes k 0 / 2 ^ s % 2) 1)) d r ∙ tested (get_or bytes j 0 / 2 ^ i)))

-- where all are true
pub ones_are : (p : ℕ → Bool) (j : ℕ) → ((r : ℕ) → p r ≡ true) → 255 ≡ eight p j
ones_are p j e = from_bits p j 255 (lit< tt) (λ i h. Bits.bit_at_ones 8 i h ∙ ap bit (sym (e (8 * j + i))))

both_bits : (a b : Bool) → min (bit a) (bit b) ≡ bit (a && b)
both_bits true true = refl
both_bits true false = refl
both_bits false true = refl
both_bits false false = refl

-- where both are true
pub both_are : (p q : ℕ → Bool) (j a b n : ℕ) → n ≡ Words.bit_and a b → a ≡ eight p j → b ≡ eight q j → n ≡ eight (λ r. p r && q r) j
both_are p q j a b n e f g = from_bits (λ r. p r && q r) j n (let x = and_le_r a b in let y = below q j in omega arith) (λ i l.
    ap (λ x. x / 2 ^ i % 2) e ∙ Bits.bit_at_and a b i
    ∙ ap₂ min (ap (λ x. x / 2 ^ i % 2) f ∙ bits_of p j i l) (ap (λ x. x / 2 ^ i % 2) g ∙ bits_of q j i l)
    ∙ both_bits (p (8 * j + i)) (q (8 * j + i)))

pub same_eight : (p q : ℕ → Bool) (j : ℕ) → ((r : ℕ) → p r ≡ q r) → eight p j ≡ eight q j
same_eight p q j h = λ i. eight (λ r. h r i) j

-- The flags of a filter

pub flag_known : (f : Flags) (r : ℕ) → known (flag_at f r) ≡ present f.validity r
flag_known f r = go (present f.validity r)
  where
    go : (b : Bool) → known (cond b (Some (bit_at f.bits r)) None) ≡ b
    go true = refl
    go false = refl

pub flag_holds : (f : Flags) (r : ℕ) → holds (flag_at f r) ≡ (known (flag_at f r) && bit_at f.bits r)
flag_holds f r = go (present f.validity r)
  where
    go : (b : Bool) → holds (cond b (Some (bit_at f.bits r)) None) ≡ (known (cond b (Some (bit_at f.bits r)) None) && bit_at f.bits r)
    go true = refl
    go false = refl

flag_known_none : (f : Flags) → length f.validity ≡ 0 → (r : ℕ) → known (flag_at f r) ≡ true
flag_known_none f e r = flag_known f r ∙ ap (λ b. b || bit_at f.validity r) (eq-eqb _ _ e)

pub none_missing : (f : Flags) (j : ℕ) → length f.validity ≡ 0 → 255 ≡ eight (λ r. known (flag_at f r)) j
none_missing f j e = ones_are (λ r. known (flag_at f r)) j (flag_known_none f e)

pub both_true : (f : Flags) (j a b n : ℕ) → n ≡ Words.bit_and a b → a ≡ eight (λ r. known (flag_at f r)) j → b ≡ eight (bit_at f.bits) j → n ≡ eight (λ r. holds (flag_at f r)) j
both_true f j a b n e k l =
    both_are (λ r. known (flag_at f r)) (bit_at f.bits) j a b n e k l ∙ same_eight (λ r. known (flag_at f r) && bit_at f.bits r) (λ r. holds (flag_at f r)) j (λ r. sym (flag_holds f r))

pub on_filter : (v : Option Bool → Bool) (j n : ℕ) (o x : Option code.BoolColumn) → o ≡ x → n ≡ eight (λ r. v (passed_on (marks_seen x) r)) j → n ≡ eight (λ r. v (passed_on (marks_seen o) r)) j
on_filter v j n o x e h = h ∙ ap (λ y. eight (λ r. v (passed_on (marks_seen y) r)) j) (sym e)
