-- The bits of eight rows of a row of bytes are the byte in their place; so are those of a column of truth values.
use Rattle.std.proofs.Common.{◌≡◌, ℕ, zero, suc, ◌+◌, ◌*◌, ◌/◌, ◌%◌, ◌^◌, ◌<◌, Bool, true, false, cond, ◌&&◌, ◌||◌, eqb, List, [], ◌∷◌, map, length, get_or, Some, None, bit_and, sym, refl, ap, ◌∙◌, ap₂, arith}
use Rattle.std.proofs.lemmas.Bool.{ne_eqb}
use Rattle.std.proofs.lemmas.Nat.{and_block}
use Rattle.column.specs.Columns.{Flags, bit_at, count_up, flag_at, present}
use Rattle.layout.specs.Layout.{bit, binary, known, holds}
use Rattle.layout.specs.Written.{eight}

bit_of : (n : ℕ) → n < 2 → bit (eqb n 1) ≡ n
bit_of zero h = refl
bit_of (suc zero) h = refl
bit_of (suc (suc n)) h = absurd (omega arith)

bit_in : (bytes : List ℕ) (j i r : ℕ) → r ≡ 8 * j + i → i < 8 → bit (bit_at bytes r) ≡ get_or bytes j 0 / 2 ^ i % 2
unfolding bit_at
bit_in bytes j i r e h =
    let q : r / 8 ≡ j = omega arith in
    let m : r % 8 ≡ i = omega arith in
    ap (λ k. bit (eqb (get_or bytes k 0 / 2 ^ (r % 8) % 2) 1)) q
    ∙ ap (λ k. bit (eqb (get_or bytes j 0 / 2 ^ k % 2) 1)) m
    ∙ bit_of (get_or bytes j 0 / 2 ^ i % 2) (omega arith)

whole : (n a b c d e f g h : ℕ) → n < 256 → a ≡ n % 2 → b ≡ n / 2 % 2 → c ≡ n / 4 % 2 → d ≡ n / 8 % 2 → e ≡ n / 16 % 2 → f ≡ n / 32 % 2 → g ≡ n / 64 % 2 → h ≡ n / 128 % 2
    → a + 2 * (b + 2 * (c + 2 * (d + 2 * (e + 2 * (f + 2 * (g + 2 * (h + 2 * 0))))))) ≡ n
whole n a b c d e f g h l p q r s t u v w = omega arith

pub eight_bits : (bytes : List ℕ) (j : ℕ) → get_or bytes j 0 < 256 → eight (bit_at bytes) j ≡ get_or bytes j 0
unfolding eight
eight_bits bytes j h =
    let k = 8 * j in
    let n = get_or bytes j 0 in
    whole n _ _ _ _ _ _ _ _ h
    (bit_in bytes j 0 k (omega arith) (omega arith) ∙ (let z : n / 2 ^ 0 % 2 ≡ n % 2 = omega arith in z))
    (bit_in bytes j 1 (suc k) (omega arith) (omega arith))
    (bit_in bytes j 2 (suc (suc k)) (omega arith) (omega arith))
    (bit_in bytes j 3 (suc (suc (suc k))) (omega arith) (omega arith))
    (bit_in bytes j 4 (suc (suc (suc (suc k)))) (omega arith) (omega arith))
    (bit_in bytes j 5 (suc (suc (suc (suc (suc k))))) (omega arith) (omega arith))
    (bit_in bytes j 6 (suc (suc (suc (suc (suc (suc k)))))) (omega arith) (omega arith))
    (bit_in bytes j 7 (suc (suc (suc (suc (suc (suc (suc k))))))) (omega arith) (omega arith))

same_bits : (p q : ℕ → Bool) → ((r : ℕ) → p r ≡ q r) → (ks : List ℕ) → map p ks ≡ map q ks
same_bits p q h [] = refl
same_bits p q h (k ∷ ks) = ap₂ (λ b bs. b ∷ bs) (h k) (same_bits p q h ks)

same_eight : (p q : ℕ → Bool) (j : ℕ) → ((r : ℕ) → p r ≡ q r) → eight p j ≡ eight q j
unfolding eight
same_eight p q j h = ap binary (same_bits p q h (count_up (8 * j) 8))

bit_both : (a b : Bool) → bit_and (bit a) (bit b) ≡ bit (a && b)
bit_both true true = refl
bit_both true false = refl
bit_both false true = refl
bit_both false false = refl

bit_small : (b : Bool) → bit b < 2 ^ 1
bit_small true = omega arith
bit_small false = omega arith

binary_both : (p q : ℕ → Bool) (ks : List ℕ) → bit_and (binary (map p ks)) (binary (map q ks)) ≡ binary (map (λ r. p r && q r) ks)
binary_both p q [] = refl
binary_both p q (k ∷ ks) =
    let m = binary (map p ks) in
    let n = binary (map q ks) in
    let a : bit (p k) + 2 * m ≡ m * 2 ^ 1 + bit (p k) = omega arith in
    let b : bit (q k) + 2 * n ≡ n * 2 ^ 1 + bit (q k) = omega arith in
    let s = and_block 1 m n (bit (p k)) (bit (q k)) (bit_small (p k)) (bit_small (q k)) in
    let i = binary_both p q ks in
    let t = bit_both (p k) (q k) in
    ap₂ bit_and a b ∙ s ∙ ap₂ (λ x y. x * 2 ^ 1 + y) i t ∙ (let z : binary (map (λ r. p r && q r) ks) * 2 ^ 1 + bit (p k && q k) ≡ bit (p k && q k) + 2 * binary (map (λ r. p r && q r) ks) = omega arith in z)

eight_both : (p q : ℕ → Bool) (j : ℕ) → bit_and (eight p j) (eight q j) ≡ eight (λ r. p r && q r) j
unfolding eight
eight_both p q j = binary_both p q (count_up (8 * j) 8)

-- a column of truth values, eight rows at a time: its validity byte, or all bits where there are no validity bytes, and its bits byte under that one

known_is : (b x : Bool) → known (cond b (Some x) None) ≡ b
known_is true x = refl
known_is false x = refl

holds_is : (b x : Bool) → holds (cond b (Some x) None) ≡ (b && x)
holds_is true x = refl
holds_is false x = refl

pub known_byte_of : (f : Flags) (j : ℕ) → 0 < length f.validity → get_or f.validity j 0 < 256 → eight (λ r. known (flag_at f r)) j ≡ get_or f.validity j 0
known_byte_of f j l h =
    let e : eqb (length f.validity) 0 ≡ false = ne_eqb (length f.validity) 0 (λ z. omega arith) in
    same_eight (λ r. known (flag_at f r)) (bit_at f.validity) j (λ r. known_is (present f.validity r) (bit_at f.bits r) ∙ ap (λ b. b || bit_at f.validity r) e)
    ∙ eight_bits f.validity j h

pub known_byte_full : (f : Flags) (j : ℕ) → length f.validity ≡ 0 → eight (λ r. known (flag_at f r)) j ≡ 255
unfolding eight
known_byte_full f j e =
    ap binary (same_bits (λ r. known (flag_at f r)) (λ r. true) (λ r. known_is (present f.validity r) (bit_at f.bits r) ∙ ap (λ n. eqb n 0 || bit_at f.validity r) e) (count_up (8 * j) 8))

pub holds_byte_of : (f : Flags) (j : ℕ) → get_or f.bits j 0 < 256 → eight (λ r. holds (flag_at f r)) j ≡ bit_and (eight (λ r. known (flag_at f r)) j) (get_or f.bits j 0)
holds_byte_of f j h =
    same_eight (λ r. holds (flag_at f r)) (λ r. known (flag_at f r) && bit_at f.bits r) j
    (λ r. holds_is (present f.validity r) (bit_at f.bits r) ∙ ap (λ b. b && bit_at f.bits r) (sym (known_is (present f.validity r) (bit_at f.bits r))))
    ∙ sym (eight_both (λ r. known (flag_at f r)) (bit_at f.bits) j)
    ∙ ap (λ n. bit_and (eight (λ r. known (flag_at f r)) j) n) (eight_bits f.bits j h)
