-- Texts parted at a slash.
use Rattle.std.proofs.Common.{◌≡◌, ◌≢◌, ◌<◌, ℕ, zero, suc, Bool, true, false, cond, ℤ, List, ◌∷◌, [], ◌++◌, length, get_or, drop, Some, None, Option, refl, sym, ap, ◌∙◌, ap₂, subst, arith, length-append, lit<}
use Rattle.std.specs.Prelude.{MatchOption, slice_index}
use Rattle.std.specs.Option.{ok_or}
use Rattle.std.specs.Char.{digit_value}
use Rattle.std.specs.Str.Parse.{AllDigits, starts_with_minus, without_leading_plus}
use Rattle.std.proofs.lemmas.Str.Parse.{without_leading_plus_none}
use Rattle.std.proofs.lemmas.Bool.{eqb-true}
use Rattle.std.proofs.lemmas.Str.Pattern.{split_parts, IsSplitOnceResult}
use Rattle.scenario.specs.declared.Unread.TheVariants.{Malformed}
use Rattle.scenario.specs.Cells.{IsField}
use Rattle.scenario.specs.Reading.{Told}
use denote.Ref.{Bor}

-- no byte is a slash
abbrev pub Unslashed : List ℕ → Type 0
Unslashed t = (i : ℕ) → i < length t → get_or t i 0 ≢ 47

-- a byte between two lists
byte_between : (front back : List ℕ) (b d : ℕ) → get_or (front ++ b ∷ back) (length front) d ≡ b
byte_between [] back b d = refl
byte_between (x ∷ front) back b d = byte_between front back b d

-- the texts before and behind the first slash, or that there is none
pub parted_at : (t : List ℕ) (r : Option (Bor (List ℕ) × Bor (List ℕ))) → IsSplitOnceResult 47 t r
    → Told (ok_or r Malformed) (λ parts. (t ≡ parts.0.now ++ 47 ∷ parts.1.now) × Unslashed parts.0.now) ((front back : List ℕ) → t ≢ front ++ 47 ∷ back)
parted_at t r h = go r (split_parts 47 t r h (lit< tt))
  where
    go : (r : Option (Bor (List ℕ) × Bor (List ℕ))) → MatchOption r (Unslashed t) (λ x. (t ≡ x.0.now ++ (47 ∷ x.1.now)) × Unslashed x.0.now)
        → Told (ok_or r Malformed) (λ parts. (t ≡ parts.0.now ++ 47 ∷ parts.1.now) × Unslashed parts.0.now) ((front back : List ℕ) → t ≢ front ++ 47 ∷ back)
    go None none = λ front back is. none (length front) (omega (arith, ap length is, length-append front (47 ∷ back))) (ap (λ l. get_or l (length front) 0) is ∙ byte_between front back 47 0)
    go (Some x) some = some

unslashed_digits : (ds : List ℕ) → AllDigits 10 ds → Unslashed ds
unslashed_digits [] all i short is = absurd (omega (arith, short))
unslashed_digits (c ∷ cs) all zero short is = let low : digit_value 47 < 10 = subst (λ c. digit_value c < 10) is all.0 in absurd (omega (arith, low))
unslashed_digits (c ∷ cs) all (suc i) short is = unslashed_digits cs all.1 i (omega (arith, short)) is

unslashed_number : (t : List ℕ) (minus : Bool) → starts_with_minus t ≡ minus → slice_index t 0 ≢ 43 → AllDigits 10 (cond minus (drop 1 t) (without_leading_plus t)) → Unslashed t
unslashed_number t false e plain all i short is = unslashed_digits t (subst (AllDigits 10) (without_leading_plus_none t plain) all) i short is
unslashed_number [] true e plain all i short is = absurd (omega (arith, short))
unslashed_number (c ∷ cs) true e plain all zero short is = let minus : c ≡ 45 = eqb-true c 45 e in absurd (omega (arith, minus, is))
unslashed_number (c ∷ cs) true e plain all (suc i) short is = unslashed_digits cs all i (omega (arith, short)) is

-- a field of a record has no slash
unslashed_field : (t : List ℕ) (f : Option ℤ) → IsField t f → Unslashed t
unslashed_field t None is i short at =
    let first : i ≡ 0 = omega (arith, short, ap length is) in
    absurd (omega (arith, at, ap (λ k. get_or t k 0) first, ap (λ l. get_or l 0 0) is))
unslashed_field t (Some z) (plain, numeral, fits, is) i short at = unslashed_number t (starts_with_minus t) refl plain numeral.1 i short at

-- the first slash parts a text in one way
same_parts : (f g b d : List ℕ) → Unslashed f → Unslashed g → f ++ 47 ∷ b ≡ g ++ 47 ∷ d → (f ≡ g) × (b ≡ d)
same_parts [] [] b d n m is = (refl, ap (drop 1) is)
same_parts [] (y ∷ g) b d n m is = absurd (m 0 (omega arith) (sym (ap (λ l. get_or l 0 0) is)))
same_parts (x ∷ f) [] b d n m is = absurd (n 0 (omega arith) (ap (λ l. get_or l 0 0) is))
same_parts (x ∷ f) (y ∷ g) b d n m is =
    let rest = same_parts f g b d (λ i short. n (suc i) (omega (arith, short))) (λ i short. m (suc i) (omega (arith, short))) (ap (drop 1) is) in
    (ap₂ ◌∷◌ (ap (λ l. get_or l 0 0) is) rest.0, rest.1)

-- a text that begins with a field and a slash is parted behind the field
pub parted_so : (t front back : List ℕ) → (t ≡ front ++ 47 ∷ back) × Unslashed front → (name rest : List ℕ) (f : Option ℤ) → t ≡ name ++ 47 ∷ rest → IsField name f → (front ≡ name) × (back ≡ rest)
parted_so t front back (is, plain) name rest f also field = same_parts front name back rest plain (unslashed_field name f field) (sym is ∙ also)
