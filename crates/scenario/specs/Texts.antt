-- Texts: how a scenario writes what is no text.
--   IsCount      a number from zero on, of so many bits: decimal digits, and no sign
--   IsInteger    a number of 64 bits: decimal digits, behind a minus where it is negative
--   IsBytes      bytes: two hexadecimal digits for each behind an `x`
--   IsBytesOrNone   the same, or `none` for no bytes
--   enclosed     a text between two others
--   IsCounts     a list of such numbers: its words in square brackets
--   IsCountsOrNone   the same, or `none` for no number
--   IsName       a name has no equals sign
--   field        a field: its name, an equals sign, and its text
use Rattle.std.specs.Prelude.{◌≡◌, ◌≢◌, ℕ, ◌<◌, ◌^◌, ℤ, FitsSigned, List, [], ◌∷◌, ◌++◌, Ok, codes, not, ◌==◌, IsTrue, ◌⊎◌, slice_index}
use Rattle.std.specs.Int.{w64}
use Rattle.std.specs.List.{AllZip, list_all}
use Rattle.std.specs.Str.Parse.{IsNumeral, digits_value, without_leading_sign, signed_digits_value}
use Rattle.hex.specs.Hex.{decode_of}
use Rattle.scenario.specs.Words.{words}

abbrev pub IsCount : ℕ → List ℕ → ℕ → Type 0
IsCount bits t n = IsNumeral 10 t × (digits_value 10 t < 2 ^ bits) × (n ≡ digits_value 10 t)

abbrev pub IsInteger : List ℕ → ℤ → Type 0
IsInteger t z = (slice_index t 0 ≢ 43) × IsNumeral 10 (without_leading_sign t) × FitsSigned w64 (signed_digits_value 10 t) × (z ≡ signed_digits_value 10 t)

abbrev pub IsBytes : List ℕ → List ℕ → Type 0
IsBytes t bs = (digits : List ℕ) × (t ≡ 120 ∷ digits) × (decode_of digits ≡ Ok bs)

abbrev pub IsBytesOrNone : List ℕ → List ℕ → Type 0
IsBytesOrNone t bs = ((t ≡ codes "none") × (bs ≡ [])) ⊎ IsBytes t bs

abbrev pub enclosed : List ℕ → List ℕ → List ℕ → List ℕ
enclosed front back inner = front ++ (inner ++ back)

abbrev pub IsCounts : ℕ → List ℕ → List ℕ → Type 0
IsCounts bits t ns = (inner : List ℕ) × (t ≡ enclosed (91 ∷ []) (93 ∷ []) inner) × AllZip (IsCount bits) (words inner) ns

abbrev pub IsCountsOrNone : ℕ → List ℕ → List ℕ → Type 0
IsCountsOrNone bits t ns = ((t ≡ codes "none") × (ns ≡ [])) ⊎ IsCounts bits t ns

abbrev pub IsName : List ℕ → Type 0
IsName t = IsTrue (list_all (λ b. not (b == 61)) t)

abbrev pub field : List ℕ → List ℕ → List ℕ
field name text = name ++ 61 ∷ text
