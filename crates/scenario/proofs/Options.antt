-- The options of a row order of numbers: commas part them, and stand in none.
use Rattle.std.proofs.Common.{◌≡◌, ◌<◌, ◌≤◌, ℕ, zero, suc, Bool, true, false, not, ◌&&◌, List, [], ◌∷◌, map, take, length, refl, ap, ◌∙◌, eqb, arith}
use Rattle.std.specs.List.{All, list_all, join_with_byte, slice_split}
use Rattle.std.proofs.Math.ListN.{get_or}
use Rattle.std.proofs.lemmas.List.Elements.{All-cons}
use Rattle.std.proofs.lemmas.List.Splits.{slice_split_none, slice_split_at}
use Rattle.tables.specs.declared.Sorting.{Sorting}
use Rattle.scenario.specs.Names.{sorting_name, sorting_text}
use Rattle.scenario.specs.Accumulators.{options_text}

-- a list without commas, as it is computed
no_comma : List ℕ → Bool
no_comma t = list_all (λ b. not (eqb b 44)) t

all_parts : (t : List ℕ) → no_comma t ≡ true → All (λ b. eqb b 44 ≡ false) t
unfolding no_comma
all_parts [] h = λ k d short. absurd (omega (arith, short))
all_parts (b ∷ bs) h = go (eqb b 44) refl h (λ rest. all_parts bs rest)
  where
    go : (v : Bool) → eqb b 44 ≡ v → (not v && list_all (λ b. not (eqb b 44)) bs) ≡ true → (list_all (λ b. not (eqb b 44)) bs ≡ true → All (λ b. eqb b 44 ≡ false) bs) → All (λ b. eqb b 44 ≡ false) (b ∷ bs)
    go true is h rest = cc
    go false is h rest = All-cons (λ b. eqb b 44 ≡ false) b bs is (rest h)

plain_text : (descending nulls_first : Bool) → no_comma (sorting_text descending nulls_first) ≡ true
unfolding no_comma
plain_text false false = refl
plain_text false true = refl
plain_text true false = refl
plain_text true true = refl

plain_name : (s : Sorting) → All (λ b. eqb b 44 ≡ false) (sorting_name s)
plain_name s = all_parts (sorting_name s) (plain_text s.descending s.nulls_first)

split_names : (s : Sorting) (ss : List Sorting) → slice_split (λ b. eqb b 44) (join_with_byte 44 (map sorting_name (s ∷ ss))) ≡ map sorting_name (s ∷ ss)
split_names s [] = slice_split_none (λ b. eqb b 44) (sorting_name s) (plain_name s)
split_names s (t ∷ ts) =
    slice_split_at (λ b. eqb b 44) (sorting_name s) 44 (join_with_byte 44 (map sorting_name (t ∷ ts))) (plain_name s) refl
    ∙ ap (λ names. sorting_name s ∷ names) (split_names t ts)

-- the parts of the options' text are their names
pub split_options : (sorts : List Sorting) (count : ℕ) → length sorts ≡ 3 → 1 ≤ count → slice_split (λ b. eqb b 44) (options_text sorts count) ≡ map sorting_name (take count sorts)
split_options [] count three some = cc
split_options (s ∷ ss) zero three some = absurd (omega (arith, some))
split_options (s ∷ ss) (suc n) three some = split_names s (take n ss)

-- each of them is the name of an option
pub named : (sorts : List Sorting) (n : ℕ) (d : List ℕ) → n < length sorts → (s : Sorting) × (get_or (map sorting_name sorts) n d ≡ sorting_name s)
named [] n d short = absurd (omega (arith, short))
named (s ∷ ss) zero d short = (s, refl)
named (s ∷ ss) (suc n) d short = named ss n d (omega (arith, short))
