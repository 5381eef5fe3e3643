-- A list of rows turned round: the latest of its top rows is the earliest of the rows as they came.
use Rattle.std.proofs.Common.{◌≡◌, Bool, true, false, cond, not, List, [], ◌∷◌, ◌++◌, reverse, Some, filter, sym, refl, ap, ◌∙◌, append-nil, arith}
use mathlib.Core.Path.{fun_ext}
use mathlib.Core.List.{reverse-cons}
use Rattle.std.proofs.lemmas.List.{reverse-reverse}
use Rattle.std.proofs.lemmas.List.Elements.{filter-append}
use Rattle.tables.specs.Refusals.{some_of}
use Rattle.book.specs.Winners.{Row, Making, beats, unbeaten, top_rows, earliest, winner}
use Rattle.book.proofs.Winning.{some_of_append}
use Rattle.ungrouped.specs.Rows.{latest}

pub some_of_reverse : {X : Type 0} (p : X → Bool) (xs : List X) → some_of p (reverse xs) ≡ some_of p xs
some_of_reverse p [] = refl
some_of_reverse p (x ∷ xs) =
    let e = ap (some_of p) (reverse-cons x xs) ∙ some_of_append p (reverse xs) (x ∷ []) in
    let ih = some_of_reverse p xs in grind arith

pub filter_reverse : {X : Type 0} (p : X → Bool) (xs : List X) → filter p (reverse xs) ≡ reverse (filter p xs)
filter_reverse p [] = refl
filter_reverse p (x ∷ xs) = ap (filter p) (reverse-cons x xs) ∙ filter-append p (reverse xs) (x ∷ []) ∙ ap (λ l. l ++ filter p (x ∷ [])) (filter_reverse p xs) ∙ go (p x)
  where
    go : (b : Bool) → reverse (filter p xs) ++ cond b (x ∷ []) [] ≡ reverse (cond b (x ∷ filter p xs) (filter p xs))
    go true = sym (reverse-cons x (filter p xs))
    go false = append-nil _

pub latest_push : (xs : List Row) (x : Row) → latest (xs ++ x ∷ []) ≡ Some x
latest_push [] x = refl
latest_push (y ∷ []) x = refl
latest_push (y ∷ z ∷ xs) x = latest_push (z ∷ xs) x

latest_reverse : (xs : List Row) → latest (reverse xs) ≡ earliest xs
latest_reverse [] = refl
latest_reverse (x ∷ xs) = ap latest (reverse-cons x xs) ∙ latest_push (reverse xs) x

pub earliest_reverse : (xs : List Row) → earliest (reverse xs) ≡ latest xs
earliest_reverse xs = sym (latest_reverse (reverse xs)) ∙ ap latest (reverse-reverse xs)

pub latest_some : (x : Row) (xs : List Row) → (z : Row) × (latest (x ∷ xs) ≡ Some z)
latest_some x [] = (x, refl)
latest_some x (y ∷ xs) = latest_some y xs

pub unbeaten_round : (m : Making) (xs : List Row) → unbeaten m (reverse xs) ≡ unbeaten m xs
unfolding unbeaten
unbeaten_round m xs = fun_ext (λ r. ap not (some_of_reverse (λ s. beats m s r) xs))

-- the latest top row is the winner of the rows turned round
pub latest_top : (m : Making) (xs : List Row) → latest (top_rows m xs) ≡ winner m (reverse xs)
unfolding winner top_rows
latest_top m xs = sym (ap (λ f. earliest (filter f (reverse xs))) (unbeaten_round m xs) ∙ ap earliest (filter_reverse (unbeaten m xs) xs) ∙ earliest_reverse (filter (unbeaten m xs) xs))
