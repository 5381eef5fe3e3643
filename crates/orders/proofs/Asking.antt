-- What asking for a held key's cell declines, case by case, and the key that a table holds for a group.
use Rattle.std.proofs.Common.{◌≡◌, ℕ, zero, suc, ◌<◌, ◌≤◌, List, [], ◌∷◌, map, length, get_or, Some, None, sym, ap, ◌∙◌, arith}
use Rattle.std.proofs.lemmas.Bool.{le-leb, lt-leb}
use Rattle.std.specs.List.{slice_get}
use Rattle.std.proofs.lemmas.Option.{get_or_from_slice_get, slice_get_within}
use Rattle.std.proofs.lemmas.List.{get_or-map, length-map}
use Rattle.column.specs.Cells.{Kind, Cell, null}
use Rattle.tables.specs.Meaning.{column_cells}
use Rattle.tables.specs.declared.OrderFault.TheVariants as order
use Rattle.tables.specs.Refusals.{asking_key}

module _ (ks : List Kind) (j held g : ℕ) where
  pub asked_past : length ks ≤ j → asking_key ks j held g ≡ Some order.Cols
  unfolding asking_key
  asked_past h = rw (le-leb (length ks) j h)

  pub asked_unheld : j < length ks → held ≤ g → asking_key ks j held g ≡ Some order.Group
  unfolding asking_key
  asked_unheld h l = rw (lt-leb (length ks) j h, le-leb held g l)

  pub asked_fine : j < length ks → g < held → asking_key ks j held g ≡ None
  unfolding asking_key
  asked_fine h l = rw (lt-leb (length ks) j h, lt-leb held g l)

-- what is held for a group

pub unheld : {X : Type 0} (xs : List X) (g : ℕ) → None ≡ slice_get xs g → length xs ≤ g
unheld [] g e = omega arith
unheld (x ∷ xs) zero e = cc
unheld (x ∷ xs) (suc g) e = let h = unheld xs g e in omega arith

module _ {X : Type 0} (f : X → List Cell) (xs : List X) (g : ℕ) (x : X) (e : Some x ≡ slice_get xs g) where
  pub held_within : g < length xs
  held_within = slice_get_within xs g x (sym e)

  pub held_key : get_or (map f xs) g [] ≡ f x
  held_key = get_or-map f xs g x [] held_within ∙ ap f (get_or_from_slice_get xs g x x (sym e))

  pub held_in_column : (j : ℕ) → get_or (column_cells j (map f xs)) g null ≡ get_or (f x) j null
  held_in_column j =
      get_or-map (λ c. get_or c j null) (map f xs) g [] null (let l = length-map xs f in let h = held_within in omega arith)
      ∙ ap (λ c. get_or c j null) held_key
