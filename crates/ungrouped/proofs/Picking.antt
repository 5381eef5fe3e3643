-- The row that a batch puts up, found by one row more after another.
use Rattle.std.proofs.Common.{◌≡◌, Bool, true, false, cond, not, List, [], ◌∷◌, ◌++◌, reverse, Some, None, Option, sym, refl, ap, ◌∙◌}
use Rattle.std.proofs.lemmas.List.{reverse-append}
use Rattle.column.specs.Columns.{Flags}
use Rattle.book.specs.Winners.{Row, Making, Lawful, beats, top_rows, earliest, winner}
use Rattle.book.proofs.Winning.{challenge, winner_run, winner_append}
use Rattle.book.proofs.ByGroup.{stored, stored_winner}
use Rattle.ungrouped.specs.Rows.{Alone, arrives, latest, picked}
use Rattle.ungrouped.specs.Held.{outdoes}
use Rattle.ungrouped.specs.Found.{outermost_top}
use Rattle.ungrouped.proofs.Rounding.{latest_push, latest_top}

-- a row takes the place of an earlier one of its batch: of rows that are said to arrive in order any for LAST and none for FIRST, else one that outdoes it, where ties count
abbrev pub prefers : Alone → Option Flags → Row → Row → Bool
prefers a marks new old = cond (arrives a marks) (not a.making.first) (outdoes a.making true new old)

-- the row that is put up after one row more
abbrev pub or_row : Alone → Option Flags → Option Row → Row → Option Row
or_row a marks None y = Some y
or_row a marks (Some w) y = cond (prefers a marks y w) (Some y) (Some w)

abbrev first_or : Option Row → Row → Option Row
first_or None y = Some y
first_or (Some w) y = Some w

earliest_push : (xs : List Row) (y : Row) → earliest (xs ++ y ∷ []) ≡ first_or (earliest xs) y
earliest_push [] y = refl
earliest_push (x ∷ xs) y = refl

-- the latest top row of a list that grows
latest_top_push : (m : Making) (laws : Lawful m) (xs : List Row) (y : Row) → latest (top_rows m (xs ++ y ∷ [])) ≡ stored m (Some y) (latest (top_rows m xs))
latest_top_push m laws xs y =
    latest_top m (xs ++ y ∷ []) ∙ ap (winner m) (reverse-append xs (y ∷ [])) ∙ winner_run m laws (y ∷ reverse xs)
    ∙ sym (stored_winner m laws (Some y) (reverse xs)) ∙ ap (stored m (Some y)) (sym (latest_top m xs))

pub picked_none : (a : Alone) (marks : Option Flags) → picked a marks [] ≡ None
unfolding picked top_rows
picked_none a marks = go a.making.first (arrives a marks)
  where
    go : (f b : Bool) → cond f (earliest (cond b [] [])) (latest (cond b [] [])) ≡ None
    go true true = refl
    go true false = refl
    go false true = refl
    go false false = refl

pub picked_push : (a : Alone) (laws : Lawful a.making) (marks : Option Flags) (xs : List Row) (y : Row) → picked a marks (xs ++ y ∷ []) ≡ or_row a marks (picked a marks xs) y
unfolding picked winner outdoes
picked_push a laws marks xs y = go (arrives a marks) a.making.first ∙ so (outer a.making.first (rows (arrives a marks) xs))
  where
    m : Making
    m = a.making

    rows : Bool → List Row → List Row
    rows b rs = cond b rs (top_rows m rs)

    outer : Bool → List Row → Option Row
    outer f rs = cond f (earliest rs) (latest rs)

    better : Bool → Bool → Row → Row → Bool
    better b f new old = cond b (not f) (cond (not f) (not (beats m old new)) (beats m new old))

    next : Bool → Bool → Option Row → Option Row
    next b f None = Some y
    next b f (Some w) = cond (better b f y w) (Some y) (Some w)

    so : (o : Option Row) → next (arrives a marks) a.making.first o ≡ or_row a marks o y
    so None = refl
    so (Some w) = refl

    kept : (o : Option Row) → first_or o y ≡ next true true o
    kept None = refl
    kept (Some w) = refl

    last : (o : Option Row) → Some y ≡ next true false o
    last None = refl
    last (Some w) = refl

    beaten : (o : Option Row) → challenge m o y ≡ next false true o
    beaten None = refl
    beaten (Some w) = refl

    unless : (o : Option Row) → stored m (Some y) o ≡ next false false o
    unless None = refl
    unless (Some w) = turned (beats m w y) w
      where
        turned : (b : Bool) (w : Row) → cond b (Some w) (Some y) ≡ cond (not b) (Some y) (Some w)
        turned true w = refl
        turned false w = refl

    go : (b f : Bool) → outer f (rows b (xs ++ y ∷ [])) ≡ next b f (outer f (rows b xs))
    go true true = earliest_push xs y ∙ kept (earliest xs)
    go true false = latest_push xs y ∙ last (latest xs)
    go false true = winner_append m laws xs (y ∷ []) ∙ beaten (winner m xs)
    go false false = latest_top_push m laws xs y ∙ unless (latest (top_rows m xs))

-- the outermost top row of a list that grows
pub top_none : (m : Making) → outermost_top m [] ≡ None
unfolding picked
top_none m = picked_none (record { making = m; in_order = false }) None

pub top_push : (m : Making) (laws : Lawful m) (xs : List Row) (y : Row) → outermost_top m (xs ++ y ∷ []) ≡ or_row (record { making = m; in_order = false }) None (outermost_top m xs) y
unfolding picked
top_push m laws xs y = picked_push (record { making = m; in_order = false }) laws None xs y
