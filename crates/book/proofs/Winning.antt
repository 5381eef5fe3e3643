-- The winner of a group that grows: only the winner so far counts.
use Rattle.std.proofs.Common.{◌≡◌, Bool, true, false, cond, not, ◌&&◌, ◌||◌, List, [], ◌∷◌, ◌++◌, Some, None, filter, Option, sym, refl, ap, ◌∙◌, append_assoc, append-nil, arith}
use mathlib.Core.Path.{fun_ext}
use Rattle.std.proofs.lemmas.List.Elements.{filter-append}
use Rattle.std.proofs.ByRecursion.{kept_by_passes, All-weaker}
use Rattle.std.proofs.lemmas.Bool.{not-true, or_parts, cond-true, cond-false}
use Rattle.std.specs.List.{AllByRecursion}
use Rattle.book.specs.Winners.{Row, Making, Lawful, beats, unbeaten, top_rows, earliest, winner}
use Rattle.tables.specs.Refusals.{some_of}

-- a test over a list, and what a filter keeps first

pub some_of_append : {X : Type 0} (p : X → Bool) (xs ys : List X) → some_of p (xs ++ ys) ≡ (some_of p xs || some_of p ys)
some_of_append p [] ys = refl
some_of_append p (x ∷ xs) ys = let ih = some_of_append p xs ys in grind arith

none_all : {X : Type 0} (p : X → Bool) (xs : List X) → some_of p xs ≡ false → AllByRecursion (λ x. p x ≡ false) xs
none_all p [] h = tt
none_all p (x ∷ xs) h = let e = or_parts (p x) (some_of p xs) h in (e.0, none_all p xs e.1)

all_none : {X : Type 0} (p : X → Bool) (xs : List X) → AllByRecursion (λ x. p x ≡ false) xs → some_of p xs ≡ false
all_none p [] h = refl
all_none p (x ∷ xs) h = let ih = all_none p xs h.1 in let e = h.0 in grind arith

none_kept : {X : Type 0} (p : X → Bool) (xs : List X) → AllByRecursion (λ x. p x ≡ false) xs → filter p xs ≡ []
none_kept p [] h = refl
none_kept p (x ∷ xs) h = cond-false (p x) _ _ h.0 ∙ none_kept p xs h.1

first_passes : (p : Row → Bool) (xs : List Row) (w : Row) → earliest (filter p xs) ≡ Some w → p w ≡ true
first_passes p xs w h = go (filter p xs) (kept_by_passes p xs) h
  where
    go : (ys : List Row) → AllByRecursion (λ y. p y ≡ true) ys → earliest ys ≡ Some w → p w ≡ true
    go [] a e = cc
    go (y ∷ ys) a e = let f = a.0 in cc

-- what passes p first and also passes q is what passes both first
first_both : (p q : Row → Bool) (xs : List Row) (w : Row) → earliest (filter p xs) ≡ Some w → q w ≡ true → earliest (filter (λ r. p r && q r) xs) ≡ Some w
first_both p q [] w h k = h
first_both p q (x ∷ xs) w h k = go (p x) refl h (λ h'. first_both p q xs w h' k)
  where
    go : (b : Bool) → p x ≡ b → earliest (cond b (x ∷ filter p xs) (filter p xs)) ≡ Some w
        → (earliest (filter p xs) ≡ Some w → earliest (filter (λ r. p r && q r) xs) ≡ Some w) → earliest (filter (λ r. p r && q r) (x ∷ xs)) ≡ Some w
    go true e h ih = let f : q x ≡ true = cc in rw (e, f) h
    go false e h ih = rw e (ih h)

pub first_append : (xs ys : List Row) (w : Row) → earliest xs ≡ Some w → earliest (xs ++ ys) ≡ Some w
first_append [] ys w h = cc
first_append (x ∷ xs) ys w h = h

-- the winner so far against one row more
abbrev pub challenge : Making → Option Row → Row → Option Row
challenge m None y = Some y
challenge m (Some w) y = cond (beats m y w) (Some y) (Some w)

-- the winner after more rows came
abbrev pub run : Making → Option Row → List Row → Option Row
run m o [] = o
run m o (y ∷ ys) = run m (challenge m o y) ys

pub run_append : (m : Making) (o : Option Row) (xs ys : List Row) → run m o (xs ++ ys) ≡ run m (run m o xs) ys
run_append m o [] ys = refl
run_append m o (x ∷ xs) ys = run_append m (challenge m o x) xs ys

module _ (m : Making) (laws : Lawful m) where
  pub beats_not_self : (r : Row) → beats m r r ≡ false
  unfolding beats
  beats_not_self r = let t = laws.of_order.total r.key r.key in grind arith

  -- a beats b, and c does not: so a beats c, and c does not beat a
  pub beats_over : (a b c : Row) → beats m a b ≡ true → beats m c b ≡ false → beats m a c ≡ true
  unfolding beats
  beats_over a b c h k = let t = laws.of_order.total in let s = laws.of_order.transitive in grind (arith, t, s)

  pub beats_back : (a b c : Row) → beats m a b ≡ true → beats m c b ≡ false → beats m c a ≡ false
  unfolding beats
  beats_back a b c h k = let t = laws.of_order.total in let s = laws.of_order.transitive in grind (arith, t, s)

  unbeaten_push : (xs : List Row) (y r : Row) → unbeaten m (xs ++ y ∷ []) r ≡ (unbeaten m xs r && not (beats m y r))
  unfolding unbeaten
  unbeaten_push xs y r = let e = some_of_append (λ s. beats m s r) xs (y ∷ []) in grind arith

  not_beaten_by : (xs : List Row) (w : Row) → winner m xs ≡ Some w → AllByRecursion (λ s. beats m s w ≡ false) xs
  unfolding winner top_rows unbeaten
  not_beaten_by xs w h = none_all (λ s. beats m s w) xs (not-true _ (first_passes (unbeaten m xs) xs w h))

  winner_push_beaten : (xs : List Row) (w y : Row) → winner m xs ≡ Some w → beats m y w ≡ true → winner m (xs ++ y ∷ []) ≡ Some y
  unfolding winner top_rows unbeaten
  winner_push_beaten xs w y h k =
      let p : Row → Bool = unbeaten m (xs ++ y ∷ []) in
      let below = not_beaten_by xs w h in
      let old : AllByRecursion (λ r. p r ≡ false) xs =
      All-weaker (λ r. beats m r w ≡ false) (λ r. p r ≡ false) (λ r e. let f = unbeaten_push xs y r in let g = beats_over y w r k e in grind arith) xs below in
      let none : some_of (λ s. beats m s y) xs ≡ false =
      all_none (λ s. beats m s y) xs (All-weaker (λ r. beats m r w ≡ false) (λ r. beats m r y ≡ false) (λ r e. beats_back y w r k e) xs below) in
      let new : p y ≡ true = let f = unbeaten_push xs y y in let g = beats_not_self y in grind arith in
      ap earliest (filter-append p xs (y ∷ []) ∙ ap (λ l. l ++ filter p (y ∷ [])) (none_kept p xs old) ∙ cond-true (p y) _ _ new)

  winner_push_kept : (xs : List Row) (w y : Row) → winner m xs ≡ Some w → beats m y w ≡ false → winner m (xs ++ y ∷ []) ≡ Some w
  unfolding winner top_rows
  winner_push_kept xs w y h k =
      let p : Row → Bool = unbeaten m (xs ++ y ∷ []) in
      let both : p ≡ (λ r. unbeaten m xs r && not (beats m y r)) = fun_ext (unbeaten_push xs y) in
      let found : earliest (filter p xs) ≡ Some w =
      ap (λ f. earliest (filter f xs)) both ∙ first_both (unbeaten m xs) (λ r. not (beats m y r)) xs w h (ap not k) in
      ap earliest (filter-append p xs (y ∷ [])) ∙ first_append (filter p xs) (filter p (y ∷ [])) w found

  winner_one : (y : Row) → winner m (y ∷ []) ≡ Some y
  unfolding winner top_rows unbeaten
  winner_one y = let g = beats_not_self y in rw g

  winner_push_some : (xs : List Row) (w y : Row) → winner m xs ≡ Some w → winner m (xs ++ y ∷ []) ≡ challenge m (Some w) y
  winner_push_some xs w y h = go (beats m y w) refl
    where
      go : (b : Bool) → beats m y w ≡ b → winner m (xs ++ y ∷ []) ≡ cond b (Some y) (Some w)
      go true e = winner_push_beaten xs w y h e
      go false e = winner_push_kept xs w y h e

  run_some : (xs : List Row) (w : Row) (ys : List Row) → winner m xs ≡ Some w → winner m (xs ++ ys) ≡ run m (Some w) ys
  run_some xs w [] h = ap (winner m) (append-nil xs) ∙ h
  run_some xs w (y ∷ ys) h =
      ap (winner m) (sym (append_assoc xs (y ∷ []) ys)) ∙ go (beats m y w) (winner_push_some xs w y h) (λ v. run_some (xs ++ y ∷ []) v ys)
    where
      go : (b : Bool) → winner m (xs ++ y ∷ []) ≡ cond b (Some y) (Some w)
          → ((v : Row) → winner m (xs ++ y ∷ []) ≡ Some v → winner m ((xs ++ y ∷ []) ++ ys) ≡ run m (Some v) ys)
          → winner m ((xs ++ y ∷ []) ++ ys) ≡ run m (cond b (Some y) (Some w)) ys
      go true e ih = ih y e
      go false e ih = ih w e

  pub winner_run : (ys : List Row) → winner m ys ≡ run m None ys
  unfolding winner top_rows
  winner_run [] = refl
  winner_run (y ∷ ys) = run_some (y ∷ []) y ys (winner_one y)

  -- more rows meet the winner so far and no other row
  pub winner_append : (xs ys : List Row) → winner m (xs ++ ys) ≡ run m (winner m xs) ys
  winner_append xs ys = winner_run (xs ++ ys) ∙ run_append m None xs ys ∙ ap (λ o. run m o ys) (sym (winner_run xs))
