-- The row that a batch puts up is a top row of the batch.
use Rattle.std.proofs.Common.{◌≡◌, ◌+◌, Bool, true, false, cond, not, ◌&&◌, List, [], ◌∷◌, ◌++◌, length, get_or, Some, None, Option, refl, sym, ap, ◌∙◌, subst, ⊎_elim, append_assoc, append-nil, arith}
use mathlib.Core.Bool.{false≢true}
use Rattle.std.specs.List.{AllPairs, Contains}
use Rattle.std.proofs.lemmas.List.{get_or_append_left, get_or-append-add, get_or_default, length-append}
use Rattle.std.proofs.lemmas.List.Elements.{Contains-append_left, Contains-append_right, Contains-append_cases, Contains-push, Contains-push_cases}
use Rattle.column.specs.Columns.{Flags}
use Rattle.book.specs.Winners.{Row, Making, Lawful, beats}
use Rattle.book.proofs.Winning.{beats_not_self, beats_back}
use Rattle.book.proofs.ByGroup.{beats_low}
use Rattle.ungrouped.specs.Rows.{Alone, arrives, picked}
use Rattle.ungrouped.specs.Held.{outdoes}
use Rattle.ungrouped.specs.Runs.{InTurn, InOrder, Top, Best}
use Rattle.ungrouped.proofs.Picking.{prefers, or_row, picked_none, picked_push}

-- two rows of a list in order, the one out of its front and the other out of the rest
pub across : {X : Type 0} (R : X → X → Type 0) (xs ys : List X) (x y : X) → AllPairs R (xs ++ ys) → Contains xs x → Contains ys y → R x y
across R xs ys x y all p q =
    let l = length-append xs ys in
    let left : get_or (xs ++ ys) p.0 x ≡ x = get_or_append_left xs ys x p.0 p.1 ∙ p.2 in
    let right : get_or (xs ++ ys) (length xs + q.0) x ≡ y = get_or-append-add xs ys q.0 x ∙ get_or_default ys q.0 x y q.1 ∙ q.2 in
    subst (λ r. R r y) left (subst (R (get_or (xs ++ ys) p.0 x)) right (all p.0 (length xs + q.0) x (let i = p.1 in omega arith) (let j = q.1 in omega arith)))

pub front_pairs : {X : Type 0} (R : X → X → Type 0) (xs ys : List X) → AllPairs R (xs ++ ys) → AllPairs R xs
front_pairs R xs ys all = λ i j d h k.
    let l = length-append xs ys in
    subst (λ r. R r (get_or xs j d)) (get_or_append_left xs ys d i (omega arith)) (subst (R (get_or (xs ++ ys) i d)) (get_or_append_left xs ys d j k) (all i j d h (omega arith)))

pub rest_pairs : {X : Type 0} (R : X → X → Type 0) (xs ys : List X) → AllPairs R (xs ++ ys) → AllPairs R ys
rest_pairs R xs ys all = λ i j d h k.
    let l = length-append xs ys in
    subst (λ r. R r (get_or ys j d)) (get_or-append-add xs ys i d) (subst (R (get_or (xs ++ ys) (length xs + i) d)) (get_or-append-add xs ys j d) (all (length xs + i) (length xs + j) d (omega arith) (omega arith)))

module _ (m : Making) (laws : Lawful m) where
  asymmetric : (a b : Row) → beats m a b ≡ true → beats m b a ≡ false
  asymmetric a b e = beats_back m laws a b b e (beats_not_self m laws b)

  pub outdoes_so : (ties : Bool) (new old : Row) → outdoes m ties new old ≡ true → beats m old new ≡ false
  unfolding outdoes
  outdoes_so ties new old = go (ties && not m.first) (beats m old new) (beats m new old) (asymmetric new old)
    where
      go : (b o n : Bool) → (n ≡ true → o ≡ false) → cond b (not o) n ≡ true → o ≡ false
      go true true n h e = absurd (false≢true e)
      go true false n h e = refl
      go false o n h e = h e

  pub outdoes_not : (ties : Bool) (new old : Row) → outdoes m ties new old ≡ false → beats m new old ≡ false
  unfolding outdoes
  outdoes_not ties new old = go (ties && not m.first) (beats m old new) (beats m new old) (asymmetric old new)
    where
      go : (b o n : Bool) → (o ≡ true → n ≡ false) → cond b (not o) n ≡ false → n ≡ false
      go true true n h e = h refl
      go true false n h e = absurd (false≢true (sym e))
      go false o n h e = e

  top_one : (r : Row) → Top m (r ∷ []) r
  top_one r = record { among = Contains-push [] r; unbeaten = λ s c. ⊎_elim (λ z. absurd (none s z)) (λ e. ap (λ x. beats m x r) (sym e) ∙ beats_not_self m laws r) (Contains-push_cases [] r s c) }
    where
      none : (s : Row) → Contains [] s → ⊥
      none s z = let h = z.1 in omega arith

  -- a new top row that the old one does not beat, and an old one that the new does not beat
  pub top_new : (xs ys : List Row) (w p : Row) → Top m xs w → Top m ys p → beats m w p ≡ false → Top m (xs ++ ys) p
  top_new xs ys w p old new e = record {
    among = Contains-append_right xs ys p new.among;
    unbeaten = λ s c. ⊎_elim (λ z. beats_low m laws s w p (old.unbeaten s z) e) (λ z. new.unbeaten s z) (Contains-append_cases xs ys s c);
  }

  pub top_old : (xs ys : List Row) (w p : Row) → Top m xs w → Top m ys p → beats m p w ≡ false → Top m (xs ++ ys) w
  top_old xs ys w p old new e = record {
    among = Contains-append_left xs ys w old.among;
    unbeaten = λ s c. ⊎_elim (λ z. old.unbeaten s z) (λ z. beats_low m laws s p w (new.unbeaten s z) e) (Contains-append_cases xs ys s c);
  }

  pub in_turn_last : m.first ≡ false → (x y : Row) → InTurn m x y → beats m x y ≡ false
  in_turn_last l x y = subst (λ f. cond f (beats m y x) (beats m x y) ≡ false → beats m x y ≡ false) (sym l) (λ h. h)

  pub in_turn_first : m.first ≡ true → (x y : Row) → InTurn m x y → beats m y x ≡ false
  in_turn_first l x y = subst (λ f. cond f (beats m y x) (beats m x y) ≡ false → beats m y x ≡ false) (sym l) (λ h. h)

pub not_true : (b : Bool) → not b ≡ true → b ≡ false
not_true true e = absurd (false≢true e)
not_true false e = refl

pub not_false : (b : Bool) → not b ≡ false → b ≡ true
not_false true e = refl
not_false false e = absurd (false≢true (sym e))

-- Within a batch

module _ (a : Alone) (laws : Lawful a.making) (marks : Option Flags) where
  -- of a row and an earlier one, in order where they are said to be: what the preference tells
  preferred : (new old : Row) → (arrives a marks ≡ true → InTurn a.making old new) → prefers a marks new old ≡ true → beats a.making old new ≡ false
  preferred new old turn = go (arrives a marks) refl
    where
      go : (b : Bool) → arrives a marks ≡ b → cond b (not a.making.first) (outdoes a.making true new old) ≡ true → beats a.making old new ≡ false
      go true e k = in_turn_last a.making laws (not_true a.making.first k) old new (turn e)
      go false e k = outdoes_so a.making laws true new old k

  left : (new old : Row) → (arrives a marks ≡ true → InTurn a.making old new) → prefers a marks new old ≡ false → beats a.making new old ≡ false
  left new old turn = go (arrives a marks) refl
    where
      go : (b : Bool) → arrives a marks ≡ b → cond b (not a.making.first) (outdoes a.making true new old) ≡ false → beats a.making new old ≡ false
      go true e k = in_turn_first a.making laws (not_false a.making.first k) old new (turn e)
      go false e k = outdoes_not a.making laws true new old k

  best_push : (xs : List Row) (y : Row) (o : Option Row) → Best a.making xs o → (arrives a marks ≡ true → InOrder a.making (xs ++ y ∷ [])) → Best a.making (xs ++ y ∷ []) (or_row a marks o y)
  best_push xs y None h turn = subst (λ l. Top a.making (l ++ y ∷ []) y) (sym h) (top_one a.making laws y)
  best_push xs y (Some w) h turn = go (prefers a marks y w) (preferred y w next) (left y w next)
    where
      next : arrives a marks ≡ true → InTurn a.making w y
      next e = across (InTurn a.making) xs (y ∷ []) w y (turn e) h.among (Contains-push [] y)

      go : (b : Bool) → (b ≡ true → beats a.making w y ≡ false) → (b ≡ false → beats a.making y w ≡ false) → Best a.making (xs ++ y ∷ []) (cond b (Some y) (Some w))
      go true k l = top_new a.making laws xs (y ∷ []) w y h (top_one a.making laws y) (k refl)
      go false k l = top_old a.making laws xs (y ∷ []) w y h (top_one a.making laws y) (l refl)

  best_on : (xs ys : List Row) → Best a.making xs (picked a marks xs) → (arrives a marks ≡ true → InOrder a.making (xs ++ ys)) → Best a.making (xs ++ ys) (picked a marks (xs ++ ys))
  best_on xs [] h turn = subst (λ l. Best a.making l (picked a marks l)) (sym (append-nil xs)) h
  best_on xs (y ∷ ys) h turn =
      let one : xs ++ y ∷ ys ≡ (xs ++ y ∷ []) ++ ys = sym (append_assoc xs (y ∷ []) ys) in
      let turn' : arrives a marks ≡ true → InOrder a.making ((xs ++ y ∷ []) ++ ys) = λ e. subst (InOrder a.making) one (turn e) in
      subst (λ l. Best a.making l (picked a marks l)) (sym one)
      (best_on (xs ++ y ∷ []) ys
      (subst (Best a.making (xs ++ y ∷ [])) (sym (picked_push a laws marks xs y)) (best_push xs y (picked a marks xs) h (λ e. front_pairs (InTurn a.making) (xs ++ y ∷ []) ys (turn' e))))
      turn')

  pub picked_best : (rs : List Row) → (arrives a marks ≡ true → InOrder a.making rs) → Best a.making rs (picked a marks rs)
  picked_best rs turn = best_on [] rs (subst (Best a.making []) (sym (picked_none a marks)) refl) turn
