-- A batch, group by group: the winner among a group's new rows replaces what is held where nothing is held or it beats that.
use Rattle.std.proofs.Common.{◌≡◌, ℕ, ◌<◌, Bool, true, false, cond, eqb, List, [], ◌∷◌, map, length, get_or, set, Some, None, filter, Option, sym, refl, ap, ◌∙◌, arith, length-set}
use Rattle.std.proofs.lemmas.List.{get_or-set_same, get_or-set_other}
use Rattle.std.proofs.lemmas.Bool.{eqb-true, eqb-false}
use Rattle.book.proofs.Following.{Held, met}
use Rattle.book.proofs.Winning.{challenge, run, beats_not_self, beats_over, beats_back, winner_run}
use Rattle.book.specs.Winners.{Row, Making, Lawful, beats, winner}

-- the picked row is stored where nothing is held or it beats what is held
abbrev pub stored : Making → Option Row → Option Row → Option Row
stored m held None = held
stored m None (Some r) = Some r
stored m (Some w) (Some r) = cond (beats m r w) (Some r) (Some w)

module _ (m : Making) (laws : Lawful m) where
  pub beats_low : (y v w : Row) → beats m y v ≡ false → beats m v w ≡ false → beats m y w ≡ false
  beats_low y v w h k = go (beats m y w) refl
    where
      go : (b : Bool) → beats m y w ≡ b → beats m y w ≡ false
      go true e = let f = beats_over m laws y w v e k in cc
      go false e = e

  beats_up : (y v w : Row) → beats m y v ≡ true → beats m v w ≡ true → beats m y w ≡ true
  beats_up y v w h k = beats_over m laws y v w h (beats_back m laws v w w k (beats_not_self m laws w))

  stored_challenge : (w v y : Row) → stored m (Some w) (challenge m (Some v) y) ≡ challenge m (stored m (Some w) (Some v)) y
  stored_challenge w v y = go (beats m y v) (beats m v w) refl refl
    where
      go : (p q : Bool) → beats m y v ≡ p → beats m v w ≡ q
          → stored m (Some w) (cond p (Some y) (Some v)) ≡ challenge m (cond q (Some v) (Some w)) y
      go true true e f = let g = beats_up y v w e f in rw (g, e)
      go true false e f = refl
      go false true e f = rw (f, e)
      go false false e f = let g = beats_low y v w e f in rw (f, g)

  stored_run : (w v : Row) (ys : List Row) → stored m (Some w) (run m (Some v) ys) ≡ run m (stored m (Some w) (Some v)) ys
  stored_run w v [] = refl
  stored_run w v (y ∷ ys) = go (beats m y v) (λ u. stored_run w u ys) ∙ ap (λ o. run m o ys) (stored_challenge w v y)
    where
      go : (b : Bool) → ((u : Row) → stored m (Some w) (run m (Some u) ys) ≡ run m (stored m (Some w) (Some u)) ys)
          → stored m (Some w) (run m (cond b (Some y) (Some v)) ys) ≡ run m (stored m (Some w) (cond b (Some y) (Some v))) ys
      go true ih = ih y
      go false ih = ih v

  stored_none : (o : Option Row) → stored m None o ≡ o
  stored_none None = refl
  stored_none (Some r) = refl

  -- to store the winner of some rows is to meet them one by one
  pub stored_winner : (o : Option Row) (ys : List Row) → stored m o (winner m ys) ≡ run m o ys
  stored_winner None ys = stored_none (winner m ys) ∙ winner_run m laws ys
  stored_winner (Some w) [] = ap (stored m (Some w)) (winner_run m laws [])
  stored_winner (Some w) (y ∷ ys) = ap (stored m (Some w)) (winner_run m laws (y ∷ ys)) ∙ stored_run w y ys

-- the rows of group i among some entries
abbrev pub rows_for : ℕ → List (ℕ × Row) → List Row
rows_for i es = map (λ (e : ℕ × Row). e.1) (filter (λ (e : ℕ × Row). eqb e.0 i) es)

pub met_length : (m : Making) (ws : Held) (es : List (ℕ × Row)) → length (met m ws es) ≡ length ws
met_length m ws [] = refl
met_length m ws (e ∷ es) = met_length m (set ws e.0 (challenge m (get_or ws e.0 None) e.1)) es ∙ length-set ws e.0 _

met_run : (m : Making) (es : List (ℕ × Row)) (ws : Held) (i : ℕ) → i < length ws → get_or (met m ws es) i None ≡ run m (get_or ws i None) (rows_for i es)
met_run m [] ws i h = refl
met_run m (e ∷ es) ws i h = go (eqb e.0 i) refl (met_run m es (set ws e.0 (challenge m (get_or ws e.0 None) e.1)) i)
  where
    new : Held
    new = set ws e.0 (challenge m (get_or ws e.0 None) e.1)

    go : (b : Bool) → eqb e.0 i ≡ b
        → (i < length new → get_or (met m new es) i None ≡ run m (get_or new i None) (rows_for i es))
        → get_or (met m new es) i None ≡ run m (get_or ws i None) (map (λ (e : ℕ × Row). e.1) (cond b (e ∷ filter (λ (e : ℕ × Row). eqb e.0 i) es) (filter (λ (e : ℕ × Row). eqb e.0 i) es)))
    go true f ih =
        let j : e.0 ≡ i = eqb-true e.0 i f in
        let n : length new ≡ length ws = length-set ws e.0 _ in
        let s : get_or new i None ≡ challenge m (get_or ws i None) e.1 =
        ap (λ k. get_or (set ws k (challenge m (get_or ws k None) e.1)) i None) j ∙ get_or-set_same ws i (challenge m (get_or ws i None) e.1) None h in
        ih (omega arith) ∙ ap (λ o. run m o (rows_for i es)) s
    go false f ih =
        let n : length new ≡ length ws = length-set ws e.0 _ in
        let s : get_or new i None ≡ get_or ws i None = get_or-set_other ws e.0 i _ None (λ k. eqb-false e.0 i f (sym k)) in
        ih (omega arith) ∙ ap (λ o. run m o (rows_for i es)) s

-- what a group holds after a batch
pub met_stored : (m : Making) (laws : Lawful m) (es : List (ℕ × Row)) (ws : Held) (i : ℕ) → i < length ws
    → get_or (met m ws es) i None ≡ stored m (get_or ws i None) (winner m (rows_for i es))
met_stored m laws es ws i h = met_run m es ws i h ∙ sym (stored_winner m laws (get_or ws i None) (rows_for i es))
