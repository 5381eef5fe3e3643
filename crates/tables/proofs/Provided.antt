-- What the calls that a state and an order have from their trait decline, one check after another.
use Rattle.std.proofs.Common.{◌≡◌, ℕ, suc, ◌+◌, ◌-◌, ◌<◌, ◌≤◌, Bool, true, false, not, ltb, List, [], ◌∷◌, map, length, take, find, Some, None, Ok, Err, Option, sym, refl, ap, ◌∙◌, arith}
use Rattle.std.proofs.lemmas.List.{take-map}
use Rattle.column.specs.declared.Column as code
use Rattle.column.specs.Seen.{column_seen, columns_seen}
use Rattle.column.specs.Checks.{outcome, refuse, first_of}
use Rattle.column.specs.Cells.{same_kind}
use Rattle.column.specs.Columns.{Column, cell_at, count_up}
use Rattle.layout.specs.Layout.{Parts}
use Rattle.layout.specs.Written.{roomy}
use Rattle.layout.specs.declared.Space.{Space}
use Rattle.tables.specs.declared.StateFault.TheVariants as state
use Rattle.tables.specs.declared.OrderFault.TheVariants as order
use Rattle.tables.specs.Meaning.{Settings, state_of}
use Rattle.tables.specs.Reading.{cell_read, cell_taken, named_taken, key_read, key_taken}
use Rattle.tables.specs.Refusals.{unread, cell_refused, named_unread, named_refused, some_of, untaken, key_unfit, key_refused, key_at}
use Rattle.tables.proofs.Declining.{declined, passed, answer_some, first_declined, first_passed, refuse_passed, some≢none}
use Rattle.tables.proofs.Taking.{measured}
use Rattle.tables.proofs.AsRead.{or_parts, cell_is_read, cell_is_taken, named_is_taken, kinds_read, columns_taken}
use Rattle.tables.proofs.Passing.{KeyPassed, named_passed, key_passed}

-- The lowest number that a test finds

pub find_here : (p : ℕ → Bool) (n i : ℕ) → i < n → p i ≡ true → find p (count_up i (n - i)) ≡ Some i
find_here p n i h e = let z : n - i ≡ suc (n - (i + 1)) = omega arith in rw (z, e)

pub find_next : (p : ℕ → Bool) (n i : ℕ) → i < n → p i ≡ false → find p (count_up i (n - i)) ≡ find p (count_up (i + 1) (n - (i + 1)))
find_next p n i h e = let z : n - i ≡ suc (n - (i + 1)) = omega arith in rw (z, e) (let y : i + 1 ≡ suc i = omega arith in rw y)

-- A check that comes first

pub first_stops : {F X Y : Type 0} (o : Option F) (os : List (Option F)) (f : F) (y : Y) (x : X) → Err f ≡ outcome o y → Err f ≡ outcome (first_of (o ∷ os)) x
first_stops o os f y x e = answer_some _ f x (first_declined o os (declined o f y e))

-- room for what was measured
pub room_answer : {F : Type 0} (o : Option F) (sp laid : Space) (before : Parts) (f : F) (b : Bool) → Ok sp ≡ outcome o laid → b ≡ roomy sp before
    → outcome (refuse (not b) f) (tt {0}) ≡ outcome (first_of (o ∷ refuse (not (roomy laid before)) f ∷ [])) (tt {0})
room_answer o sp laid before f b e t = rw (passed o sp laid e, t, measured o sp laid e) (go (roomy laid before))
  where
    go : (b : Bool) → outcome (refuse (not b) f) (tt {0}) ≡ outcome (first_of (refuse (not b) f ∷ [])) (tt {0})
    go true = refl
    go false = refl

-- A row of a value column

module _ (s : Settings) (c : Column) (r : ℕ) where
  -- the checks of a row, with the cell as it is read
  pub cell_checks : cell_refused s false c r ≡ first_of (unread (state_of s).kind c ∷ refuse (not (ltb r c.rows)) state.Rows ∷ refuse (not (cell_taken s c r)) state.Long ∷ [])
  unfolding cell_refused
  cell_checks = go (same_kind c.kind (state_of s).kind) (s.takes 0 (cell_at c r)) (ltb r c.rows) (cell_taken s c r) (λ e. sym (cell_is_taken s c r e))
    where
      go : (b t l u : Bool) → (b ≡ true → t ≡ u)
          → first_of (first_of (refuse false state.Group ∷ refuse (not b) state.Kind ∷ refuse (not l) state.Rows ∷ []) ∷ refuse (not t) state.Long ∷ []) ≡ first_of (refuse (not b) state.Kind ∷ refuse (not l) state.Rows ∷ refuse (not u) state.Long ∷ [])
      go true t true u h = ap (λ x. first_of (refuse (not x) state.Long ∷ [])) (h refl)
      go true t false u h = refl
      go false t l u h = refl

  pub cell_outside : cell_refused s true c r ≡ Some state.Group
  unfolding cell_refused
  cell_outside = refl

  -- a cell that is not declined is taken, and read as it is
  pub cell_settled : cell_refused s false c r ≡ None → (cell_taken s c r ≡ true) × (cell_read s c r ≡ cell_at c r)
  unfolding cell_refused
  cell_settled e = go (same_kind c.kind (state_of s).kind) (s.takes 0 (cell_at c r)) (ltb r c.rows) (cell_is_taken s c r) (cell_is_read s c r) e
    where
      go : (b t l : Bool) → (b ≡ true → cell_taken s c r ≡ t) → (b ≡ true → cell_read s c r ≡ cell_at c r)
          → first_of (first_of (refuse false state.Group ∷ refuse (not b) state.Kind ∷ refuse (not l) state.Rows ∷ []) ∷ refuse (not t) state.Long ∷ []) ≡ None → (cell_taken s c r ≡ true) × (cell_read s c r ≡ cell_at c r)
      go true true true h k e = (h refl, k refl)
      go true false true h k e = absurd (some≢none e)
      go true t false h k e = absurd (some≢none e)
      go false t l h k e = absurd (some≢none e)

-- A row of one key column

module _ (s : Settings) (j : ℕ) (c : Column) (r : ℕ) where
  pub named_checks : named_refused s j c r ≡ first_of (named_unread s.kinds j c ∷ refuse (not (ltb r c.rows)) order.Rows ∷ refuse (not (s.takes j (cell_at c r))) order.Long ∷ [])
  unfolding named_refused
  named_checks = refl

  -- a column that is read shows its own cells
  pub named_settled : named_unread s.kinds j c ≡ None → (j < length s.kinds) × (named_taken s j c r ≡ s.takes j (cell_at c r))
  named_settled e =
      let p = named_passed s.kinds j c e in
      (p.within, named_is_taken s j c r p.within (ap not p.kind))

-- Rows of all key columns

module _ (s : Settings) (out : Bool) (os : List code.Column) (n : ℕ) (rs : List ℕ) (e : key_refused s out (columns_seen os n) n rs ≡ None) where
  key_fit : key_unfit s.kinds out (columns_seen os n) n rs ≡ None
  unfolding key_refused
  key_fit = (first_passed _ _ e).0

  ready : KeyPassed s.kinds out (columns_seen os n) n rs
  ready = key_passed s.kinds out (columns_seen os n) n rs key_fit

  pub key_few : n ≤ 3
  key_few = ready.few

  pub key_held : out ≡ false
  key_held = ready.held

  pub key_settled : (r : ℕ) → key_read s.kinds (map column_seen (take n os)) r ≡ key_at (columns_seen os n) r
  key_settled r = ap (λ cs. key_read s.kinds cs r) (sym (take-map column_seen n os)) ∙ kinds_read s.kinds (columns_seen os n) r ready.columns ready.kinds

  all_taken : some_of (untaken s (columns_seen os n)) rs ≡ false
  unfolding key_refused
  all_taken = refuse_passed _ _ (first_passed _ _ (first_passed (key_unfit s.kinds out (columns_seen os n) n rs) _ e).1).0

-- a key that is not declined is taken
pub key_all_taken : (s : Settings) (out : Bool) (os : List code.Column) (n r : ℕ) → key_refused s out (columns_seen os n) n (r ∷ []) ≡ None → key_taken s (map column_seen (take n os)) r ≡ true
key_all_taken s out os n r e =
    let p = ready s out os n (r ∷ []) e in
    let u = (or_parts (untaken s (columns_seen os n) r) false (all_taken s out os n (r ∷ []) e)).0 in
    ap (λ cs. key_taken s cs r) (sym (take-map column_seen n os)) ∙ columns_taken s (columns_seen os n) r p.columns p.kinds ∙ ap not u
