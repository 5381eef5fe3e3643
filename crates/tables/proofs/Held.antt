-- A table with one cell for each group, by the function that gives the cell of what is held, and by the settings of the state: what its calls decline, read and write.
use Rattle.std.proofs.Common.{◌≡◌, ℕ, zero, suc, Bool, true, false, not, leb, List, [], ◌∷◌, map, length, take, Some, None, Ok, Err, sym, refl, ap, ◌∙◌}
use Rattle.std.proofs.lemmas.List.{length-map, take-map}
use Rattle.std.proofs.lemmas.Bool.{false≢true}
use Rattle.std.specs.Bool.{Decides}
use Rattle.std.specs.List.{slice_get}
use Rattle.std.specs.Option.{option_map}
use Rattle.column.specs.Checks.{outcome, refuse}
use Rattle.column.specs.Cells.{Kind, numbers, strings, records, Cell, same_kind}
use Rattle.column.specs.Columns.{Column, cell_at, shown}
use Rattle.layout.specs.Layout.{Parts, laid_out, fits}
use Rattle.layout.specs.declared.OutputFault.{OutputFault}
use Rattle.layout.specs.declared.OutputFault.TheVariants as output
use Rattle.tables.specs.declared.StateFault.{StateFault}
use Rattle.tables.specs.declared.StateFault.TheVariants as state
use Rattle.tables.specs.Meaning.{Settings, state_of, first_cells}
use Rattle.tables.specs.Delivered.{head_cell}
use Rattle.tables.specs.Refusals.{cell_unfit, cell_refused, cells_laid, dropping, writing}
use Rattle.tables.proofs.Passing.{cell_passed, cell_taken, writing_short, writing_fine, put_fails, put_fits}

pub same_kinds : (k j : Kind) → same_kind k j ≡ true → k ≡ j
same_kinds numbers numbers e = refl
same_kinds numbers strings e = absurd (false≢true e)
same_kinds numbers records e = absurd (false≢true e)
same_kinds strings numbers e = absurd (false≢true e)
same_kinds strings strings e = refl
same_kinds strings records e = absurd (false≢true e)
same_kinds records numbers e = absurd (false≢true e)
same_kinds records strings e = absurd (false≢true e)
same_kinds records records e = refl

-- a column of the kind that is read shows its cells as that kind
pub kind_shown : (k : Kind) (c : Column) (r : ℕ) → c.kind ≡ k → cell_at c r ≡ shown k c r
unfolding cell_at
kind_shown k c r e = ap (λ j. shown j c r) e

pub cell_shown : (k : Kind) (out : Bool) (c : Column) (r : ℕ) → cell_unfit k out c r ≡ None → cell_at c r ≡ shown k c r
cell_shown k out c r e = kind_shown k c r (same_kinds c.kind k (cell_passed k out c r e).kind)

-- one of the held groups, by how many the code counts
pub held_counted : {X : Type 0} (s : Settings) (f : X → List Cell) (xs : List X) (held g : ℕ) (c : Column) (r : ℕ) → held ≡ length xs → cell_refused s (leb (length (map f xs)) g) c r ≡ cell_refused s (leb held g) c r
held_counted s f xs held g c r h = ap (λ k. cell_refused s (leb k g) c r) (length-map xs f ∙ sym h)

-- What the checks of a cell come to, one after another

pub cell_declined : (s : Settings) (out : Bool) (c : Column) (r : ℕ) → {f : StateFault} → cell_unfit (state_of s).kind out c r ≡ Some f → cell_refused s out c r ≡ Some f
unfolding cell_refused
cell_declined s out c r e = rw e

pub cell_long : (s : Settings) (out : Bool) (c : Column) (r : ℕ) → cell_unfit (state_of s).kind out c r ≡ None → s.takes 0 (cell_at c r) ≡ false → cell_refused s out c r ≡ Some state.Long
unfolding cell_refused
cell_long s out c r e t = rw (e, t)

pub cell_fine : (s : Settings) (out : Bool) (c : Column) (r : ℕ) → cell_unfit (state_of s).kind out c r ≡ None → s.takes 0 (cell_at c r) ≡ true → cell_refused s out c r ≡ None
unfolding cell_refused
cell_fine s out c r e t = rw (e, t)

-- A state that takes every cell of its kind never declines one as LONG

module _ (s : Settings) (taken : (c : Column) (r : ℕ) → c.kind ≡ (state_of s).kind → s.takes 0 (cell_at c r) ≡ true) where
  pub cell_any : (out : Bool) (c : Column) (r : ℕ) → cell_refused s out c r ≡ cell_unfit (state_of s).kind out c r
  cell_any out c r = cell_taken s out c r (λ e. taken c r (same_kinds c.kind (state_of s).kind (cell_passed (state_of s).kind out c r e).kind))

  pub held_any : {X : Type 0} (f : X → List Cell) (xs : List X) (held g : ℕ) (c : Column) (r : ℕ) → held ≡ length xs → cell_refused s (leb (length (map f xs)) g) c r ≡ cell_unfit (state_of s).kind (leb held g) c r
  held_any f xs held g c r h = held_counted s f xs held g c r h ∙ cell_any (leb held g) c r

-- Whether two cells that are held are the same, by the cells alone

module _ {X : Type 0} (cell : X → Cell) where
  pub cell_first : (xs : List X) → first_cells (map (λ x. cell x ∷ []) xs) ≡ map cell xs
  cell_first [] = refl
  cell_first (x ∷ xs) = ap (λ l. cell x ∷ l) (cell_first xs)

  cell_alone : (xs : List X) (i : ℕ) → slice_get (map (λ x. cell x ∷ []) xs) i ≡ option_map (λ c. c ∷ []) (slice_get (map cell xs) i)
  cell_alone [] i = refl
  cell_alone (x ∷ xs) zero = refl
  cell_alone (x ∷ xs) (suc i) = cell_alone xs i

  cell_of : (xs : List X) (i : ℕ) → slice_get (map cell xs) i ≡ option_map head_cell (slice_get (map (λ x. cell x ∷ []) xs) i)
  cell_of [] i = refl
  cell_of (x ∷ xs) zero = refl
  cell_of (x ∷ xs) (suc i) = cell_of xs i

  pub cells_told : (xs ys : List X) (i j : ℕ) (r : Bool) → Decides r (slice_get (map cell xs) i ≡ slice_get (map cell ys) j)
      → Decides r (slice_get (first_cells (map (λ x. cell x ∷ []) xs)) i ≡ slice_get (first_cells (map (λ x. cell x ∷ []) ys)) j)
  cells_told xs ys i j r d = rw (cell_first xs, cell_first ys) d

  pub keys_told : (xs ys : List X) (i j : ℕ) (r : Bool) → Decides r (slice_get (map cell xs) i ≡ slice_get (map cell ys) j)
      → Decides r (slice_get (map (λ x. cell x ∷ []) xs) i ≡ slice_get (map (λ x. cell x ∷ []) ys) j)
  keys_told xs ys i j r d = (λ e. cell_alone xs i ∙ ap (option_map (λ c. c ∷ [])) (d.0 e) ∙ sym (cell_alone ys j), λ e. d.1 (cell_of xs i ∙ ap (option_map head_cell) e ∙ sym (cell_of ys j)))

-- What is held, as it is laid out

module _ {X : Type 0} (cell : X → Cell) (s : Settings) where
  pub held_laid : (xs : List X) (n : ℕ) → cells_laid s (map (λ x. cell x ∷ []) xs) n ≡ laid_out (state_of s).kind (map cell (take n xs))
  held_laid xs n = ap (λ cs. laid_out (state_of s).kind (take n cs)) (cell_first cell xs) ∙ ap (laid_out (state_of s).kind) (take-map cell n xs)

  -- What the output's own answer says of the call that writes the first n cells out

  pub write_fails : (xs ys : List X) (n held : ℕ) (before : Parts) (f : OutputFault) → held ≡ length xs → ys ≡ xs → dropping held n ≡ None
      → Err f ≡ outcome (refuse (not (fits (laid_out (state_of s).kind (map cell (take n ys))) before)) output.Space) (tt {0}) → writing s (map (λ x. cell x ∷ []) xs) n before ≡ Some state.Space
  write_fails xs ys n held before f h e d r =
      writing_short s (map (λ x. cell x ∷ []) xs) n before
      (ap (λ k. dropping k n) (length-map xs (λ x. cell x ∷ []) ∙ sym h) ∙ d)
      (ap (λ l. fits l before) (held_laid xs n ∙ ap (λ zs. laid_out (state_of s).kind (map cell (take n zs))) (sym e)) ∙ put_fails (fits (laid_out (state_of s).kind (map cell (take n ys))) before) f r)

  pub write_fits : (xs ys : List X) (n held : ℕ) (before : Parts) → held ≡ length xs → ys ≡ xs → dropping held n ≡ None
      → Ok (tt {0}) ≡ outcome (refuse (not (fits (laid_out (state_of s).kind (map cell (take n ys))) before)) output.Space) (tt {0}) → writing s (map (λ x. cell x ∷ []) xs) n before ≡ None
  write_fits xs ys n held before h e d r =
      writing_fine s (map (λ x. cell x ∷ []) xs) n before
      (ap (λ k. dropping k n) (length-map xs (λ x. cell x ∷ []) ∙ sym h) ∙ d)
      (ap (λ l. fits l before) (held_laid xs n ∙ ap (λ zs. laid_out (state_of s).kind (map cell (take n zs))) (sym e)) ∙ put_fits (fits (laid_out (state_of s).kind (map cell (take n ys))) before) r)
