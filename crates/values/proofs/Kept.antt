-- A table with one cell for each group: the cell of a group, and what measuring and writing its first cells come to.
use Rattle.std.proofs.Common.{◌≡◌, ℕ, zero, suc, ◌≤◌, Bool, false, not, leb, List, [], ◌∷◌, map, length, get_or, take, find, Some, None, Ok, Err, IsErrAnd, Result, sym, refl, ap, ◌∙◌, arith}
use Rattle.std.specs.List.{slice_get}
use Rattle.std.specs.Option.{option_map}
use Rattle.std.proofs.lemmas.Bool.{le-leb, lt-leb}
use Rattle.std.proofs.lemmas.List.{get_or-map, length-map}
use Rattle.std.proofs.lemmas.Option.{get_or_from_slice_get, slice_get_within}
use Rattle.column.specs.Cells.{Kind, Cell, null}
use Rattle.column.specs.Checks.{outcome, refuse, unless_refused, Settles}
use Rattle.layout.specs.declared.OutputFault.{OutputFault}
use Rattle.layout.specs.declared.OutputFault.TheVariants as output
use Rattle.layout.specs.declared.Space.{Space}
use Rattle.layout.specs.Layout.{Parts, laid_out, fits, written}
use Rattle.layout.specs.Written.{space_of}
use Rattle.tables.specs.declared.StateFault.{StateFault}
use Rattle.tables.specs.declared.StateFault.TheVariants as state
use Rattle.tables.specs.declared.TableFault.{TableFault}
use Rattle.tables.specs.Meaning.{Settings, state_of, first_cells}
use Rattle.tables.specs.Refusals.{cells_laid, dropping, writing}
use Rattle.tables.proofs.Declining.{answer_none, answer_some, declined, exits, passed, passed_new, refused_same}
use Rattle.tables.proofs.Held.{cell_first, held_laid}
use Rattle.tables.proofs.Passing.{put_fails, put_fits, writing_fewer, writing_fine, writing_short}
use Rattle.tables.proofs.Taking.{measured}
use Rattle.values.specs.Held.{one_each}

-- past the last
past : {X : Type 0} (xs : List X) (g : ℕ) → None ≡ slice_get xs g → length xs ≤ g
past [] g e = omega arith
past (x ∷ xs) zero e = cc
past (x ∷ xs) (suc g) e = let h = past xs g e in omega arith

module _ {X : Type 0} (cell : X → Cell) (xs : List X) where
  held_many : length (one_each cell xs) ≡ length xs
  held_many = length-map xs (λ x. cell x ∷ [])

  pub cell_held : (g : ℕ) (x : X) → Some x ≡ slice_get xs g → Ok (cell x) ≡ outcome (refuse (leb (length (one_each cell xs)) g) state.Group) (get_or (first_cells (one_each cell xs)) g null)
  cell_held g x e =
      let h = slice_get_within xs g x (sym e) in
      rw (cell_first cell xs, held_many, lt-leb (length xs) g h) (ap Ok (sym (get_or-map cell xs g x null h ∙ ap cell (get_or_from_slice_get xs g x x (sym e)))))

  pub cell_unheld : (g : ℕ) → None ≡ slice_get xs g → Err state.Group ≡ outcome (refuse (leb (length (one_each cell xs)) g) state.Group) (get_or (first_cells (one_each cell xs)) g null)
  cell_unheld g e = rw (held_many, le-leb (length xs) g (past xs g e)) refl

-- The first n cells

module _ {X : Type 0} (cell : X → Cell) (s : Settings) (xs : List X) (n : ℕ) where
  counted : dropping (length (one_each cell xs)) n ≡ dropping (length xs) n
  counted = ap (λ k. dropping k n) (held_many cell xs)

  pub space_declined : (f : TableFault) (p : Space) (r : Result Space StateFault) → IsErrAnd r (λ e. e ≡ state.Table f) → Err f ≡ outcome (dropping (length xs) n) p
      → r ≡ outcome (option_map state.Table (dropping (length (one_each cell xs)) n)) (space_of (cells_laid s (one_each cell xs) n))
  space_declined f p r b e =
      let d = ap (option_map state.Table) (counted ∙ declined _ _ _ e) in
      exits _ _ _ _ _ b (answer_some _ _ p d)

  pub space_measured : (p : Space) → Ok p ≡ outcome (dropping (length xs) n) (space_of (laid_out (state_of s).kind (map cell (take n xs))))
      → Ok p ≡ outcome (option_map state.Table (dropping (length (one_each cell xs)) n)) (space_of (cells_laid s (one_each cell xs) n))
  space_measured p e = ap Ok (measured _ _ _ e ∙ ap space_of (sym (held_laid cell s xs n))) ∙ answer_none _ _ (ap (option_map state.Table) (counted ∙ passed _ _ _ e))

  module _ (held : ℕ) (h : held ≡ length xs) (before : Parts) where
    pub fewer : (f : TableFault) (r : Result (Unit {0}) StateFault) → IsErrAnd r (λ e. e ≡ state.Table f) → Err f ≡ outcome (dropping held n) (tt {0})
        → Settles (writing s (one_each cell xs) n before) (tt {0}) (written (cells_laid s (one_each cell xs) n) before) before r before
    fewer f r b e =
        let w = writing_fewer s (one_each cell xs) n before (counted ∙ ap (λ k. dropping k n) (sym h) ∙ declined _ _ _ e) in
        record { answered = exits _ _ _ _ _ b (answer_some _ _ (tt {0}) w); left = refused_same _ _ _ _ w }

    -- as a column of the kind that the state reads
    as_read : (k : Kind) → k ≡ (state_of s).kind → laid_out k (map cell (take n xs)) ≡ cells_laid s (one_each cell xs) n
    as_read k e = ap (λ j. laid_out j (map cell (take n xs))) e ∙ sym (held_laid cell s xs n)

    pub unput : (k : Kind) (e : k ≡ (state_of s).kind) (p : Ok (tt {0}) ≡ outcome (dropping held n) (tt {0})) (f : OutputFault) (r : Result (Unit {0}) StateFault) (after : Parts) → IsErrAnd r (λ e. e ≡ state.Space)
        → Settles (refuse (not (fits (laid_out k (map cell (take n xs))) before)) output.Space) (tt {0}) (written (laid_out k (map cell (take n xs))) before) before (Err f) after
        → Settles (writing s (one_each cell xs) n before) (tt {0}) (written (cells_laid s (one_each cell xs) n) before) before r after
    unput k e p f r after b v =
        let l = laid_out k (map cell (take n xs)) in
        let t = put_fails (fits l before) f v.answered in
        let d = counted ∙ ap (λ k. dropping k n) (sym h) ∙ passed _ _ _ p in
        let w = writing_short s (one_each cell xs) n before d (ap (λ x. fits x before) (sym (as_read k e)) ∙ t) in
        record {
          answered = exits _ _ _ _ _ b (answer_some _ _ (tt {0}) w);
          left = v.left ∙ ap (λ q. unless_refused (refuse (not q) output.Space) (written l before) before) t ∙ refused_same _ _ _ _ w;
        }

    pub put : (k : Kind) (e : k ≡ (state_of s).kind) (p : Ok (tt {0}) ≡ outcome (dropping held n) (tt {0})) (after : Parts)
        → Settles (refuse (not (fits (laid_out k (map cell (take n xs))) before)) output.Space) (tt {0}) (written (laid_out k (map cell (take n xs))) before) before (Ok (tt {0})) after
        → Settles (writing s (one_each cell xs) n before) (tt {0}) (written (cells_laid s (one_each cell xs) n) before) before (Ok (tt {0})) after
    put k e p after v =
        let l = laid_out k (map cell (take n xs)) in
        let t = put_fits (fits l before) v.answered in
        let d = counted ∙ ap (λ k. dropping k n) (sym h) ∙ passed _ _ _ p in
        let w = writing_fine s (one_each cell xs) n before d (ap (λ x. fits x before) (sym (as_read k e)) ∙ t) in
        record {
          answered = answer_none _ _ w;
          left = v.left ∙ ap (λ q. unless_refused (refuse (not q) output.Space) (written l before) before) t ∙ ap (λ x. written x before) (as_read k e) ∙ passed_new _ _ _ w;
        }

-- no row is found where none is looked for
pub none_found : (p : ℕ → Bool) → ((r : ℕ) → p r ≡ false) → (ks : List ℕ) → None ≡ find p ks
none_found p h [] = refl
none_found p h (k ∷ ks) = let e = h k in rw e (none_found p h ks)
