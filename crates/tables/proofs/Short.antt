-- Cells that a table holds: the space that they need is never more than a usize says, and 32-bit offsets reach the end of their strings.
use Rattle.std.proofs.Common.{◌≡◌, ℕ, ◌*◌, ◌^◌, ◌≤◌, true, not, List, [], ◌∷◌, map, length, get_or, take, Some, Option, Result, refl, ap, ap₂, ◌∙◌, arith, length-append}
use Rattle.std.specs.List.{flat_map}
use Rattle.std.proofs.lemmas.List.{length-map, length-take-le, take-map}
use Rattle.std.proofs.lemmas.Bool.{lt-ltb}
use Rattle.column.specs.Cells.{Kind, numbers, strings, records, Cell, null}
use Rattle.column.specs.Checks.{outcome, unless_refused, refuse, Settles}
use Rattle.layout.specs.declared.OutputFault.{OutputFault}
use Rattle.layout.specs.declared.OutputFault.TheVariants as output
use Rattle.layout.specs.declared.Space.{Space}
use Rattle.layout.specs.Layout.{Parts, laid_out, string_content, number_content, record_content, fits, written}
use Rattle.layout.specs.Written.{space_of, rows_laid, measured, reached, has_place}
use Rattle.layout.proofs.Contents.{content_length, record_length}
use Rattle.layout.proofs.Offsets.{offsets_length}
use Rattle.layout.proofs.Overs.{joined_length}
use Rattle.layout.proofs.Sources.{rows_of, rows_length, rows_front}

-- so few rows as a table has, of numbers, whatever else is held beside them
pub numbers_measured : (shows : ℕ → Cell) (n : ℕ) → n ≤ 256 → measured (rows_laid numbers shows n) ≡ Some (space_of (rows_laid numbers shows n))
numbers_measured shows n h =
    let r = rows_length shows n in
    let j = joined_length number_content 8 content_length (rows_of shows n) in
    rw (lt-ltb (length (flat_map number_content (rows_of shows n))) (2 ^ 64) (omega arith))

-- The parts of a table of which each cell is short

module _ {X : Type 0} (cell : X → Cell) (short : (x : X) → length (string_content (cell x)) ≤ 32) where
  all_short : (xs : List X) → length (flat_map string_content (map cell xs)) ≤ 32 * length xs
  all_short [] = omega arith
  all_short (x ∷ xs) = let ih = all_short xs in let h = short x in simp length-append (omega arith)

  pub cells_reached : (k : Kind) (xs : List X) → length xs ≤ 256 → reached k (laid_out k (map cell xs)) ≡ true
  cells_reached numbers xs h = refl
  cells_reached strings xs h = let f = all_short xs in lt-ltb (length (flat_map string_content (map cell xs))) (2 ^ 32) (omega arith)
  cells_reached records xs h = refl

  pub cells_measured : (k : Kind) (xs : List X) → length xs ≤ 256 → measured (laid_out k (map cell xs)) ≡ Some (space_of (laid_out k (map cell xs)))
  cells_measured numbers xs h =
      let l = length-map xs cell in
      let j = joined_length number_content 8 content_length (map cell xs) in
      rw (lt-ltb (length (flat_map number_content (map cell xs))) (2 ^ 64) (omega arith))
  cells_measured strings xs h =
      let l = length-map xs cell in
      let f = all_short xs in
      let o = offsets_length 0 (map cell xs) in
      rw (lt-ltb (length (laid_out strings (map cell xs)).offsets) (2 ^ 64) (omega arith), lt-ltb (length (flat_map string_content (map cell xs))) (2 ^ 64) (omega arith))
  cells_measured records xs h =
      let l = length-map xs cell in
      let j = joined_length record_content 25 record_length (map cell xs) in
      rw (lt-ltb (length (flat_map record_content (map cell xs))) (2 ^ 64) (omega arith))

  -- the first n, read by row
  pub front_laid : (k : Kind) (xs : List X) (n : ℕ) → n ≤ length xs → rows_laid k (λ r. get_or (map cell xs) r null) n ≡ laid_out k (map cell (take n xs))
  front_laid k xs n h =
      let l = length-map xs cell in
      ap (laid_out k) (rows_front (map cell xs) null n (omega arith) ∙ take-map cell n xs)

  pub front_measured : (k : Kind) (xs : List X) (n : ℕ) → n ≤ length xs → length xs ≤ 256 → measured (rows_laid k (λ r. get_or (map cell xs) r null) n) ≡ Some (space_of (laid_out k (map cell (take n xs))))
  front_measured k xs n h l = let t = length-take-le n xs h in ap measured (front_laid k xs n h) ∙ cells_measured k (take n xs) (omega arith)

  pub front_place : (k : Kind) (xs : List X) (n : ℕ) (before : Parts) → n ≤ length xs → length xs ≤ 256 → has_place k (rows_laid k (λ r. get_or (map cell xs) r null) n) before ≡ fits (laid_out k (map cell (take n xs))) before
  front_place k xs n before h l = let t = length-take-le n xs h in rw (front_laid k xs n h, cells_reached k (take n xs) (omega arith))

  -- what an output says of them, which the code reads through another list that is the same
  pub put_answer : (k : Kind) (xs ys : List X) (n : ℕ) (before after : Parts) (r : Result (Unit {0}) OutputFault) → ys ≡ xs → n ≤ length xs → length xs ≤ 256
      → Settles (refuse (not (has_place k (rows_laid k (λ r. get_or (map cell ys) r null) n) before)) output.Space) (tt {0}) (written (rows_laid k (λ r. get_or (map cell ys) r null) n) before) before r after
      → Settles (refuse (not (fits (laid_out k (map cell (take n xs))) before)) output.Space) (tt {0}) (written (laid_out k (map cell (take n xs))) before) before r after
  put_answer k xs ys n before after r e h l s =
      let p = front_place k xs n before h l in
      record {
        answered = s.answered ∙ ap (λ zs. outcome (refuse (not (has_place k (rows_laid k (λ r. get_or (map cell zs) r null) n) before)) output.Space) (tt {0})) e ∙ ap (λ b. outcome (refuse (not b) output.Space) (tt {0})) p;
        left = s.left
            ∙ ap (λ zs. unless_refused (refuse (not (has_place k (rows_laid k (λ r. get_or (map cell zs) r null) n) before)) output.Space) (written (rows_laid k (λ r. get_or (map cell zs) r null) n) before) before) e
            ∙ ap₂ (λ b z. unless_refused (refuse (not b) output.Space) (written z before) before) p (front_laid k xs n h);
      }

  pub space_answer : (k : Kind) (xs ys : List X) (n : ℕ) (o : Option Space) → ys ≡ xs → n ≤ length xs → length xs ≤ 256 → o ≡ measured (rows_laid k (λ r. get_or (map cell ys) r null) n) → o ≡ Some (space_of (laid_out k (map cell (take n xs))))
  space_answer k xs ys n o e h l m = m ∙ ap (λ zs. measured (rows_laid k (λ r. get_or (map cell zs) r null) n)) e ∙ front_measured k xs n h l
