-- Found: the row that is found in a batch, and the tests that say which rows count.
--   TestsBy      what a test of a row's number may answer is what a predicate says
--   RanksBy      what a comparison of two of the first n rows may answer says how they rank
--   rows_to      the rows with a property among the first n rows of a batch
--   outermost_top   the outermost of the top rows
--   Found        what is found is the number of the row that a choice picks from these rows
use Rattle.std.specs.Prelude.{◌≡◌, ℕ, ◌<◌, Bool, List, map, Some, filter, Option}
use Rattle.std.specs.Option.{option_map}
use Rattle.std.specs.declared.cmp.Ordering.{Ordering}
use Rattle.column.specs.Columns.{count_up}
use Rattle.book.specs.Winners.{Row, Making, top_rows}
use Rattle.book.specs.Batches.{Given, row_at}
use Rattle.keeping.specs.Keepers.{Ranks}
use Rattle.ungrouped.specs.Rows.{outermost}

abbrev pub TestsBy : (ℕ → Bool → Type 0) → (ℕ → Bool) → Type 0
TestsBy answers p = (r : ℕ) (b : Bool) → answers r b → b ≡ p r

abbrev pub RanksBy : (ℕ → ℕ → Ordering → Type 0) → Making → Given → ℕ → Type 0
RanksBy answers m g n = (a b : ℕ) (o : Ordering) → a < n → b < n → answers a b o → Ranks m (row_at g a) (row_at g b) o

abbrev pub rows_to : (ℕ → Bool) → Given → ℕ → List Row
rows_to p g n = map (row_at g) (filter p (count_up 0 n))

abbrev pub outermost_top : Making → List Row → Option Row
outermost_top m rs = outermost m (top_rows m rs)

pub record Found (choice : List Row → Option Row) (p : ℕ → Bool) (g : Given) (n : ℕ) (o : Option ℕ) : Type 0 where
  pub puts_up : option_map (row_at g) o ≡ choice (rows_to p g n)
  pub among : (r : ℕ) → o ≡ Some r → r < n
