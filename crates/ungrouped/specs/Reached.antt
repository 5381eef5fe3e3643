-- Reached: ungrouped accumulators as their calls led to them.
--   Led        an accumulator was made holding nothing, and since then reached by nothing but these calls, each with its buffers; declined ones are among them
--   row_held   the row that an accumulator holds, by its entries; none where it is unset
--   row_shown  the same as it shows it: its key is one cell for each key column that is read
--   KeepsBest  whatever calls led to an accumulator, it holds a top row of all rows that they brought, where the rows of updates arrive in order if they are said to
use Rattle.std.specs.Prelude.{◌≡◌, true, List, [], ◌∷◌, ◌++◌, None, Option}
use Rattle.std.specs.Option.{option_map}
use Rattle.tables.specs.declared.table.GroupTable.{Ghosts}
use Rattle.book.specs.Winners.{Row}
use Rattle.book.specs.Emission.{Outputs}
use Rattle.book.specs.Calls.{Answer}
use Rattle.keeping.specs.Keepers.{kept_row, shown_row}
use Rattle.ungrouped.specs.declared.single.Single.{Single}
use Rattle.ungrouped.specs.Calls.{Call}
use Rattle.ungrouped.specs.Accumulators.{alone, Stands, Obeys}
use Rattle.ungrouped.specs.Runs.{given, arrived, InOrder, Best}

module _ {S O F G : Type 0} {s : Ghosts S F} {o : Ghosts O G} where
  pub data Led : Single S O F G s o → List (Call × Outputs) → Type 0 where
    made : {a : Single S O F G s o} → Stands a None → Led a []
    called : {a a' : Single S O F G s o} {past : List (Call × Outputs)} {c : Call} {before : Outputs} {r : Answer}
        → Led a past → Obeys a c before r a' → Led a' (past ++ (c, before) ∷ [])

  abbrev pub row_held : Single S O F G s o → Option Row
  row_held a = option_map (λ o. kept_row a.keeper 0) a.held

  abbrev pub row_shown : Single S O F G s o → Option Row
  row_shown a = option_map (λ o. shown_row a.keeper 0) a.held

  abbrev pub KeepsBest : Single S O F G s o → Type 0
  KeepsBest a =
      (past : List (Call × Outputs)) → Led a past → ((alone a).in_order ≡ true → InOrder (alone a).making (arrived (alone a).making past))
      → Best (alone a).making (given (alone a).making past) (row_held a)
