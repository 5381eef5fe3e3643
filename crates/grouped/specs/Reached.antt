-- Reached: accumulators as their calls led to them, and when two of them answer alike.
--   winner_shown   what an accumulator shows as the winner of a group: missing where its slot is unset; its key is one cell for each key column that is read
--   winners_shown  the same of every held group
--   Led            an accumulator was made empty, and since then reached by nothing but these calls, each with its buffers; declined ones are among them
--   Draws          further calls on an accumulator, one after another, give these answers
--   AnswersDefined whatever further calls answer is drawn by how the accumulator was made, by its list of calls, and by the further calls alone
--   WinnersDecideOf  two accumulators, made alike and each reached by its own list of calls, hold alike exactly when they answer alike
use Rattle.std.specs.Prelude.{◌≡◌, ℕ, ◌↔◌, false, List, [], ◌∷◌, ◌++◌, map, length, Some, None, Option, slice_index_or, if◌then◌else◌}
use Rattle.column.specs.Columns.{count_up}
use Rattle.tables.specs.declared.table.GroupTable.{Ghosts}
use Rattle.book.specs.Winners.{Row}
use Rattle.book.specs.Emission.{Outputs}
use Rattle.book.specs.Calls.{Call, Answer}
use Rattle.keeping.specs.Keepers.{shown_row}
use Rattle.agreement.specs.Deciding.{MadeAlike, HoldAlike, AnswerAlike, drawn}
use Rattle.grouped.specs.declared.FirstLastGroupsAccumulator.{FirstLastGroupsAccumulator}
use Rattle.grouped.specs.Accumulators.{held, making, Stands, Obeys}

module _ {S O F G : Type 0} {s : Ghosts S F} {o : Ghosts O G} where
  abbrev pub winner_shown : FirstLastGroupsAccumulator S O F G s o → ℕ → Option Row
  winner_shown a g = if slice_index_or (held a).flags g false then Some (shown_row a.kept g) else None

  abbrev pub winners_shown : FirstLastGroupsAccumulator S O F G s o → List (Option Row)
  winners_shown a = map (winner_shown a) (count_up 0 (length (held a).flags))

  pub data Led : FirstLastGroupsAccumulator S O F G s o → List (Call × Outputs) → Type 0 where
    made : {a : FirstLastGroupsAccumulator S O F G s o} → Stands a [] → Led a []
    called : {a a' : FirstLastGroupsAccumulator S O F G s o} {past : List (Call × Outputs)} {c : Call} {before : Outputs} {r : Answer}
        → Led a past → Obeys a c before r a' → Led a' (past ++ (c, before) ∷ [])

  pub data Draws : FirstLastGroupsAccumulator S O F G s o → List (Call × Outputs) → List Answer → Type 0 where
    ends : {a : FirstLastGroupsAccumulator S O F G s o} → Draws a [] []
    more : {a a' : FirstLastGroupsAccumulator S O F G s o} {c : Call} {before : Outputs} {r : Answer} {cs : List (Call × Outputs)} {rs : List Answer}
        → Obeys a c before r a' → Draws a' cs rs → Draws a ((c, before) ∷ cs) (r ∷ rs)

  abbrev pub AnswersDefined : FirstLastGroupsAccumulator S O F G s o → Type 0
  AnswersDefined a = (past further : List (Call × Outputs)) (rs : List Answer) → Led a past → Draws a further rs → rs ≡ drawn (making a) past further

  abbrev pub WinnersDecideOf : FirstLastGroupsAccumulator S O F G s o → FirstLastGroupsAccumulator S O F G s o → Type 0
  WinnersDecideOf a b =
      (past past' : List (Call × Outputs)) → Led a past → Led b past' → MadeAlike (making a) (making b)
      → HoldAlike (winners_shown a) (winners_shown b) ↔ AnswerAlike (making a) past (making b) past'
