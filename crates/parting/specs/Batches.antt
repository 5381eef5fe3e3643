-- Batches: the same batches given to a grouped LAST, for its group 0, and to an ungrouped one whose input is not said to arrive in order.
--   as_batch       a batch for group 0: no filter, each row's index 0, and a total of 1
--   grouped_calls, alone_calls   the batches as calls of both, none of which writes anything
--   alone_of       an ungrouped accumulator made like a grouped one
--   group          the rows of group 0 of a book; none where it is not held yet
--   fed, fed_all   the book after a batch, and after some
--   brought        the rows that each batch brought to group 0
--   or_else        these rows, or the others where there are none
--   of_the_first   of the rows with a property, those that the first batch brought which brought any
--   deciding_tops  the top rows of group 0 that the deciding batch brought, the first that brought a top row
--   TiesDecide     the winner of group 0 is what the ungrouped one holds exactly when no row was admitted, or the first and the last top row of the deciding batch agree
use Rattle.std.specs.Prelude.{◌≡◌, ◌↔◌, ◌⊎◌, Bool, false, List, [], ◌∷◌, map, length, drop, replicate, None, filter, slice_index_or}
use Rattle.book.specs.Winners.{Row, Making, Lawful, unbeaten, earliest, winner}
use Rattle.book.specs.Batches.{Book, Given, Batch}
use Rattle.book.specs.Emission.{Outputs}
use Rattle.book.specs.Calls as Grouped
use Rattle.keeping.specs.Replies.{no_outputs}
use Rattle.agreement.specs.Deciding.{WinnersAgree}
use Rattle.ungrouped.specs.Rows.{Alone, latest}
use Rattle.ungrouped.specs.Held.{shown_row}
use Rattle.ungrouped.specs.Calls as Ungrouped

abbrev pub as_batch : Given → Batch
as_batch g = record { columns = g; indices = replicate g.value.rows 0; total = 1 }

abbrev pub grouped_calls : List Given → List (Grouped.Call × Outputs)
grouped_calls gs = map (λ g. (Grouped.update (as_batch g) None, no_outputs)) gs

abbrev pub alone_calls : List Given → List (Ungrouped.Call × Outputs)
alone_calls gs = map (λ g. (Ungrouped.update g, no_outputs)) gs

abbrev pub alone_of : Making → Alone
alone_of m = record { making = m; in_order = false }

abbrev pub group : Book → List Row
group b = slice_index_or b 0 []

abbrev pub fed : Making → Book → Given → Book
fed m b g = Grouped.after m b (Grouped.update (as_batch g) None) no_outputs

abbrev pub fed_all : Making → Book → List Given → Book
fed_all m b gs = Grouped.book_after m b (grouped_calls gs)

abbrev pub brought : Making → Book → List Given → List (List Row)
brought m b [] = []
brought m b (g ∷ gs) = drop (length (group b)) (group (fed m b g)) ∷ brought m (fed m b g) gs

abbrev pub or_else : List Row → List Row → List Row
or_else [] rs = rs
or_else (q ∷ qs) rs = q ∷ qs

abbrev pub of_the_first : (Row → Bool) → List (List Row) → List Row
of_the_first p [] = []
of_the_first p (b ∷ bs) = or_else (filter p b) (of_the_first p bs)

abbrev pub deciding_tops : Making → List Given → List Row
deciding_tops m gs = of_the_first (unbeaten m (group (fed_all m [] gs))) (brought m [] gs)

abbrev pub TiesDecide : Type 0
TiesDecide =
    (m : Making) → Lawful m → m.first ≡ false → (gs : List Given)
    → WinnersAgree (winner m (group (fed_all m [] gs))) (shown_row (Ungrouped.held_after (alone_of m) (alone_calls gs)))
    ↔ ((group (fed_all m [] gs) ≡ []) ⊎ WinnersAgree (earliest (deciding_tops m gs)) (latest (deciding_tops m gs)))
