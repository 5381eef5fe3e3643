-- The worked cases, by computation.
use Rattle.std.proofs.Common.{◌≡◌, List, [], ◌∷◌, map, get_or, drop, None, Option, refl, ap}
use Rattle.std.specs.List.{AllByRecursion}
use Rattle.std.proofs.ByRecursion.{All-weaker}
use Rattle.column.specs.Columns.{cell_at, bit_at, number_in, true_at}
use Rattle.layout.specs.Layout.{packed, number_bytes}
use Rattle.book.specs.Winners.{Row, winner, winners, top_rows, unbeaten, beats}
use Rattle.book.specs.Batches.{row_at, admitted, entries}
use Rattle.book.specs.Declines.{cols, kind, rows, long, batch_declined, null_flag, ungrouped_declined}
use Rattle.book.specs.Emission.{Outputs, evaluate_declined, state_declined}
use Rattle.ungrouped.specs.Rows.{counted, picked}
use Rattle.ungrouped.specs.Held.{shown_row, outdoes}
use Rattle.ungrouped.specs.Calls as Ungrouped
use Rattle.ungrouped.specs.Calls.{declined}
use Rattle.book.specs.Calls.{Result, Answer, answer, answers, book_after, after}
use Rattle.cases.specs.Cases.{Case, grouped, ungrouped, written, bytes_by, calls, calls_alone, cases, ComesOut}

-- what comes of a case, and what its line of the table says

abbrev found : Case → List Result × List (Option Row) × List Outputs
found (grouped m o steps ends) = (map (λ (a : Answer). a.result) (answers m [] (calls o steps)), winners m (book_after m [] (calls o steps)), [])
found (ungrouped a steps end) = (map (λ (x : Answer). x.result) (Ungrouped.answers a None (calls_alone steps)), shown_row (Ungrouped.held_after a (calls_alone steps)) ∷ [], [])
found (written b c bytes) = ([], [], bytes_by b c ∷ [])

abbrev told : Case → List Result × List (Option Row) × List Outputs
told (grouped m o steps ends) = (map (λ s. s.1) steps, ends, [])
told (ungrouped a steps end) = (map (λ s. s.1) steps, end ∷ [], [])
told (written b c bytes) = ([], [], bytes ∷ [])

comes : (c : Case) → found c ≡ told c → ComesOut c
comes (grouped m o steps ends) e = (ap (λ p. p.0) e, ap (λ p. p.1) e)
comes (ungrouped a steps end) e = (ap (λ p. p.0) e, ap (λ p. get_or p.1 0 end) e)
comes (written b c bytes) e = ap (λ p. get_or p.2 0 bytes) e

each : {X Y : Type 0} (f g : X → Y) (xs : List X) → map f xs ≡ map g xs → AllByRecursion (λ x. f x ≡ g x) xs
each f g [] e = tt
each f g (x ∷ xs) e = (ap (λ l. get_or l 0 (f x)) e, each f g xs (ap (drop 1) e))

pub worked : AllByRecursion ComesOut cases
unfolding cell_at bit_at number_in true_at packed number_bytes winner winners top_rows unbeaten beats row_at admitted entries cols kind rows long batch_declined evaluate_declined state_declined answer after Ungrouped.answer Ungrouped.after declined ungrouped_declined null_flag counted picked outdoes
worked = All-weaker (λ c. found c ≡ told c) ComesOut comes cases (each found told cases refl)
