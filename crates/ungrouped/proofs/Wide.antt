-- A held row has a cell for each key column that is read, so what is shown of it is the row.
use Rattle.std.proofs.Common.{◌≡◌, ℕ, zero, suc, Bool, true, false, cond, List, [], ◌∷◌, map, length, get_or, Some, None, filter, Option, sym, refl, ap, ap₂, ◌∙◌, subst}
use Rattle.std.specs.Option.{option_map}
use Rattle.std.proofs.lemmas.List.{length-map}
use Rattle.std.specs.List.{AllByRecursion}
use Rattle.column.specs.Cells.{Cell, Kind, null}
use Rattle.column.specs.Checks.{unless_refused}
use Rattle.column.specs.Columns.{Flags, count_up}
use Rattle.column.specs.Faults.{Fault}
use Rattle.tables.specs.Meaning.{column_cells}
use Rattle.tables.specs.declared.table.GroupTable.{Ghosts}
use Rattle.book.specs.Winners.{Row, Making, top_rows, unbeaten, earliest}
use Rattle.book.specs.Batches.{Given, order_columns, every_row, row_at}
use Rattle.book.specs.Declines.{ungrouped_checks, ungrouped_declined}
use Rattle.book.specs.Emission.{Outputs}
use Rattle.keeping.specs.Keepers.{shown_row}
use Rattle.keeping.proofs.Checking.{cols_read, none_hold}
use Rattle.ungrouped.specs.declared.single.Single.{Single}
use Rattle.ungrouped.specs.Rows.{Alone, arrives, counts, counted, latest, picked}
use Rattle.ungrouped.specs.Held.{Kept, origin_of, gives_way, stored, taken}
use Rattle.ungrouped.specs.Held as Held
use Rattle.ungrouped.specs.Calls.{Call, update, merge, evaluate, state, after, declined, held_on, held_after}
use Rattle.ungrouped.specs.Accumulators.{alone, order_settings, Stands}
use Rattle.ungrouped.specs.Reached.{Led, row_shown}
use Rattle.ungrouped.proofs.Leading.{emission_keeps}
use Rattle.ungrouped.proofs.Reached.{led_stands}

-- the key of a row is as long as these kinds
abbrev Wide : List Kind → Row → Type 0
Wide ks r = length r.key ≡ length ks

abbrev WideIf : List Kind → Option Row → Type 0
WideIf ks None = Unit {0}
WideIf ks (Some r) = Wide ks r

abbrev WideHeld : List Kind → Option Kept → Type 0
WideHeld ks None = Unit {0}
WideHeld ks (Some k) = Wide ks k.row

-- A row that is picked of wide ones is wide

kept_wide : (ks : List Kind) (p : Row → Bool) (rs : List Row) → AllByRecursion (Wide ks) rs → AllByRecursion (Wide ks) (filter p rs)
kept_wide ks p [] h = tt
kept_wide ks p (r ∷ rs) h = go (p r) (kept_wide ks p rs h.1)
  where
    go : (b : Bool) → AllByRecursion (Wide ks) (filter p rs) → AllByRecursion (Wide ks) (cond b (r ∷ filter p rs) (filter p rs))
    go true e = (h.0, e)
    go false e = e

earliest_wide : (ks : List Kind) (rs : List Row) → AllByRecursion (Wide ks) rs → WideIf ks (earliest rs)
earliest_wide ks [] h = tt
earliest_wide ks (r ∷ rs) h = h.0

latest_wide : (ks : List Kind) (rs : List Row) → AllByRecursion (Wide ks) rs → WideIf ks (latest rs)
latest_wide ks [] h = tt
latest_wide ks (r ∷ []) h = h.0
latest_wide ks (r ∷ q ∷ rs) h = latest_wide ks (q ∷ rs) h.1

picked_wide : (ks : List Kind) (a : Alone) (marks : Option Flags) (rs : List Row) → AllByRecursion (Wide ks) rs → WideIf ks (picked a marks rs)
unfolding picked top_rows
picked_wide ks a marks rs h = outer a.making.first _ (inner (arrives a marks))
  where
    inner : (b : Bool) → AllByRecursion (Wide ks) (cond b rs (filter (unbeaten a.making rs) rs))
    inner true = h
    inner false = kept_wide ks (unbeaten a.making rs) rs h

    outer : (f : Bool) (xs : List Row) → AllByRecursion (Wide ks) xs → WideIf ks (cond f (earliest xs) (latest xs))
    outer true xs w = earliest_wide ks xs w
    outer false xs w = latest_wide ks xs w

-- The rows of a batch that is not declined are wide

rows_wide : (ks : List Kind) (g : Given) (rs : List ℕ) → length (order_columns g) ≡ length ks → AllByRecursion (Wide ks) (map (row_at g) rs)
unfolding row_at
rows_wide ks g [] e = tt
rows_wide ks g (r ∷ rs) e = (length-map (order_columns g) _ ∙ e, rows_wide ks g rs e)

counted_wide : (m : Making) (g : Given) (marks : Option Flags) → ungrouped_declined m g marks ≡ None → AllByRecursion (Wide m.order.kinds) (counted m g marks)
unfolding counted ungrouped_declined
counted_wide m g marks e = rows_wide m.order.kinds g (filter (counts m g marks) (every_row g)) (cols_read m g (none_hold (ungrouped_checks m g marks) e).0)

-- What is held stays wide

stored_wide : (ks : List Kind) (a : Alone) (marks : Option Flags) (held : Option Kept) (o : Option Row) → WideHeld ks held → WideIf ks o → WideHeld ks (stored a marks held o)
stored_wide ks a marks held None h w = h
stored_wide ks a marks held (Some r) h w = go (gives_way a marks r held)
  where
    go : (b : Bool) → WideHeld ks (cond b (Some (record { row = r; came_by = origin_of marks })) held)
    go true = w
    go false = h

batch_wide : (a : Alone) (held : Option Kept) (g : Given) (marks : Option Flags) → WideHeld a.making.order.kinds held
    → WideHeld a.making.order.kinds (unless_refused (ungrouped_declined a.making g marks) (taken a marks held g) held)
batch_wide a held g marks h = go (ungrouped_declined a.making g marks) refl
  where
    go : (d : Option Fault) → ungrouped_declined a.making g marks ≡ d → WideHeld a.making.order.kinds (unless_refused d (taken a marks held g) held)
    go None e = stored_wide a.making.order.kinds a marks held (picked a marks (counted a.making g marks)) h (picked_wide a.making.order.kinds a marks (counted a.making g marks) (counted_wide a.making g marks e))
    go (Some f) e = h

call_wide : (a : Alone) (held : Option Kept) (c : Call) (o : Outputs) → WideHeld a.making.order.kinds held → WideHeld a.making.order.kinds (after a held c o)
unfolding after declined
call_wide a held (update g) o h = batch_wide a held g None h
call_wide a held (merge g f) o h = batch_wide a held g (Some f) h
call_wide a held evaluate o h = subst (WideHeld a.making.order.kinds) (sym (emission_keeps (declined a held evaluate o) held)) h
call_wide a held state o h = subst (WideHeld a.making.order.kinds) (sym (emission_keeps (declined a held state o) held)) h

calls_wide : (a : Alone) (held : Option Kept) (cs : List (Call × Outputs)) → WideHeld a.making.order.kinds held → WideHeld a.making.order.kinds (held_on a held cs)
calls_wide a held [] h = h
calls_wide a held (c ∷ cs) h = calls_wide a (after a held c.0 c.1) cs (call_wide a held c.0 c.1 h)

-- What is shown of a wide row

later_cells : (x : Cell) (xs : List Cell) (s n : ℕ) → map (λ j. get_or (x ∷ xs) j null) (count_up (suc s) n) ≡ map (λ j. get_or xs j null) (count_up s n)
later_cells x xs s zero = refl
later_cells x xs s (suc n) = ap (λ l. get_or xs s null ∷ l) (later_cells x xs (suc s) n)

all_cells : (xs : List Cell) → map (λ j. get_or xs j null) (count_up 0 (length xs)) ≡ xs
all_cells [] = refl
all_cells (x ∷ xs) = ap (λ l. x ∷ l) (later_cells x xs 0 (length xs) ∙ all_cells xs)

module _ {S O F G : Type 0} {s : Ghosts S F} {o : Ghosts O G} where
  shows : (a : Single S O F G s o) (held : Option Kept) → Stands a held → WideHeld (order_settings a).kinds held → row_shown a ≡ Held.shown_row held
  shows a None h w = ap (option_map (λ x. shown_row a.keeper 0)) h.came_by
  shows a (Some k) h w =
      ap (option_map (λ x. shown_row a.keeper 0)) h.came_by
      ∙ ap₂ (λ (cs : List Cell) (es : List (List Cell)). Some (record { value = get_or cs 0 null; key = map (λ j. get_or (column_cells j es) 0 null) (count_up 0 (length (order_settings a).kinds)) })) h.value h.key
      ∙ ap (λ key. Some (record { value = k.row.value; key = key })) (ap (λ n. map (λ j. get_or k.row.key j null) (count_up 0 n)) (sym w) ∙ all_cells k.row.key)

  -- an accumulator shows what its calls left it
  pub led_shows : (a : Single S O F G s o) (past : List (Call × Outputs)) → Led a past → row_shown a ≡ Held.shown_row (held_after (alone a) past)
  led_shows a past l = shows a (held_after (alone a) past) (led_stands l) (calls_wide (alone a) None past tt)
