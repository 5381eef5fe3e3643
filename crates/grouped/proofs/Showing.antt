-- What a table shows, after it grew, and after a group took a row or kept what it had.
use Rattle.std.proofs.Common.{◌≡◌, ℕ, ◌-◌, ◌<◌, Bool, true, false, cond, List, [], ◌∷◌, ◌++◌, map, length, get_or, set, replicate, Some, None, Option, sym, refl, ap, ap₂, ◌∙◌, subst, arith}
use lib.ListN.{length-map, get_or-map}
use Rattle.std.proofs.lemmas.List.{map-append, map-set, set-get_or, get_or_default}
use Rattle.column.specs.Cells.{Kind, numbers, Cell, null}
use Rattle.tables.specs.Meaning.{first_cells}
use Rattle.tables.specs.Refusals.{grown_entries}
use Rattle.book.specs.Winners.{Row, Making, Lawful, winner, winners, top_rows}
use Rattle.book.specs.Batches.{Book, grown}
use Rattle.book.specs.Emission.{value_shown}
use Rattle.book.proofs.Following.{map_replicate}
use Rattle.book.proofs.ByGroup.{stored}
use Rattle.keeping.specs.Replies.{is_set, key_cells}
use Rattle.grouped.specs.Accumulators.{Table, Shows, winner_held}
use Rattle.grouped.specs.Walk.{outranks, gained}
use Rattle.grouped.proofs.Entering.{gained_winners}

abbrev Held : Type 0
Held = List (Option Row)

module _ (ks : List Kind) (t : Table) (ws : Held) (h : Shows ks t ws) where
  pub flags_many : length t.flags ≡ length ws
  flags_many = ap length h.flags ∙ length-map ws is_set

  pub cells_many : length t.cells ≡ length ws
  cells_many = sym (length-map t.cells (λ e. get_or e 0 null)) ∙ ap length h.values ∙ length-map ws value_shown

  pub keys_many : length t.keys ≡ length ws
  keys_many = ap length h.keys ∙ length-map ws (key_cells ks)

  -- Growing

  pub grown_shows : (sk : List Kind) (total : ℕ)
      → Shows ks (record { flags = t.flags ++ replicate (total - length t.flags) false; cells = grown_entries sk t.cells total; keys = grown_entries ks t.keys total }) (ws ++ replicate (total - length ws) None)
  grown_shows sk total = record {
    flags = ap₂ (λ l n. l ++ replicate (total - n) false) h.flags flags_many
        ∙ ap (λ l. map is_set ws ++ l) (sym (map_replicate is_set (total - length ws) None)) ∙ sym (map-append is_set ws (replicate (total - length ws) None));
    values = map-append (λ e. get_or e 0 null) t.cells _
        ∙ ap₂ (λ l n. l ++ first_cells (replicate (total - n) (map (λ k. null) sk))) h.values cells_many
        ∙ ap (λ l. map value_shown ws ++ l) (map_replicate (λ e. get_or e 0 null) (total - length ws) (map (λ k. null) sk) ∙ ap (replicate (total - length ws)) (get_or-map (λ k. null) sk 0 numbers) ∙ sym (map_replicate value_shown (total - length ws) None))
        ∙ sym (map-append value_shown ws (replicate (total - length ws) None));
    keys = ap₂ (λ l n. l ++ replicate (total - n) (map (λ k. null) ks)) h.keys keys_many
        ∙ ap (λ l. map (key_cells ks) ws ++ l) (sym (map_replicate (key_cells ks) (total - length ws) None)) ∙ sym (map-append (key_cells ks) ws (replicate (total - length ws) None));
  }

  -- Groups

  row_held : (o : Option Row) (f : Bool) (c : Cell) (k : List Cell) → f ≡ is_set o → c ≡ value_shown o → k ≡ key_cells ks o → cond f (Some (record { value = c; key = k })) None ≡ o
  row_held None f c k p q r = rw p
  row_held (Some y) f c k p q r = rw (p, q, r)

  -- what a table that shows these winners holds for a group
  pub held_is : (i : ℕ) → i < length ws → winner_held t i ≡ get_or ws i None
  held_is i l =
      let f : get_or t.flags i false ≡ is_set (get_or ws i None) = ap (λ bs. get_or bs i false) h.flags ∙ get_or-map is_set ws i None in
      let v : get_or (first_cells t.cells) i null ≡ value_shown (get_or ws i None) = ap (λ cs. get_or cs i null) h.values ∙ get_or-map value_shown ws i None in
      let k : get_or t.keys i [] ≡ key_cells ks (get_or ws i None) = ap (λ es. get_or es i []) h.keys ∙ get_or_default (map (key_cells ks) ws) i [] (key_cells ks None) (let n = length-map ws (key_cells ks) in omega arith) ∙ get_or-map (key_cells ks) ws i None in
      row_held (get_or ws i None) _ _ _ f v k

  -- a group takes a row
  pub put_shows : (i : ℕ) (y : Row) → Shows ks (record { flags = set t.flags i true; cells = set t.cells i (y.value ∷ []); keys = set t.keys i y.key }) (set ws i (Some y))
  put_shows i y = record {
    flags = ap (λ l. set l i true) h.flags ∙ sym (map-set is_set ws i (Some y));
    values = map-set (λ e. get_or e 0 null) t.cells i (y.value ∷ []) ∙ ap (λ l. set l i y.value) h.values ∙ sym (map-set value_shown ws i (Some y));
    keys = ap (λ l. set l i y.key) h.keys ∙ sym (map-set (key_cells ks) ws i (Some y));
  }

-- Books

stored_outranks : (m : Making) (o : Option Row) (y : Row) → stored m o (Some y) ≡ cond (outranks m y o) (Some y) o
stored_outranks m None y = refl
stored_outranks m (Some w) y = refl

module _ (m : Making) (laws : Lawful m) (t : Table) (b : Book) (h : Shows m.order.kinds t (winners m b)) (i : ℕ) (rows : List Row) where
  -- the winner of its new rows replaces what a group holds
  pub taken_shows : (y : Row) → winner m rows ≡ Some y → i < length (winners m b) → outranks m y (winner_held t i) ≡ true
      → Shows m.order.kinds (record { flags = set t.flags i true; cells = set t.cells i (y.value ∷ []); keys = set t.keys i y.key }) (winners m (gained b i rows))
  taken_shows y w l e =
      let ws = winners m b in
      let o : outranks m y (get_or ws i None) ≡ true = ap (outranks m y) (sym (held_is m.order.kinds t ws h i l)) ∙ e in
      let is : winners m (gained b i rows) ≡ set ws i (Some y) =
      gained_winners m laws b i rows ∙ ap (set ws i) (ap (stored m (get_or ws i None)) w ∙ stored_outranks m (get_or ws i None) y ∙ ap (λ c. cond c (Some y) (get_or ws i None)) o) in
      subst (Shows m.order.kinds _) (sym is) (put_shows m.order.kinds t ws h i y)

  -- it does not
  pub left_shows : (y : Row) → winner m rows ≡ Some y → i < length (winners m b) → outranks m y (winner_held t i) ≡ false → Shows m.order.kinds t (winners m (gained b i rows))
  left_shows y w l e =
      let ws = winners m b in
      let o : outranks m y (get_or ws i None) ≡ false = ap (outranks m y) (sym (held_is m.order.kinds t ws h i l)) ∙ e in
      let is : winners m (gained b i rows) ≡ ws =
      gained_winners m laws b i rows ∙ ap (set ws i) (ap (stored m (get_or ws i None)) w ∙ stored_outranks m (get_or ws i None) y ∙ ap (λ c. cond c (Some y) (get_or ws i None)) o) ∙ set-get_or ws i None in
      subst (Shows m.order.kinds t) (sym is) h

  -- there is none
  pub same_shows : winner m rows ≡ None → Shows m.order.kinds t (winners m (gained b i rows))
  same_shows w =
      let ws = winners m b in
      subst (Shows m.order.kinds t) (sym (gained_winners m laws b i rows ∙ ap (set ws i) (ap (stored m (get_or ws i None)) w) ∙ set-get_or ws i None)) h

pub winners_grown : (m : Making) (b : Book) (total : ℕ) → winners m (grown b total) ≡ winners m b ++ replicate (total - length (winners m b)) None
unfolding winners winner top_rows
winners_grown m b total =
    map-append (winner m) b (replicate (total - length b) []) ∙ ap (λ l. map (winner m) b ++ l) (map_replicate (winner m) (total - length b) [])
    ∙ ap (λ n. map (winner m) b ++ replicate (total - n) None) (sym (length-map b (winner m)))

pub winners_long : (m : Making) (b : Book) → length (winners m b) ≡ length b
unfolding winners
winners_long m b = length-map b (winner m)
