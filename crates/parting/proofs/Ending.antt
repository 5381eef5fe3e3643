-- The theorem over the book, carried to the accumulators that hold its winners.
use Rattle.std.proofs.Common.{◌≡◌, ◌↔◌, ℕ, Bool, false, cond, List, [], ◌∷◌, map, length, get_or, Some, None, Option, sym, refl, ap, ◌∙◌, subst}
use Rattle.column.specs.Columns.{count_up}
use Rattle.keeping.specs.Keepers as Keepers
use mathlib.Core.Bool.{false≢true}
use Rattle.std.specs.Option.{is_some, option_map}
use lib.ListN.{get_or-map}
use Rattle.column.specs.Cells.{Kind, null}
use Rattle.tables.specs.Meaning.{StateLaws, OrderLaws, state_of, first_cells}
use Rattle.tables.specs.declared.table.GroupTable.{Ghosts}
use Rattle.book.specs.Winners.{Row, Making, winner, winners, top_rows}
use Rattle.book.specs.Batches.{Book}
use Rattle.book.specs.Emission.{value_shown}
use Rattle.agreement.specs.Deciding.{WinnersAgree}
use Rattle.agreement.proofs.Deciding.{agree_from, agree_is, alike_is}
use Rattle.grouped.specs.declared.FirstLastGroupsAccumulator.{FirstLastGroupsAccumulator}
use Rattle.grouped.specs.Accumulators as Grouped
use Rattle.grouped.specs.Accumulators.{Shows}
use Rattle.keeping.specs.Keepers.{cells, keys}
use Rattle.keeping.specs.Replies.{is_set, key_cells}
use Rattle.grouped.specs.Reached as GroupedReached
use Rattle.grouped.proofs.Holding.{lawful}
use Rattle.grouped.proofs.Reached.{led_keeps, led_shows as winners_led}
use Rattle.ungrouped.specs.declared.single.Single.{Single}
use Rattle.ungrouped.specs.Held.{Kept, shown_row}
use Rattle.ungrouped.specs.Calls.{held_after}
use Rattle.ungrouped.specs.Accumulators as Ungrouped
use Rattle.ungrouped.specs.Reached as UngroupedReached
use Rattle.ungrouped.proofs.Reached.{led_stands}
use Rattle.ungrouped.proofs.Wide.{led_shows}
use Rattle.parting.specs.Batches.{alone_of, alone_calls, grouped_calls, group, fed_all}
use Rattle.parting.specs.Ending.{Equal, TiesDecideOf}
use Rattle.parting.proofs.Parting.{ties_decide}

-- group 0 holds the winner of the book's group 0
first_held : (m : Making) (b : Book) → get_or (winners m b) 0 None ≡ winner m (group b)
unfolding winners winner top_rows
first_held m [] = refl
first_held m (g ∷ b) = refl

-- flag, value and key tell the row
row_told : (ks : List Kind) (w v : Option Row) → is_set w ≡ is_set v → value_shown w ≡ value_shown v → key_cells ks w ≡ key_cells ks v → w ≡ v
row_told ks None None f x y = refl
row_told ks None (Some s) f x y = absurd (false≢true f)
row_told ks (Some r) None f x y = absurd (false≢true (sym f))
row_told ks (Some r) (Some s) f x y = λ i. Some (record { value = x i; key = y i })

set_so : (held : Option Kept) → is_some (option_map (λ k. k.came_by) held) ≡ is_set (shown_row held)
set_so None = refl
set_so (Some k) = refl

module _ {S O F G : Type 0} {s : Ghosts S F} {o : Ghosts O G} where
  equal_is : (a : FirstLastGroupsAccumulator S O F G s o) (l : Single S O F G s o) (ws : List (Option Row)) (held : Option Kept)
      → (Grouped.making a).order.kinds ≡ (Ungrouped.order_settings l).kinds → Grouped.Stands a ws → Ungrouped.Stands l held
      → Equal a l ↔ WinnersAgree (get_or ws 0 None) (shown_row held)
  equal_is a l ws held same p q =
      let ks : List Kind = (Grouped.making a).order.kinds in
      let f : get_or (Grouped.held a).flags 0 false ≡ is_set (get_or ws 0 None) = ap (λ bs. get_or bs 0 false) p.flags ∙ get_or-map is_set ws 0 None in
      let x : get_or (first_cells (Grouped.held a).cells) 0 null ≡ value_shown (get_or ws 0 None) = ap (λ cs. get_or cs 0 null) p.values ∙ get_or-map value_shown ws 0 None in
      let y : get_or (Grouped.held a).keys 0 (map (λ k. null) ks) ≡ key_cells ks (get_or ws 0 None) = ap (λ es. get_or es 0 (map (λ k. null) ks)) p.keys ∙ get_or-map (key_cells ks) ws 0 None in
      let f' : is_some l.held ≡ is_set (shown_row held) = ap is_some q.came_by ∙ set_so held in
      let x' : get_or (first_cells (cells l.keeper)) 0 null ≡ value_shown (shown_row held) = ap (λ cs. get_or cs 0 null) q.value in
      let y' : get_or (keys l.keeper) 0 [] ≡ key_cells ks (shown_row held) = ap (λ es. get_or es 0 []) q.key ∙ ap (λ k. key_cells k (shown_row held)) (sym same) in (
        λ e. agree_from _ _ (row_told ks (get_or ws 0 None) (shown_row held) (sym f ∙ e.flag ∙ f') (sym x ∙ e.value ∙ x') (sym y ∙ e.key ∙ y')),
        λ h. let e = agree_is _ _ h in record {
          flag = f ∙ ap is_set e ∙ sym f';
          value = x ∙ ap value_shown e ∙ sym x';
          key = y ∙ ap (key_cells ks) e ∙ sym y';
        },
      )

  -- what group 0 shows is the first of all that is shown
  shown_first : (a : FirstLastGroupsAccumulator S O F G s o) → GroupedReached.winner_shown a 0 ≡ get_or (GroupedReached.winners_shown a) 0 None
  shown_first a = go (Grouped.held a).flags (GroupedReached.winner_shown a) (λ e. ap (λ b. cond b (Some (Keepers.shown_row a.kept 0)) None) e)
    where
      go : (fs : List Bool) (w : ℕ → Option Row) → (get_or fs 0 false ≡ false → w 0 ≡ None) → w 0 ≡ get_or (map w (count_up 0 (length fs))) 0 None
      go [] w h = h refl
      go (b ∷ fs) w h = refl

  pub ties_decide_of : ((x : S) → StateLaws (state_of (s.settings x))) → ((x : O) → OrderLaws (o.settings x)) → (a : FirstLastGroupsAccumulator S O F G s o) (l : Single S O F G s o) → TiesDecideOf a l
  ties_decide_of state_laws order_laws a l gs led led' alike last plain =
      let m = Grouped.making a in
      let same : m ≡ (Ungrouped.alone l).making = alike_is m (Ungrouped.alone l).making alike in
      let made : alone_of m ≡ Ungrouped.alone l = λ i. record { making = same i; in_order = sym plain i } in
      let t = ties_decide m (lawful a state_laws order_laws) (alike.first ∙ last) gs in
      let won : get_or (winners m (fed_all m [] gs)) 0 None ≡ winner m (group (fed_all m [] gs)) = first_held m (fed_all m [] gs) in
      let left : shown_row (held_after (alone_of m) (alone_calls gs)) ≡ shown_row (held_after (Ungrouped.alone l) (alone_calls gs)) = ap (λ n. shown_row (held_after n (alone_calls gs))) made in
      let e = equal_is a l (winners m (fed_all m [] gs)) (held_after (Ungrouped.alone l) (alone_calls gs)) alike.key_kinds (led_keeps led) (led_stands led') in
      let p = shown_first a ∙ ap (λ ws. get_or ws 0 None) (winners_led a (lawful a state_laws order_laws) (grouped_calls gs) led) in
      let q = led_shows l (alone_calls gs) led' in (
        (
          λ h. e.1 (subst (WinnersAgree (get_or (winners m (fed_all m [] gs)) 0 None)) q (subst (λ w. WinnersAgree w (UngroupedReached.row_shown l)) p h)),
          λ h. subst (λ w. WinnersAgree w (UngroupedReached.row_shown l)) (sym p) (subst (WinnersAgree (get_or (winners m (fed_all m [] gs)) 0 None)) (sym q) (e.0 h)),
        ),
        (
          λ h. t.0 (subst (λ w. WinnersAgree w (shown_row (held_after (alone_of m) (alone_calls gs)))) won (subst (WinnersAgree (get_or (winners m (fed_all m [] gs)) 0 None)) (sym left) (e.0 h))),
          λ h. e.1 (subst (WinnersAgree (get_or (winners m (fed_all m [] gs)) 0 None)) left (subst (λ w. WinnersAgree w (shown_row (held_after (alone_of m) (alone_calls gs)))) (sym won) (t.1 h))),
        ),
      )
