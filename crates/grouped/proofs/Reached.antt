-- An accumulator that was reached by a list of calls stands for the book of that list, and so answers as the book says.
use Rattle.std.proofs.Common.{◌≡◌, ℕ, Bool, false, cond, List, [], ◌∷◌, ◌++◌, map, length, get_or, All, IfSome, Some, None, Option, refl, sym, ap, ap₂, ◌∙◌, subst, arith}
use lib.ListN.{length-map, get_or-map}
use Rattle.std.specs.List.{AllZip}
use Rattle.std.proofs.lemmas.List.{ext_get_or, take_all, get_or_default}
use Rattle.std.proofs.lemmas.List.Elements.{All-nil, All-cons, All-head, All-tail, All-get_or}
use Rattle.std.proofs.lemmas.Slice.Zip.{AllZip-long}
use Rattle.column.specs.Cells.{Cell, Kind, Proper, null}
use Rattle.column.specs.Columns.{count_up}
use Rattle.layout.proofs.Sources.{rows_front}
use Rattle.tables.specs.Meaning.{StateLaws, OrderLaws, state_of, first_cells}
use Rattle.tables.specs.declared.table.GroupTable.{Ghosts}
use Rattle.book.specs.Winners.{Row, Making, Lawful, winner, winners}
use Rattle.book.specs.Batches.{Book}
use Rattle.book.specs.Emission.{Outputs, value_shown}
use Rattle.book.specs.Calls.{Call, Answer, answers, after, book_after}
use Rattle.book.proofs.Following.{book_push}
use Rattle.agreement.specs.Deciding as deciding
use Rattle.agreement.proofs.Deciding.{winners_decide}
use Rattle.agreement.proofs.Taken.{RowProper, AllProper, reached_shown, winner_proper}
use Rattle.keeping.specs.Replies.{is_set, key_cells}
use Rattle.grouped.specs.declared.FirstLastGroupsAccumulator.{FirstLastGroupsAccumulator}
use Rattle.grouped.specs.Accumulators.{held, making, Stands, Keeps}
use Rattle.grouped.specs.Reached.{winner_shown, winners_shown, Led, made, called, Draws, ends, more, AnswersDefined, WinnersDecideOf}
use Rattle.grouped.proofs.Holding.{lawful}
use Rattle.grouped.proofs.HoldingAlike.{shown_many, shown_at}
use Rattle.grouped.proofs.Showing.{flags_many}

-- What a table shows of winners whose keys have a cell for each column

-- a key, cell by cell
key_back : (ks : List Kind) (cs : List Cell) → AllZip Proper ks cs → map (λ j. get_or cs j null) (count_up 0 (length ks)) ≡ cs
key_back ks cs h = let n = AllZip-long Proper ks cs h in rows_front cs null (length ks) (omega arith) ∙ take_all (length ks) cs (omega arith)

shown_one : (m : Making) (w : Option Row) (flag : Bool) (value : Cell) (key : List Cell) → flag ≡ is_set w → value ≡ value_shown w → key ≡ key_cells m.order.kinds w → IfSome w (RowProper m)
    → cond flag (Some (record { value = value; key = map (λ j. get_or key j null) (count_up 0 (length m.order.kinds)) })) None ≡ w
shown_one m None flag value key f v k p = rw f
shown_one m (Some r) flag value key f v k p = rw (f, v, k, key_back m.order.kinds r.key p.of_key)

all_winners : (m : Making) (b : Book) → AllProper m b → All (λ w. IfSome w (RowProper m)) (winners m b)
unfolding winners
all_winners m [] h = All-nil (λ w. IfSome w (RowProper m))
all_winners m (g ∷ b) h =
    All-cons (λ w. IfSome w (RowProper m)) (winner m g) (winners m b) (winner_proper m g (All-head (All (RowProper m)) g b h)) (all_winners m b (All-tail (All (RowProper m)) g b h))

module _ {S O F G : Type 0} {s : Ghosts S F} {o : Ghosts O G} where
  shown_is : (a : FirstLastGroupsAccumulator S O F G s o) (ws : List (Option Row)) → Stands a ws → All (λ w. IfSome w (RowProper (making a))) ws → winners_shown a ≡ ws
  shown_is a ws h p =
      let m = making a in
      let t = held a in
      let n = length t.flags in
      let many = flags_many m.order.kinds t ws h in
      let long = shown_many (winner_shown a) n in
      ext_get_or None (winners_shown a) ws (long ∙ many) (λ i l.
      let f : get_or t.flags i false ≡ is_set (get_or ws i None) = ap (λ bs. get_or bs i false) h.flags ∙ get_or-map is_set ws i None in
      let v : get_or (first_cells t.cells) i null ≡ value_shown (get_or ws i None) = ap (λ cs. get_or cs i null) h.values ∙ get_or-map value_shown ws i None in
      let k : get_or t.keys i [] ≡ key_cells m.order.kinds (get_or ws i None) = ap (λ es. get_or es i []) h.keys ∙ get_or_default (map (key_cells m.order.kinds) ws) i [] (key_cells m.order.kinds None) (let z = length-map ws (key_cells m.order.kinds) in omega arith) ∙ get_or-map (key_cells m.order.kinds) ws i None in
      shown_at (winner_shown a) n i (omega arith)
      ∙ ap (λ (key : ℕ → Cell). cond (get_or t.flags i false) (Some (record { value = get_or (first_cells t.cells) i null; key = map key (count_up 0 (length m.order.kinds)) })) None) (λ x j. get_or-map (λ e. get_or e j null) t.keys i [] x)
      ∙ shown_one m (get_or ws i None) _ _ (get_or t.keys i []) f v k (All-get_or (λ w. IfSome w (RowProper m)) ws i None (omega arith) p))

  pub led_keeps : {a : FirstLastGroupsAccumulator S O F G s o} {past : List (Call × Outputs)} → Led a past → Keeps a (book_after (making a) [] past)
  unfolding winners
  led_keeps (made e) = e
  led_keeps (called {a} {a'} {past} {c} {before} {r} l h) =
      subst (λ b. Stands a' (winners (making a') b)) (sym (book_push (making a) [] past c before) ∙ ap (λ n. book_after n [] (past ++ (c, before) ∷ [])) (sym h.same_making))
      (h.keeps_so (book_after (making a) [] past) (led_keeps l))

  draws_are : {a : FirstLastGroupsAccumulator S O F G s o} {further : List (Call × Outputs)} {rs : List Answer} → Draws a further rs → (b : Book) → Keeps a b → rs ≡ answers (making a) b further
  draws_are ends b x = refl
  draws_are (more {a} {a'} {c} {before} {r} {cs} {rs} h d) b x =
      ap₂ (λ y l. y ∷ l) (h.answers_so b x)
      (draws_are d (after (making a) b c before) (h.keeps_so b x) ∙ ap (λ n. answers n (after (making a) b c before) cs) h.same_making)

  pub answers_defined : (a : FirstLastGroupsAccumulator S O F G s o) → AnswersDefined a
  answers_defined a past further rs l d = draws_are d (book_after (making a) [] past) (led_keeps l)

  -- it shows the winners of the book of that list
  pub led_shows : (a : FirstLastGroupsAccumulator S O F G s o) → Lawful (making a) → (past : List (Call × Outputs)) → Led a past → winners_shown a ≡ deciding.held (making a) past
  led_shows a laws past l = shown_is a (deciding.held (making a) past) (led_keeps l) (all_winners (making a) (book_after (making a) [] past) (reached_shown (making a) laws past).rows)

  pub winners_decide_of : ((x : S) → StateLaws (state_of (s.settings x))) → ((x : O) → OrderLaws (o.settings x)) → (a b : FirstLastGroupsAccumulator S O F G s o) → WinnersDecideOf a b
  winners_decide_of state_laws order_laws a b past past' l k alike =
      let d = winners_decide (making a) (making b) (lawful a state_laws order_laws) alike past past' in
      let p = led_shows a (lawful a state_laws order_laws) past l in
      let q = led_shows b (lawful b state_laws order_laws) past' k in (
        λ h. d.0 (subst (λ vs. deciding.HoldAlike (deciding.held (making a) past) vs) q (subst (λ ws. deciding.HoldAlike ws (winners_shown b)) p h)),
        λ h. subst (λ vs. deciding.HoldAlike (winners_shown a) vs) (sym q) (subst (λ ws. deciding.HoldAlike ws (deciding.held (making b) past')) (sym p) (d.1 h)),
      )
