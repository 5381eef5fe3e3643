-- What the entries of an accumulator show of the row that it holds, and what an emission answers.
use Rattle.std.proofs.Common.{◌≡◌, ℕ, suc, Bool, not, List, [], ◌∷◌, map, get_or, take, Some, None, Ok, Err, Option, Result, sym, refl, ap, ap₂, ◌∙◌, subst, arith}
use Rattle.std.specs.Option.{is_some, option_map}
use lib.ListN.{get_or-map}
use Rattle.std.proofs.lemmas.List.{take-map}
use Rattle.column.specs.Cells.{Kind, numbers, null}
use Rattle.tables.specs.Meaning.{column_cells}
use Rattle.book.specs.Winners.{Row}
use Rattle.column.specs.Checks.{first_of, refuse, unless_refused}
use Rattle.column.specs.Faults.{Fault, fault, SPACE, in_state}
use Rattle.layout.specs.Layout.{Parts, fits, laid_out, laid_flags, written, written_all, written_flags}
use Rattle.layout.specs.Written.{flags_laid}
use Rattle.tables.specs.Refusals.{cells_laid, keys_laid, columns_laid}
use Rattle.tables.specs.declared.table.GroupTable.{Ghosts}
use Rattle.book.specs.Emission.{Outputs, value_parts, key_parts, key_shown, set_parts, set_shown, keys_short, flags_short}
use Rattle.book.specs.Calls.{Answer, done, answer_unless}
use Rattle.faults.specs.declared.Fault as coded
use Rattle.faults.specs.Reported.{declined_seen}
use Rattle.keeping.specs.Fronts.{Front, cells_short, state_short, state_out, values_declined, state_declined}
use Rattle.keeping.proofs.Measuring.{values_held, state_held}
use Rattle.keeping.specs.Replies.{batch_answer, key_cells, values_only}
use Rattle.ungrouped.specs.declared.single.Single.{Single}
use Rattle.ungrouped.specs.Held.{Kept, shown_row}
use Rattle.ungrouped.specs.Calls.{Call, evaluate, state, declined, answered, answer, after}
use Rattle.ungrouped.specs.Accumulators.{alone, order_settings, state_settings, Stands}
use Rattle.ungrouped.proofs.Batching.{Does}
use Rattle.ungrouped.proofs.Leading.{emission_keeps}

-- a call that wrote where nothing declined it answers so
answers_so : (x : Result (Unit {0}) coded.Fault) (d : Option Fault) (before new news : Outputs) → declined_seen x ≡ d → new ≡ unless_refused d news before
    → ◌≡◌ {A = Answer} (record { result = batch_answer x; outputs = new }) (answer_unless d before (record { result = done; outputs = news }))
answers_so x d before new news e h = subst (λ k. ◌≡◌ {A = Answer} (record { result = batch_answer x; outputs = k }) (answer_unless d before (record { result = done; outputs = news }))) (sym h) (subst (λ k. ◌≡◌ {A = Answer} (record { result = batch_answer x; outputs = unless_refused k news before }) (answer_unless k before (record { result = done; outputs = news }))) e (go x))
  where
    go : (y : Result (Unit {0}) coded.Fault) → ◌≡◌ {A = Answer} (record { result = batch_answer y; outputs = unless_refused (declined_seen y) news before }) (answer_unless (declined_seen y) before (record { result = done; outputs = news }))
    go (Ok t) = refl
    go (Err f) = refl

values_alone : (d : Option Fault) (new old : Parts) → values_only (unless_refused d new old) ≡ unless_refused d (values_only new) (values_only old)
values_alone None new old = refl
values_alone (Some f) new old = refl

set_is : (held : Option Kept) → set_shown (shown_row held) ≡ Some (is_some (option_map (λ k. k.came_by) held))
set_is None = refl
set_is (Some k) = refl

-- the key columns of some rows that are shown

key_is : (ks : List Kind) (j : ℕ) (w : Option Row) → get_or (key_cells ks w) j null ≡ key_shown j w
key_is ks j None = get_or-map (λ k. null) ks j numbers
key_is ks j (Some r) = refl

column_is : (ks : List Kind) (j : ℕ) (ws : List (Option Row)) → column_cells j (map (key_cells ks) ws) ≡ map (key_shown j) ws
column_is ks j [] = refl
column_is ks j (w ∷ ws) = ap₂ (λ c cs. c ∷ cs) (key_is ks j w) (column_is ks j ws)

columns_are : (all : List Kind) (n j : ℕ) (ks : List Kind) (ws : List (Option Row)) → key_parts j ks (take n ws) ≡ columns_laid (map (key_cells all) ws) n j ks
columns_are all n j [] ws = refl
columns_are all n j (k ∷ ks) ws =
    ap₂ (λ p ps. p ∷ ps) (ap (laid_out k) (sym (take-map (key_shown j) n ws) ∙ ap (take n) (sym (column_is all j ws))))
    (columns_are all n (suc j) ks ws)

module _ {S O F G : Type 0} {s : Ghosts S F} {o : Ghosts O G} (a : Single S O F G s o) (held : Option Kept) (h : Stands a held) where
  -- what is written from, by the set flag
  abbrev front : Bool → Front
  front set = record { state = state_settings a; order = order_settings a; cells = s.entries a.keeper.state; keys = o.entries a.keeper.order; flags = λ k. Some set }

  value_is : value_parts (alone a).making (shown_row held ∷ []) ≡ cells_laid (state_settings a) (s.entries a.keeper.state) 1
  value_is = ap (λ cs. laid_out (alone a).making.state.kind (take 1 cs)) (sym h.value)

  keys_are : key_parts 0 (order_settings a).kinds (shown_row held ∷ []) ≡ keys_laid (order_settings a) (o.entries a.keeper.order) 1
  keys_are = columns_are (order_settings a).kinds 1 0 (order_settings a).kinds (shown_row held ∷ []) ∙ ap (λ es. columns_laid es 1 0 (order_settings a).kinds) (sym h.key)

  flag_is : (set : Bool) → set ≡ is_some a.held → set_parts (shown_row held ∷ []) ≡ flags_laid (λ k. Some set) 1
  flag_is set e = ap (λ b. laid_flags (b ∷ [])) (set_is held ∙ ap (λ c. Some (is_some c)) (sym h.came_by) ∙ ap Some (sym e))

  -- an emission answers so, and what is held stays
  emits : (c : Call) (before new news : Outputs) (x : Result (Unit {0}) coded.Fault) (d : Option Fault) → declined (alone a) held c before ≡ d → answered (alone a) held c before ≡ record { result = done; outputs = news }
      → after (alone a) held c before ≡ held → declined_seen x ≡ d → new ≡ unless_refused d news before → Does a held c before (record { result = batch_answer x; outputs = new }) a
  unfolding answer
  emits c before new news x d e k same p q = record {
    replies = answers_so x d before new news p q ∙ sym (ap₂ (λ y z. answer_unless y before z) e k);
    shows = subst (Stands a) (sym same) h;
  }

  pub evaluates : (before new : Parts) (x : Result (Unit {0}) coded.Fault) → declined_seen x ≡ values_declined (state_settings a) (s.entries a.keeper.state) 1 before
      → new ≡ unless_refused (values_declined (state_settings a) (s.entries a.keeper.state) 1 before) (written (cells_laid (state_settings a) (s.entries a.keeper.state) 1) before) before
      → Does a held evaluate (values_only before) (record { result = batch_answer x; outputs = values_only new }) a
  unfolding after declined
  evaluates before new x p q =
      let one = values_held (state_settings a) (s.entries a.keeper.state) 1 before (omega (arith, a.one)) in
      let d = cells_short (state_settings a) (s.entries a.keeper.state) 1 before in
      let news = written (cells_laid (state_settings a) (s.entries a.keeper.state) 1) before in
      emits evaluate (values_only before) (values_only new) (values_only news) x d
      (ap (λ (v : Parts). refuse (not (fits v before)) (fault SPACE in_state 0 0)) value_is)
      (ap (λ (v : Parts). let r : Answer = record { result = done; outputs = values_only (written v before) } in r) value_is)
      (emission_keeps _ held)
      (p ∙ one) (ap values_only (q ∙ ap (λ t. unless_refused t news before) one) ∙ values_alone d news before)

  pub states : (set : Bool) → set ≡ is_some a.held → (before new : Outputs) (x : Result (Unit {0}) coded.Fault) → declined_seen x ≡ state_declined (front set) 1 before
      → new ≡ unless_refused (state_declined (front set) 1 before) (state_out (front set) 1 before) before
      → Does a held state before (record { result = batch_answer x; outputs = new }) a
  unfolding after declined
  states set e before new x p q =
      let one = state_held (front set) 1 before (omega (arith, a.one)) (omega (arith, a.one, a.keeper.level)) in
      emits state before new (state_out (front set) 1 before) x (state_short (front set) 1 before)
      (λ i. first_of (refuse (not (fits (value_is i) before.values)) (fault SPACE in_state 0 0) ∷ keys_short 0 (keys_are i) before.keys ∷ flags_short (flag_is set e i) before.flags ∷ []))
      (λ i. record { result = done; outputs = record { values = written (value_is i) before.values; keys = written_all (keys_are i) before.keys; flags = written_flags (flag_is set e i) before.flags } })
      (emission_keeps _ held)
      (p ∙ one) (q ∙ ap (λ t. unless_refused t (state_out (front set) 1 before) before) one)
