-- What is held stays a top row of all rows that were brought.
use Rattle.std.proofs.Common.{◌≡◌, Bool, true, false, cond, not, ◌&&◌, List, [], ◌∷◌, ◌++◌, Some, None, Option, refl, sym, subst, append_assoc, append-nil}
use mathlib.Core.Bool.{false≢true}
use Rattle.std.specs.List.{Contains}
use Rattle.std.proofs.lemmas.List.Elements.{Contains-append_left, Contains-append_right}
use Rattle.column.specs.Checks.{unless_refused}
use Rattle.column.specs.Columns.{Flags}
use Rattle.column.specs.Faults.{Fault}
use Rattle.book.specs.Winners.{Row, Making, Lawful, beats}
use Rattle.book.specs.Batches.{Given}
use Rattle.book.specs.Declines.{ungrouped_declined}
use Rattle.book.specs.Emission.{Outputs}
use Rattle.ungrouped.specs.Rows.{Alone, arrives, counted, picked}
use Rattle.ungrouped.specs.Held.{Kept, shown_row, origin_of, unmerged, outdoes, replaces, stored, taken}
use Rattle.ungrouped.specs.Calls.{Call, update, merge, evaluate, state, declined, after, held_on}
use Rattle.ungrouped.specs.Runs.{brings, brings_in_turn, given, arrived, InTurn, InOrder, Top, Best, HoldsBest}
use Rattle.ungrouped.proofs.Topping.{across, front_pairs, rest_pairs, not_true, not_false, outdoes_so, outdoes_not, top_new, top_old, in_turn_last, in_turn_first, picked_best}

-- what is held is a top row of those given; where it came by an update, it is one of those that arrived
record Leads (m : Making) (given arrived : List Row) (k : Kept) : Type 0 where
  pub top : Top m given k.row
  pub came : unmerged k.came_by ≡ true → Contains arrived k.row

abbrev Leading : Making → List Row → List Row → Option Kept → Type 0
Leading m given arrived None = given ≡ []
Leading m given arrived (Some k) = Leads m given arrived k

-- the rows that arrive with a batch
abbrev arriving : Option Flags → List Row → List Row
arriving None rs = rs
arriving (Some f) rs = []

nothing_more : (m : Making) (marks : Option Flags) (xs ts : List Row) (held : Option Kept) → Leading m xs ts held → Leading m (xs ++ []) (ts ++ arriving marks []) held
nothing_more m None xs ts held h = subst (λ l. Leading m (xs ++ []) l held) (sym (append-nil ts)) (subst (λ l. Leading m l ts held) (sym (append-nil xs)) h)
nothing_more m (Some f) xs ts held h = subst (λ l. Leading m (xs ++ []) l held) (sym (append-nil ts)) (subst (λ l. Leading m l ts held) (sym (append-nil xs)) h)

-- a row that came by an update is among those that arrived
comes : (marks : Option Flags) (ts rs : List Row) (p : Row) → Contains rs p → unmerged (origin_of marks) ≡ true → Contains (ts ++ arriving marks rs) p
comes None ts rs p c e = Contains-append_right ts rs p c
comes (Some f) ts rs p c e = absurd (false≢true e)

module _ (a : Alone) (laws : Lawful a.making) (marks : Option Flags) where
  -- of a held row and a batch's: what the replacement tells
  replaced : (p : Row) (k : Kept) → (arrives a marks ≡ true → unmerged k.came_by ≡ true → InTurn a.making k.row p) → replaces a marks p k ≡ true → beats a.making k.row p ≡ false
  replaced p k turn = go (arrives a marks) (unmerged k.came_by) refl refl
    where
      go : (b u : Bool) → arrives a marks ≡ b → unmerged k.came_by ≡ u → cond (b && u) (not a.making.first) (outdoes a.making a.in_order p k.row) ≡ true → beats a.making k.row p ≡ false
      go true true e f h = in_turn_last a.making laws (not_true a.making.first h) k.row p (turn e f)
      go true false e f h = outdoes_so a.making laws a.in_order p k.row h
      go false u e f h = outdoes_so a.making laws a.in_order p k.row h

  kept_on : (p : Row) (k : Kept) → (arrives a marks ≡ true → unmerged k.came_by ≡ true → InTurn a.making k.row p) → replaces a marks p k ≡ false → beats a.making p k.row ≡ false
  kept_on p k turn = go (arrives a marks) (unmerged k.came_by) refl refl
    where
      go : (b u : Bool) → arrives a marks ≡ b → unmerged k.came_by ≡ u → cond (b && u) (not a.making.first) (outdoes a.making a.in_order p k.row) ≡ false → beats a.making p k.row ≡ false
      go true true e f h = in_turn_first a.making laws (not_false a.making.first h) k.row p (turn e f)
      go true false e f h = outdoes_not a.making laws a.in_order p k.row h
      go false u e f h = outdoes_not a.making laws a.in_order p k.row h

  leads_taken : (xs ts rs : List Row) (held : Option Kept) (o : Option Row) → Leading a.making xs ts held → Best a.making rs o → (arrives a marks ≡ true → InOrder a.making (ts ++ rs))
      → Leading a.making (xs ++ rs) (ts ++ arriving marks rs) (stored a marks held o)
  leads_taken xs ts rs held None h best turn = subst (λ l. Leading a.making (xs ++ l) (ts ++ arriving marks l) held) (sym best) (nothing_more a.making marks xs ts held h)
  leads_taken xs ts rs None (Some p) h best turn = record {
    top = subst (λ l. Top a.making (l ++ rs) p) (sym h) best;
    came = comes marks ts rs p best.among;
  }
  leads_taken xs ts rs (Some k) (Some p) h best turn = go (replaces a marks p k) (replaced p k next) (kept_on p k next)
    where
      next : arrives a marks ≡ true → unmerged k.came_by ≡ true → InTurn a.making k.row p
      next e u = across (InTurn a.making) ts rs k.row p (turn e) (h.came u) best.among

      go : (b : Bool) → (b ≡ true → beats a.making k.row p ≡ false) → (b ≡ false → beats a.making p k.row ≡ false)
          → Leading a.making (xs ++ rs) (ts ++ arriving marks rs) (cond b (Some (record { row = p; came_by = origin_of marks })) (Some k))
      go true r l = record { top = top_new a.making laws xs rs k.row p h.top best (r refl); came = comes marks ts rs p best.among }
      go false r l = record { top = top_old a.making laws xs rs k.row p h.top best (l refl); came = λ u. Contains-append_left ts (arriving marks rs) k.row (h.came u) }

  leads_batch : (xs ts : List Row) (held : Option Kept) (g : Given) (d : Option Fault) → Leading a.making xs ts held
      → (arrives a marks ≡ true → InOrder a.making (ts ++ unless_refused d (counted a.making g marks) []))
      → Leading a.making (xs ++ unless_refused d (counted a.making g marks) []) (ts ++ arriving marks (unless_refused d (counted a.making g marks) [])) (unless_refused d (taken a marks held g) held)
  leads_batch xs ts held g None h turn =
      let rs = counted a.making g marks in
      leads_taken xs ts rs held (picked a marks rs) h (picked_best a laws marks rs (λ e. rest_pairs (InTurn a.making) ts rs (turn e))) turn
  leads_batch xs ts held g (Some f) h turn = nothing_more a.making marks xs ts held h

-- an emission changes nothing
pub emission_keeps : (d : Option Fault) (held : Option Kept) → unless_refused d held held ≡ held
emission_keeps None held = refl
emission_keeps (Some f) held = refl

module _ (a : Alone) (laws : Lawful a.making) where
  leads_call : (xs ts : List Row) (held : Option Kept) (c : Call) (o : Outputs) → Leading a.making xs ts held → (a.in_order ≡ true → InOrder a.making (ts ++ brings_in_turn a.making c))
      → Leading a.making (xs ++ brings a.making c) (ts ++ brings_in_turn a.making c) (after a held c o)
  unfolding after declined
  leads_call xs ts held (update g) o h turn = leads_batch a laws None xs ts held g (ungrouped_declined a.making g None) h turn
  leads_call xs ts held (merge g f) o h turn = leads_batch a laws (Some f) xs ts held g (ungrouped_declined a.making g (Some f)) h (λ e. absurd (false≢true e))
  leads_call xs ts held evaluate o h turn = subst (Leading a.making (xs ++ []) (ts ++ [])) (sym (emission_keeps (declined a held evaluate o) held)) (nothing_more a.making None xs ts held h)
  leads_call xs ts held state o h turn = subst (Leading a.making (xs ++ []) (ts ++ [])) (sym (emission_keeps (declined a held state o) held)) (nothing_more a.making None xs ts held h)

  leads_on : (cs : List (Call × Outputs)) (xs ts : List Row) (held : Option Kept) → Leading a.making xs ts held → (a.in_order ≡ true → InOrder a.making (ts ++ arrived a.making cs))
      → Leading a.making (xs ++ given a.making cs) (ts ++ arrived a.making cs) (held_on a held cs)
  leads_on [] xs ts held h turn = nothing_more a.making None xs ts held h
  leads_on (c ∷ cs) xs ts held h turn =
      let ys = brings a.making c.0 in
      let us = brings_in_turn a.making c.0 in
      let one : ts ++ (us ++ arrived a.making cs) ≡ (ts ++ us) ++ arrived a.making cs = sym (append_assoc ts us (arrived a.making cs)) in
      let turn' : a.in_order ≡ true → InOrder a.making ((ts ++ us) ++ arrived a.making cs) = λ e. subst (InOrder a.making) one (turn e) in
      subst (λ l. Leading a.making l (ts ++ (us ++ arrived a.making cs)) (held_on a (after a held c.0 c.1) cs)) (append_assoc xs ys (given a.making cs))
      (subst (λ l. Leading a.making ((xs ++ ys) ++ given a.making cs) l (held_on a (after a held c.0 c.1) cs)) (sym one)
      (leads_on cs (xs ++ ys) (ts ++ us) (after a held c.0 c.1)
      (leads_call xs ts held c.0 c.1 h (λ e. front_pairs (InTurn a.making) (ts ++ us) (arrived a.making cs) (turn' e)))
      turn'))

best_led : (m : Making) (rows ts : List Row) (held : Option Kept) → Leading m rows ts held → Best m rows (shown_row held)
best_led m rows ts None h = h
best_led m rows ts (Some k) h = h.top

pub holds_best : (a : Alone) → Lawful a.making → (past : List (Call × Outputs)) → HoldsBest a past
holds_best a laws past turn = best_led a.making (given a.making past) (arrived a.making past) (held_on a None past) (leads_on a laws past [] [] None refl turn)
