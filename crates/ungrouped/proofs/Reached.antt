-- An accumulator that was reached by a list of calls holds what that list leaves.
use Rattle.std.specs.Option.{option_map}
use Rattle.keeping.specs.Keepers.{kept_row}
use Rattle.ungrouped.specs.declared.origin.Origin.{Origin}
use Rattle.std.proofs.Common.{◌≡◌, List, [], ◌∷◌, ◌++◌, Some, None, Option, sym, refl, ap, ◌∙◌, subst}
use Rattle.tables.specs.Meaning.{StateLaws, OrderLaws, state_of}
use Rattle.tables.specs.declared.table.GroupTable.{Ghosts}
use Rattle.book.specs.Emission.{Outputs}
use Rattle.ungrouped.specs.declared.single.Single.{Single}
use Rattle.ungrouped.specs.Rows.{Alone}
use Rattle.ungrouped.specs.Held.{Kept, shown_row}
use Rattle.ungrouped.specs.Calls.{Call, after, held_on, held_after}
use Rattle.ungrouped.specs.Accumulators.{alone, Stands}
use Rattle.ungrouped.specs.Runs.{given, Best}
use Rattle.ungrouped.specs.Reached.{Led, made, called, row_held, KeepsBest}
use Rattle.ungrouped.proofs.Holding.{lawful, read_is}
use Rattle.ungrouped.proofs.Leading.{holds_best}

held_push : (a : Alone) (held : Option Kept) (past : List (Call × Outputs)) (c : Call) (o : Outputs) → held_on a held (past ++ (c, o) ∷ []) ≡ after a (held_on a held past) c o
held_push a held [] c o = refl
held_push a held (x ∷ xs) c o = held_push a (after a held x.0 x.1) xs c o

module _ {S O F G : Type 0} {s : Ghosts S F} {o : Ghosts O G} where
  pub led_stands : {a : Single S O F G s o} {past : List (Call × Outputs)} → Led a past → Stands a (held_after (alone a) past)
  led_stands (made e) = e
  led_stands (called {a} {a'} {past} {c} {before} {r} l h) =
      subst (Stands a') (sym (held_push (alone a) None past c before) ∙ ap (λ n. held_after n (past ++ (c, before) ∷ [])) (sym h.same_making))
      (h.keeps_so (held_after (alone a) past) (led_stands l))

  pub led_holds : (a : Single S O F G s o) (past : List (Call × Outputs)) → Led a past → row_held a ≡ shown_row (held_after (alone a) past)
  led_holds a past l = shown a.held ∙ ap shown_row (read_is a (held_after (alone a) past) (led_stands l))
    where
      shown : (x : Option Origin) → option_map (λ y. kept_row a.keeper 0) x ≡ shown_row (option_map (λ y. record { row = kept_row a.keeper 0; came_by = y }) x)
      shown None = refl
      shown (Some y) = refl

  pub keeps_best : ((x : S) → StateLaws (state_of (s.settings x))) → ((x : O) → OrderLaws (o.settings x)) → (a : Single S O F G s o) → KeepsBest a
  keeps_best state_laws order_laws a past l turn =
      subst (Best (alone a).making (given (alone a).making past)) (sym (led_holds a past l)) (holds_best (alone a) (lawful a state_laws order_laws) past turn)
