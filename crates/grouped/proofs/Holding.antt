-- What is so of every accumulator, and a call that does to the held winners what the book says.
use Rattle.std.proofs.Common.{◌≡◌, List, length, take, Some, Option, sym, refl, ap, ◌∙◌, subst, arith}
use lib.ListN.{length-map}
use Rattle.std.proofs.lemmas.List.{length-take-le}
use Rattle.column.specs.Faults.{Fault}
use Rattle.tables.specs.Meaning.{StateLaws, OrderLaws, state_of}
use Rattle.tables.specs.declared.table.GroupTable.{Ghosts}
use Rattle.book.specs.Winners.{Row, Lawful, winners}
use Rattle.book.specs.Emission.{Outputs}
use Rattle.book.specs.Calls.{Call, Result, refused, Answer, declined, after}
use Rattle.book.proofs.Following.{answer_is, winners_after, held_after, reply}
use Rattle.keeping.specs.Keepers.{Same}
use Rattle.keeping.specs.Replies.{is_set}
use Rattle.grouped.specs.declared.slots.Slot.{Slot}
use Rattle.grouped.specs.declared.FirstLastGroupsAccumulator.{FirstLastGroupsAccumulator}
use Rattle.grouped.specs.Accumulators.{held, making, Stands, Obeys}

module _ {S O F G : Type 0} {s : Ghosts S F} {o : Ghosts O G} where
  pub flags_many : (a : FirstLastGroupsAccumulator S O F G s o) → length (held a).flags ≡ a.slots.len
  flags_many a = length-map (take a.slots.len a.slots.slots) (λ (x : Slot). x.set) ∙ length-take-le a.slots.len a.slots.slots (let f = a.few in let p = a.places in omega arith)

  pub winners_many : (a : FirstLastGroupsAccumulator S O F G s o) (ws : List (Option Row)) → Stands a ws → a.slots.len ≡ length ws
  winners_many a ws h = sym (flags_many a) ∙ ap length h.flags ∙ length-map ws is_set

  pub lawful : (a : FirstLastGroupsAccumulator S O F G s o) → ((x : S) → StateLaws (state_of (s.settings x))) → ((x : O) → OrderLaws (o.settings x)) → Lawful (making a)
  lawful a state-laws order-laws = record { of_state = state-laws a.kept.state; of_order = order-laws a.kept.order }

  pub made_same : (a a' : FirstLastGroupsAccumulator S O F G s o) → Same a.kept a'.kept → making a' ≡ making a
  made_same a a' h = λ i. record { state = state_of (h.state i); order = h.order i; first = h.first i; ignore_nulls = h.nulls i }

  pub unchanged : (a : FirstLastGroupsAccumulator S O F G s o) → Same a.kept a.kept
  unchanged a = record { state = refl; order = refl; first = refl; nulls = refl }

  -- a call does to the held winners what the book says
  pub record Does (a : FirstLastGroupsAccumulator S O F G s o) (ws : List (Option Row)) (c : Call) (before : Outputs) (r : Answer) (a' : FirstLastGroupsAccumulator S O F G s o) : Type 0 where
    pub replies : r ≡ reply (making a) ws c before
    pub stands : Stands a' (held_after (making a) ws c before)

  -- a call that is declined changes nothing and writes nothing
  pub refuses : (a : FirstLastGroupsAccumulator S O F G s o) (ws : List (Option Row)) (c : Call) (before outs : Outputs) (x : Fault) (r : Result) → Stands a ws
      → declined (making a) ws c before ≡ Some x → r ≡ refused x → outs ≡ before → Does a ws c before (record { result = r; outputs = outs }) a
  refuses a ws c before outs x r h d is same = record { replies = rw (is, same, d); stands = rw d h }

  pub obeys_from_held : (a : FirstLastGroupsAccumulator S O F G s o) → Lawful (making a) → (c : Call) (before : Outputs) (r : Answer) (a' : FirstLastGroupsAccumulator S O F G s o)
      → Same a.kept a'.kept → ((ws : List (Option Row)) → Stands a ws → Does a ws c before r a') → Obeys a c before r a'
  obeys_from_held a laws c before r a' made does =
      let m = making a in
      let same = made_same a a' made in
      record {
        same_making = same;
        answers_so = λ b x. (does (winners m b) x).replies ∙ sym (answer_is m laws b c before);
        keeps_so = λ b x. subst (Stands a') (sym (winners_after m laws b c before) ∙ ap (λ n. winners n (after m b c before)) (sym same)) (does (winners m b) x).stands;
      }
