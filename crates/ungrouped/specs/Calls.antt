-- Calls: what each call of an ungrouped accumulator answers, and what is held after it.
--   Call        update, merge, evaluate or state, with its arguments
--   batch_call  the call that a batch is: an update has no flags, a merge has
--   declined    what declines a call, where this is held
--   answered    what a call that is not declined answers
--   answer      the answer of a call, from the making, what is held, the call and the buffers before it
--   kept        what is held after a call that is not declined: an emission drops nothing
--   after       what is held after a call: a declined one changes nothing
--   held_after  the same after a list of calls, each with its own outputs, from nothing held
--   held_on     the same from what is held
--   answers     what a list of calls answers from what is held
use Rattle.std.specs.Prelude.{List, [], ◌∷◌, Some, None, Option}
use Rattle.column.specs.Checks.{first_of, unless_refused}
use Rattle.column.specs.Columns.{Flags}
use Rattle.column.specs.Faults.{Fault}
use Rattle.layout.specs.Layout.{written, written_all, written_flags}
use Rattle.book.specs.Batches.{Given}
use Rattle.book.specs.Declines.{ungrouped_declined}
use Rattle.book.specs.Emission.{Outputs, value_parts, key_parts, set_parts, values_short, keys_short, flags_short}
use Rattle.book.specs.Calls.{Answer, done, answer_unless}
use Rattle.ungrouped.specs.Rows.{Alone}
use Rattle.ungrouped.specs.Held.{Kept, shown_row, taken}

pub data Call : Type 0 where
  update : Given → Call
  merge : Given → Flags → Call
  evaluate : Call
  state : Call

abbrev pub batch_call : Given → Option Flags → Call
batch_call g None = update g
batch_call g (Some f) = merge g f

unfoldable pub declined : Alone → Option Kept → Call → Outputs → Option Fault
declined a held (update g) o = ungrouped_declined a.making g None
declined a held (merge g f) o = ungrouped_declined a.making g (Some f)
declined a held evaluate o = values_short a.making (shown_row held ∷ []) o.values
declined a held state o =
    first_of (values_short a.making (shown_row held ∷ []) o.values
    ∷ keys_short 0 (key_parts 0 a.making.order.kinds (shown_row held ∷ [])) o.keys
    ∷ flags_short (set_parts (shown_row held ∷ [])) o.flags ∷ [])

abbrev pub answered : Alone → Option Kept → Call → Outputs → Answer
answered a held (update g) o = record { result = done; outputs = o }
answered a held (merge g f) o = record { result = done; outputs = o }
answered a held evaluate o = record {
  result = done;
  outputs = record { values = written (value_parts a.making (shown_row held ∷ [])) o.values; keys = o.keys; flags = o.flags };
}
answered a held state o = record {
  result = done;
  outputs = record {
    values = written (value_parts a.making (shown_row held ∷ [])) o.values;
    keys = written_all (key_parts 0 a.making.order.kinds (shown_row held ∷ [])) o.keys;
    flags = written_flags (set_parts (shown_row held ∷ [])) o.flags;
  };
}

unfoldable pub answer : Alone → Option Kept → Call → Outputs → Answer
answer a held c o = answer_unless (declined a held c o) o (answered a held c o)

abbrev pub kept : Alone → Option Kept → Call → Option Kept
kept a held (update g) = taken a None held g
kept a held (merge g f) = taken a (Some f) held g
kept a held evaluate = held
kept a held state = held

unfoldable pub after : Alone → Option Kept → Call → Outputs → Option Kept
after a held c o = unless_refused (declined a held c o) (kept a held c) held

abbrev pub held_on : Alone → Option Kept → List (Call × Outputs) → Option Kept
held_on a held [] = held
held_on a held (c ∷ cs) = held_on a (after a held c.0 c.1) cs

abbrev pub held_after : Alone → List (Call × Outputs) → Option Kept
held_after a past = held_on a None past

abbrev pub answers : Alone → Option Kept → List (Call × Outputs) → List Answer
answers a held [] = []
answers a held (c ∷ cs) = answer a held c.0 c.1 ∷ answers a (after a held c.0 c.1) cs
