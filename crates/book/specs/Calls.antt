-- Calls: what each call of a grouped accumulator answers, and what it does to the book.
--   Call        update, merge, convert, evaluate or state, with its arguments
--   Result      done, a number of dropped groups for the shift notice, or a fault
--   Answer      the result, and every output byte
--   leaving     the winners that leave in an emission
--   declined    what declines a call, where the winners ws are held
--   answered    what a call that is not declined answers
--   answer_unless   the refusal with the buffers as they were, or the answer where there is none
--   answer      the answer of a call, from the making, the book, the call and the buffers before it
--   taken_in    the book after a call that is not declined
--   after       the book after a call: a declined one changes nothing
--   book_after, answers   the same for a list of calls, each with its own outputs
use Rattle.std.specs.Prelude.{ℕ, List, [], ◌∷◌, length, take, drop, Some, None, Option}
use Rattle.column.specs.Checks.{unless_refused}
use Rattle.column.specs.Faults.{Fault}
use Rattle.column.specs.Columns.{Flags}
use Rattle.layout.specs.Layout.{written, written_all, written_flags}
use Rattle.book.specs.Winners.{Row, Making, winners}
use Rattle.book.specs.Batches.{Book, Given, Batch, entries, grown, entered}
use Rattle.book.specs.Declines.{batch_declined}
use Rattle.book.specs.Emission.{To, Outputs, emits, value_parts, key_parts, set_parts, evaluate_declined, state_declined, converted_flags, convert_declined}

pub data Call : Type 0 where
  update : Batch → Option Flags → Call
  merge : Batch → Flags → Call
  convert : Given → Option Flags → Call
  evaluate : To → Call
  state : To → Call

pub data Result : Type 0 where
  done : Result
  dropped : ℕ → Result
  refused : Fault → Result

pub record Answer : Type 0 where
  pub result : Result
  pub outputs : Outputs

abbrev pub declined : Making → List (Option Row) → Call → Outputs → Option Fault
declined m ws (update b marks) o = batch_declined m (length ws) b marks
declined m ws (merge b flags) o = batch_declined m (length ws) b (Some flags)
declined m ws (convert g marks) o = convert_declined m g marks o
declined m ws (evaluate to) o = evaluate_declined m ws to o
declined m ws (state to) o = state_declined m ws to o

-- the winners that leave
abbrev pub leaving : To → List (Option Row) → List (Option Row)
leaving to ws = take (emits to (length ws)) ws

-- what a call that is not declined answers
abbrev pub answered : Making → List (Option Row) → Call → Outputs → Answer
answered m ws (update b marks) o = record { result = done; outputs = o }
answered m ws (merge b flags) o = record { result = done; outputs = o }
answered m ws (convert g marks) o = record {
  result = done;
  outputs = record { values = o.values; keys = o.keys; flags = written_flags (converted_flags g marks) o.flags };
}
answered m ws (evaluate to) o = record {
  result = dropped (emits to (length ws));
  outputs = record { values = written (value_parts m (leaving to ws)) o.values; keys = o.keys; flags = o.flags };
}
answered m ws (state to) o = record {
  result = dropped (emits to (length ws));
  outputs = record {
    values = written (value_parts m (leaving to ws)) o.values;
    keys = written_all (key_parts 0 m.order.kinds (leaving to ws)) o.keys;
    flags = written_flags (set_parts (leaving to ws)) o.flags;
  };
}

abbrev pub answer_unless : Option Fault → Outputs → Answer → Answer
answer_unless None o a = a
answer_unless (Some f) o a = record { result = refused f; outputs = o }

unfoldable pub answer : Making → Book → Call → Outputs → Answer
answer m b c o = answer_unless (declined m (winners m b) c o) o (answered m (winners m b) c o)

-- the book after a call that is not declined
abbrev pub taken_in : Making → Book → Call → Book
taken_in m b (update batch marks) = entered (grown b batch.total) (entries m batch marks)
taken_in m b (merge batch flags) = entered (grown b batch.total) (entries m batch (Some flags))
taken_in m b (convert g marks) = b
taken_in m b (evaluate to) = drop (emits to (length b)) b
taken_in m b (state to) = drop (emits to (length b)) b

unfoldable pub after : Making → Book → Call → Outputs → Book
after m b c o = unless_refused (declined m (winners m b) c o) (taken_in m b c) b

abbrev pub book_after : Making → Book → List (Call × Outputs) → Book
book_after m b [] = b
book_after m b (c ∷ cs) = book_after m (after m b c.0 c.1) cs

abbrev pub answers : Making → Book → List (Call × Outputs) → List Answer
answers m b [] = []
answers m b (c ∷ cs) = answer m b c.0 c.1 ∷ answers m (after m b c.0 c.1) cs
