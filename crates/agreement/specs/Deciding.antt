-- Deciding: the winners that two grouped accumulators hold decide whether they answer alike from then on.
--   MadeAlike     two makings: the same kinds, sets of cells and relation, both FIRST or both LAST, and the same null policy
--   held          the winners that an accumulator holds that was made so, and since then reached by nothing but a list of calls with their buffers: by group number, where missing none
--   drawn         the answers that it then gives to further calls, one after another: results or whole faults, the numbers in notices, and every output byte
--   RowsAgree     two rows have the same value cell and the same key cells
--   WinnersAgree  two winners agree as rows, or both are missing
--   HoldAlike     equally many groups, and in each the winners agree
--   AnswerAlike   every list of further calls, the same for both, draws the same answers from both
--   WinnersDecide two accumulators made alike, each reached by its own list of calls, hold alike exactly when they answer alike
use Rattle.std.specs.Prelude.{◌≡◌, ℕ, ◌<◌, ◌↔◌, List, [], length, All, Some, None, Option, slice_index_or}
use Rattle.column.specs.Cells.{Cell}
use Rattle.book.specs.Winners.{Row, Making, Lawful, winners}
use Rattle.book.specs.Emission.{Outputs}
use Rattle.book.specs.Calls.{Call, Answer, book_after, answers}
use Rattle.agreement.specs.Passable.{Passable}

pub record MadeAlike (m n : Making) : Type 0 where
  pub kind : m.state.kind ≡ n.state.kind
  pub taken : (c : Cell) → m.state.takes c ≡ n.state.takes c
  pub key_kinds : m.order.kinds ≡ n.order.kinds
  pub keys_taken : (j : ℕ) (c : Cell) → m.order.takes j c ≡ n.order.takes j c
  pub relation : (a b : List Cell) → m.order.leq a b ≡ n.order.leq a b
  pub first : m.first ≡ n.first
  pub ignore_nulls : m.ignore_nulls ≡ n.ignore_nulls

abbrev pub held : Making → List (Call × Outputs) → List (Option Row)
held m past = winners m (book_after m [] past)

abbrev pub drawn : Making → List (Call × Outputs) → List (Call × Outputs) → List Answer
drawn m past further = answers m (book_after m [] past) further

pub record RowsAgree (r s : Row) : Type 0 where
  pub value : r.value ≡ s.value
  pub key : r.key ≡ s.key

abbrev pub WinnersAgree : Option Row → Option Row → Type 0
WinnersAgree None None = Unit {0}
WinnersAgree None (Some s) = ⊥
WinnersAgree (Some r) None = ⊥
WinnersAgree (Some r) (Some s) = RowsAgree r s

pub record HoldAlike (ws vs : List (Option Row)) : Type 0 where
  pub as_many : length ws ≡ length vs
  pub winners : (i : ℕ) → i < length ws → WinnersAgree (slice_index_or ws i None) (slice_index_or vs i None)

abbrev pub AnswerAlike : Making → List (Call × Outputs) → Making → List (Call × Outputs) → Type 0
AnswerAlike m past n past' = (further : List (Call × Outputs)) → All Passable further → drawn m past further ≡ drawn n past' further

abbrev pub WinnersDecide : Type 0
WinnersDecide =
    (m n : Making) → Lawful m → MadeAlike m n → (past past' : List (Call × Outputs)) → HoldAlike (held m past) (held n past') ↔ AnswerAlike m past n past'
