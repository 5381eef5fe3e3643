-- Passable: the calls that a program can make, by what the types of its numbers and buffers allow.
--   Slice       a slice of numbers of so many bits
--   no_parts, no_flag_parts   the buffers of a column, and of a column of truth values, where the call is given none
--   PassableColumn, PassableFlags, PassableMarks   a column, a column of truth values, and one that may be absent
--   PassableGiven, PassableBatch   the columns of a call, with an array of three order columns and a count; a batch
--   PassableTo  how many groups leave
--   PassableCall   a call with such arguments
--   PassableParts, PassableFlagParts   the caller's buffers for a column, and for one of truth values
--   PassableOutputs   the buffers that a call is given: none for a batch, flags for a conversion, values for `evaluate`, and values, three keys and flags for `state`
--   Passable    a call with its buffers
use Rattle.std.specs.Prelude.{◌≡◌, ℕ, ◌<◌, ◌^◌, List, [], length, All, Some, None, Option}
use Rattle.column.specs.Columns.{Column, Flags}
use Rattle.layout.specs.Layout.{Parts, FlagParts}
use Rattle.book.specs.Batches.{Given, Batch}
use Rattle.book.specs.Emission.{To, all, first, Outputs}
use Rattle.book.specs.Calls.{Call, update, merge, convert, evaluate, state}

pub record Slice (bits : ℕ) (xs : List ℕ) : Type 0 where
  pub elements : All (λ x. x < 2 ^ bits) xs
  pub size : length xs < 2 ^ 64

-- Arguments

pub record PassableColumn (c : Column) : Type 0 where
  pub rows : c.rows < 2 ^ 64
  pub validity : Slice 8 c.validity
  pub offsets : Slice 32 c.offsets
  pub content : Slice 8 c.content

pub record PassableFlags (f : Flags) : Type 0 where
  pub rows : f.rows < 2 ^ 64
  pub validity : Slice 8 f.validity
  pub bits : Slice 8 f.bits

abbrev pub PassableMarks : Option Flags → Type 0
PassableMarks None = Unit {0}
PassableMarks (Some f) = PassableFlags f

pub record PassableGiven (g : Given) : Type 0 where
  pub value : PassableColumn g.value
  pub orders : All PassableColumn g.orders
  pub three : length g.orders ≡ 3
  pub count : g.count < 2 ^ 64

pub record PassableBatch (b : Batch) : Type 0 where
  pub columns : PassableGiven b.columns
  pub indices : Slice 64 b.indices
  pub total : b.total < 2 ^ 64

abbrev pub PassableTo : To → Type 0
PassableTo all = Unit {0}
PassableTo (first n) = n < 2 ^ 64

abbrev pub PassableCall : Call → Type 0
PassableCall (update b marks) = PassableBatch b × PassableMarks marks
PassableCall (merge b flags) = PassableBatch b × PassableFlags flags
PassableCall (convert g marks) = PassableGiven g × PassableMarks marks
PassableCall (evaluate to) = PassableTo to
PassableCall (state to) = PassableTo to

-- Buffers

abbrev pub no_parts : Parts
no_parts = record { validity = []; offsets = []; content = [] }

abbrev pub no_flag_parts : FlagParts
no_flag_parts = record { validity = []; bits = [] }

pub record PassableParts (p : Parts) : Type 0 where
  pub validity : Slice 8 p.validity
  pub offsets : Slice 32 p.offsets
  pub content : Slice 8 p.content

pub record PassableFlagParts (p : FlagParts) : Type 0 where
  pub validity : Slice 8 p.validity
  pub bits : Slice 8 p.bits

abbrev pub PassableOutputs : Call → Outputs → Type 0
PassableOutputs (update b marks) o = o ≡ record { values = no_parts; keys = []; flags = no_flag_parts }
PassableOutputs (merge b flags) o = o ≡ record { values = no_parts; keys = []; flags = no_flag_parts }
PassableOutputs (convert g marks) o = (o.values ≡ no_parts) × (o.keys ≡ []) × PassableFlagParts o.flags
PassableOutputs (evaluate to) o = PassableParts o.values × (o.keys ≡ []) × (o.flags ≡ no_flag_parts)
PassableOutputs (state to) o = PassableParts o.values × All PassableParts o.keys × (length o.keys ≡ 3) × PassableFlagParts o.flags

abbrev pub Passable : Call × Outputs → Type 0
Passable c = PassableCall c.0 × PassableOutputs c.0 c.1
