-- Cases: worked cases as one table, through the bytes of columns.
--   n, cells_row, row     a number cell; the row of a value and one key; the same of two numbers
--   column, flag_column   columns that show these cells or truth values; a null flag stands over a true bit, which must not count
--   text_column           a column that shows these byte strings
--   not_false             the bit under a flag: a null flag has a true one
--   given_by              a value column of numbers and the columns that are read as keys, the first of three
--   batch, one            rows with a group for each and a total; rows that are all of group 0, with the total 1
--   rows_alone            rows without groups
--   made                  an accumulator of numbers by one number key: FIRST or not, null values ignored or not, and how keys are sorted
--   made_by_text          the same by one key of byte strings, ascending
--   alone                 an ungrouped accumulator made so, its input not said to arrive in order
--   ascending, descending_nulls_first   two ways to sort keys, the first with nulls last
--   FIRST, LAST           made so, by ascending keys
--   blank_parts, blank, bare   buffers of 255s with room for two rows; buffers of no bytes
--   Case                  of a grouped accumulator how it is made, the buffers of each call, the calls with what each results in, and the winners at the end; of an ungrouped one the same with the row that is held at the end, if one is; or every byte that a call writes behind one batch
--   case, bare_case       a case whose calls have blank buffers, and one whose calls have buffers of no bytes
--   taken, filtered, merged   an update without a filter, one with a filter, and a merge with flags, which are done
--   taken_alone           an update without groups, which is done
--   null_then_7, three, null_among_keys, grow_to   batches: a null with the smaller key and then 7; three groups with a row each; a null among keys; no rows, up to a total
--   tied                  two rows with the largest key, and one below it
--   ab, abc               two byte strings, the first a proper prefix of the other
--   two_held, most_held   two groups, and 256, are taken in, and what is then declined
--   cases                 the table
--   calls, calls_alone    the calls of a case with their buffers
--   ComesOut              from nothing on, the calls result in what the case says, and its winners, or its held row, are there at the end; or the bytes are these
--   bytes_by              every output byte of a call of a FIRST that took one batch before, over blank buffers
--   front                 one row at the front of blank buffers: the byte of its validity bit, and its eight bytes
use Rattle.std.specs.Prelude.{◌≡◌, ℕ, Bool, true, false, List, [], ◌∷◌, ◌++◌, map, length, replicate, pos, Some, None, Option, slice_index_or}
use Rattle.column.specs.Cells.{numbers, strings, Cell, null, number, text}
use Rattle.column.specs.Columns.{Column, Flags}
use Rattle.column.specs.Faults.{fault, TOTAL, SPACE, FLAGS, SHRUNK, FEWER, EMPTY, in_state, in_accumulator}
use Rattle.layout.specs.Layout.{Parts, laid_out, laid_flags, packed}
use Rattle.tables.specs.declared.Sorting.{Sorting}
use Rattle.tables.specs.Meaning.{state_of}
use Rattle.tables.specs.Delivered.{number_state, number_order, text_order}
use Rattle.book.specs.Winners.{Row, Making, winners}
use Rattle.book.specs.Batches.{Given, Batch}
use Rattle.book.specs.Declines.{own}
use Rattle.book.specs.Emission.{all, first, Outputs}
use Rattle.ungrouped.specs.Rows.{Alone}
use Rattle.ungrouped.specs.Held.{shown_row}
use Rattle.ungrouped.specs.Calls as Ungrouped
use Rattle.book.specs.Calls.{Call, update, merge, evaluate, state, Result, done, dropped, refused, Answer, answer, answers, book_after}

-- Rows and columns

abbrev pub n : ℕ → Cell
n k = number (pos k)

abbrev pub cells_row : Cell → Cell → Row
cells_row v k = record { value = v; key = k ∷ [] }

abbrev pub row : ℕ → ℕ → Row
row v k = cells_row (n v) (n k)

abbrev pub column : List Cell → Column
column cs = record { kind = numbers; rows = length cs; validity = (laid_out numbers cs).validity; offsets = []; content = (laid_out numbers cs).content }

abbrev pub not_false : Option Bool → Bool
not_false None = true
not_false (Some b) = b

abbrev pub text_column : List (List ℕ) → Column
text_column bs =
    let laid = laid_out strings (map text bs) in
    record { kind = strings; rows = length bs; validity = laid.validity; offsets = laid.offsets; content = laid.content }

abbrev pub flag_column : List (Option Bool) → Flags
flag_column fs = record { rows = length fs; validity = (laid_flags fs).validity; bits = packed (map not_false fs) }

abbrev pub given_by : List Row → Column → Given
given_by rs key = record { value = column (map (λ r. r.value) rs); orders = key ∷ column [] ∷ column [] ∷ []; count = 1 }

abbrev pub rows_alone : List Row → Given
rows_alone rs = given_by rs (column (map (λ r. slice_index_or r.key 0 null) rs))

abbrev pub batch : List Row → List ℕ → ℕ → Batch
batch rs groups total = record { columns = rows_alone rs; indices = groups; total = total }

abbrev pub one : List Row → Batch
one rs = batch rs (replicate (length rs) 0) 1

-- Accumulators and buffers

abbrev pub ascending : Sorting
ascending = record { descending = false; nulls_first = false }

abbrev pub descending_nulls_first : Sorting
descending_nulls_first = record { descending = true; nulls_first = true }

abbrev pub made : Bool → Bool → Sorting → Making
made is_first ignoring sorting = record { state = state_of number_state; order = number_order (sorting ∷ []); first = is_first; ignore_nulls = ignoring }

abbrev pub made_by_text : Bool → Making
made_by_text is_first = record { state = state_of number_state; order = text_order ascending; first = is_first; ignore_nulls = false }

abbrev pub alone : Making → Alone
alone m = record { making = m; in_order = false }

abbrev pub FIRST : Making
FIRST = made true false ascending

abbrev pub LAST : Making
LAST = made false false ascending

abbrev pub blank_parts : Parts
blank_parts = record { validity = 255 ∷ 255 ∷ []; offsets = 255 ∷ 255 ∷ 255 ∷ []; content = replicate 16 255 }

abbrev pub blank : Outputs
blank = record { values = blank_parts; keys = blank_parts ∷ blank_parts ∷ blank_parts ∷ []; flags = record { validity = 255 ∷ 255 ∷ []; bits = 255 ∷ 255 ∷ [] } }

abbrev pub bare : Outputs
bare = record { values = record { validity = []; offsets = []; content = [] }; keys = []; flags = record { validity = []; bits = [] } }

-- The table

pub data Case : Type 0 where
  grouped : Making → Outputs → List (Call × Result) → List (Option Row) → Case
  ungrouped : Alone → List (Ungrouped.Call × Result) → Option Row → Case
  written : Batch → Call → Outputs → Case

abbrev pub case : Making → List (Call × Result) → List (Option Row) → Case
case m steps ends = grouped m blank steps ends

abbrev pub bare_case : Making → List (Call × Result) → List (Option Row) → Case
bare_case m steps ends = grouped m bare steps ends

abbrev pub taken : Batch → Call × Result
taken b = (update b None, done)

abbrev pub filtered : Batch → List (Option Bool) → Call × Result
filtered b fs = (update b (Some (flag_column fs)), done)

abbrev pub merged : Batch → List (Option Bool) → Call × Result
merged b fs = (merge b (flag_column fs), done)

abbrev pub taken_alone : List Row → Ungrouped.Call × Result
taken_alone rs = (Ungrouped.update (rows_alone rs), done)

-- two rows with the largest key, and one below it
abbrev pub tied : List Row
tied = row 10 5 ∷ row 20 5 ∷ row 30 3 ∷ []

abbrev pub ab : List ℕ
ab = 97 ∷ 98 ∷ []

abbrev pub abc : List ℕ
abc = 97 ∷ 98 ∷ 99 ∷ []

-- a null value with the smaller key, then 7
abbrev pub null_then_7 : Batch
null_then_7 = one (cells_row null (n 1) ∷ row 7 2 ∷ [])

-- three groups with one row each
abbrev pub three : Batch
three = batch (row 10 5 ∷ row 20 5 ∷ row 30 5 ∷ []) (0 ∷ 1 ∷ 2 ∷ []) 3

-- group 0 with a null among its keys, and group 1 with numbers alone
abbrev pub null_among_keys : Batch
null_among_keys = batch (row 10 5 ∷ cells_row (n 20) null ∷ row 30 7 ∷ row 40 5 ∷ row 50 7 ∷ []) (0 ∷ 0 ∷ 0 ∷ 1 ∷ 1 ∷ []) 2

-- no rows
abbrev pub grow_to : ℕ → Batch
grow_to total = batch [] [] total

abbrev pub two_held : List (Call × Result)
two_held =
    taken (batch (row 10 5 ∷ row 20 5 ∷ []) (0 ∷ 1 ∷ []) 2)
    ∷ (update (grow_to 1) None, refused (own SHRUNK))
    ∷ (evaluate (first 3), refused (own FEWER))
    ∷ (state (first 0), refused (own EMPTY)) ∷ []

abbrev pub most_held : List (Call × Result)
most_held =
    taken (grow_to 256)
    ∷ (update (grow_to 257) None, refused (own TOTAL))
    ∷ (state all, refused (fault SPACE in_state 0 0))
    ∷ (evaluate all, refused (fault SPACE in_state 0 0)) ∷ []

abbrev pub bytes_by : Batch → Call → Outputs
bytes_by b c = (answer FIRST (book_after FIRST [] ((update b None, blank) ∷ [])) c blank).outputs

-- one row at the front of blank buffers: the byte of its validity bit, and its eight bytes
abbrev pub front : ℕ → List ℕ → Parts
front bit bytes = record { validity = bit ∷ 255 ∷ []; offsets = blank_parts.offsets; content = bytes ++ replicate 8 255 }

abbrev pub cases : List Case
cases =
    -- FIRST keeps the smallest key, and the earliest row that has it
    case FIRST (taken (one (row 10 5 ∷ row 20 3 ∷ row 30 3 ∷ [])) ∷ []) (Some (row 20 3) ∷ [])
    -- LAST keeps the largest key, and again the earliest row that has it
    ∷ case LAST (taken (one tied) ∷ []) (Some (row 10 5) ∷ [])
    -- without groups LAST keeps the latest row of a batch that has it
    ∷ ungrouped (alone LAST) (taken_alone tied ∷ []) (Some (row 20 5))
    -- a later batch with an equal key replaces nothing
    ∷ case LAST (taken (one (row 10 5 ∷ [])) ∷ taken (one (row 20 5 ∷ [])) ∷ []) (Some (row 10 5) ∷ [])
    -- and so without groups
    ∷ ungrouped (alone LAST) (taken_alone (row 10 5 ∷ []) ∷ taken_alone (row 20 5 ∷ []) ∷ []) (Some (row 10 5))
    -- a null in the filter admits no row: the group is there, and unset
    ∷ case FIRST (filtered (one (row 10 5 ∷ [])) (None ∷ []) ∷ []) (None ∷ [])
    -- a false in the filter leaves out the row that would win
    ∷ case FIRST (filtered (one (row 10 5 ∷ row 20 3 ∷ [])) (Some true ∷ Some false ∷ []) ∷ []) (Some (row 10 5) ∷ [])
    -- a null value wins by its key: the group is set, with null
    ∷ case FIRST (taken null_then_7 ∷ []) (Some (cells_row null (n 1)) ∷ [])
    -- where null values are ignored it does not
    ∷ case (made true true ascending) (taken null_then_7 ∷ []) (Some (row 7 2) ∷ [])
    -- a merge leaves out the row whose flag is null
    ∷ case FIRST (merged (one (row 10 1 ∷ row 20 2 ∷ [])) (None ∷ Some true ∷ []) ∷ []) (Some (row 20 2) ∷ [])
    -- a merge without groups is refused at a null flag, and nothing is held
    ∷ ungrouped (alone FIRST) ((Ungrouped.merge (rows_alone (row 10 1 ∷ row 20 2 ∷ [])) (flag_column (None ∷ Some true ∷ [])), refused (fault FLAGS in_accumulator 4 0)) ∷ []) None
    -- descending with nulls first: the null key comes first, and then the larger number
    ∷ case (made true false descending_nulls_first) (taken null_among_keys ∷ []) (Some (cells_row (n 20) null) ∷ Some (row 50 7) ∷ [])
    -- a byte string comes before a longer one that begins with it
    ∷ case (made_by_text true) (taken (record { columns = given_by (row 20 0 ∷ row 10 0 ∷ []) (text_column (abc ∷ ab ∷ [])); indices = 0 ∷ 0 ∷ []; total = 1 }) ∷ []) (Some (cells_row (n 10) (text ab)) ∷ [])
    -- evaluating the first of three groups drops it: what was group 1 is now group 0
    ∷ case FIRST (taken three ∷ (evaluate (first 1), dropped 1) ∷ []) (Some (row 20 5) ∷ Some (row 30 5) ∷ [])
    -- and it gives 10; no byte of a key or a flag changes
    ∷ written three (evaluate (first 1)) (record { values = front 1 (10 ∷ 0 ∷ 0 ∷ 0 ∷ 0 ∷ 0 ∷ 0 ∷ 0 ∷ []); keys = blank.keys; flags = blank.flags })
    -- the state of a group that holds null with the key 1: a set flag, and no byte of the second and third key changes
    ∷ written null_then_7 (state all) (record {
      values = front 0 (replicate 8 0);
      keys = front 1 (1 ∷ 0 ∷ 0 ∷ 0 ∷ 0 ∷ 0 ∷ 0 ∷ 0 ∷ []) ∷ blank_parts ∷ blank_parts ∷ [];
      flags = record { validity = 1 ∷ 255 ∷ []; bits = 1 ∷ 255 ∷ [] };
    })
    -- where two groups are held, a total of 1, evaluating the first three and the state of none are refused, and both groups stay
    ∷ case FIRST two_held (Some (row 10 5) ∷ Some (row 20 5) ∷ [])
    -- there may be 256 groups and no more, and none leaves where its value has no room
    ∷ bare_case FIRST most_held (replicate 256 None)
    ∷ []

abbrev pub calls : Outputs → List (Call × Result) → List (Call × Outputs)
calls o steps = map (λ s. (s.0, o)) steps

abbrev pub calls_alone : List (Ungrouped.Call × Result) → List (Ungrouped.Call × Outputs)
calls_alone steps = map (λ s. (s.0, blank)) steps

abbrev pub ComesOut : Case → Type 0
ComesOut (grouped m o steps ends) =
    (map (λ (a : Answer). a.result) (answers m [] (calls o steps)) ≡ map (λ s. s.1) steps)
    × (winners m (book_after m [] (calls o steps)) ≡ ends)
ComesOut (ungrouped a steps end) =
    (map (λ (x : Answer). x.result) (Ungrouped.answers a None (calls_alone steps)) ≡ map (λ s. s.1) steps)
    × (shown_row (Ungrouped.held_after a (calls_alone steps)) ≡ end)
ComesOut (written b c bytes) = bytes_by b c ≡ bytes
