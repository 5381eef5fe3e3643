-- Names: how a scenario names what it speaks of.
--   kind_name     a kind
--   sorting_text  an option, by whether it is descending and whether nulls come first
--   sorting_name  an option of an order column
--   side_name     FIRST where true, else LAST
--   form_name     whether an accumulator is of groups or alone
--   policy_words  whether nulls are ignored, and whether rows come in order
--   mark_name     a truth value's cell: its bit, and whether it is known
--   column_name   an output column
--   buffer_name   a buffer of a column
--   is_flags, has_buffer   the column of flags, and which buffers an output column has
--   part_name     an output part
--   single_name, call_name   the first word of a call's line, without groups and with them or without
--   command_name  the first word of a command's line
use Rattle.std.specs.Prelude.{ℕ, Bool, true, false, not, List, [], ◌∷◌, ◌++◌, codes}
use Rattle.column.specs.declared.Kind.{Kind}
use Rattle.column.specs.declared.Kind.TheVariants.{Number, Bytes, Record}
use Rattle.tables.specs.declared.Sorting.{Sorting}
use Rattle.scenario.specs.declared.makings.Form.{Form}
use Rattle.scenario.specs.declared.makings.Form.TheVariants as form
use Rattle.scenario.specs.declared.rooms.OutputColumn.{OutputColumn}
use Rattle.scenario.specs.declared.rooms.OutputColumn.TheVariants.{Values, FirstKey, SecondKey, ThirdKey, Flags}
use Rattle.scenario.specs.declared.rooms.Buffer.{Buffer}
use Rattle.scenario.specs.declared.rooms.Buffer.TheVariants.{Validity, Offsets, Data, Bits}
use Rattle.scenario.specs.declared.rooms.OutputPart.{OutputPart}
use Rattle.scenario.specs.declared.calls.Call.{Call}
use Rattle.scenario.specs.declared.calls.Call.TheVariants.{Update, Merge, Convert, Evaluate, State, Single}
use Rattle.scenario.specs.declared.alone.SingleCall.{SingleCall}
use Rattle.scenario.specs.declared.alone.SingleCall.TheVariants as single
use Rattle.scenario.specs.declared.commands.Command.{Command}
use Rattle.scenario.specs.declared.commands.Command.TheVariants as command

abbrev pub kind_name : Kind → List ℕ
kind_name Number = codes "number"
kind_name Bytes = codes "bytes"
kind_name Record = codes "record"

abbrev pub sorting_text : Bool → Bool → List ℕ
sorting_text false false = codes "asc-last"
sorting_text false true = codes "asc-first"
sorting_text true false = codes "desc-last"
sorting_text true true = codes "desc-first"

abbrev pub sorting_name : Sorting → List ℕ
sorting_name s = sorting_text s.descending s.nulls_first

abbrev pub side_name : Bool → List ℕ
side_name true = codes "first"
side_name false = codes "last"

abbrev pub form_name : Form → List ℕ
form_name form.Grouped = codes "grouped"
form_name (form.Single pre_ordered) = codes "single"

abbrev pub policy_words : Bool → Bool → List (List ℕ)
policy_words false false = []
policy_words false true = codes "pre-ordered" ∷ []
policy_words true false = codes "ignore-nulls" ∷ []
policy_words true true = codes "ignore-nulls" ∷ codes "pre-ordered" ∷ []

abbrev pub mark_name : Bool → Bool → List ℕ
mark_name true true = codes "1"
mark_name false true = codes "0"
mark_name false false = codes "-"
mark_name true false = codes "n"

abbrev pub column_name : OutputColumn → List ℕ
column_name Values = codes "values"
column_name FirstKey = codes "key1"
column_name SecondKey = codes "key2"
column_name ThirdKey = codes "key3"
column_name Flags = codes "flags"

abbrev pub buffer_name : Buffer → List ℕ
buffer_name Validity = codes "validity"
buffer_name Offsets = codes "offsets"
buffer_name Data = codes "data"
buffer_name Bits = codes "bits"

abbrev pub is_flags : OutputColumn → Bool
is_flags Values = false
is_flags FirstKey = false
is_flags SecondKey = false
is_flags ThirdKey = false
is_flags Flags = true

abbrev pub has_buffer : OutputColumn → Buffer → Bool
has_buffer c Validity = true
has_buffer c Offsets = not (is_flags c)
has_buffer c Data = not (is_flags c)
has_buffer c Bits = is_flags c

abbrev pub part_name : OutputPart → List ℕ
part_name p = column_name p.column ++ 46 ∷ buffer_name p.buffer

abbrev pub single_name : SingleCall → List ℕ
single_name (single.Update columns) = codes "update"
single_name (single.Merge columns flags) = codes "merge"
single_name (single.Evaluate room) = codes "evaluate"
single_name (single.State room) = codes "state"

abbrev pub call_name : Call → List ℕ
call_name (Single c) = single_name c
call_name (Update batch filter) = codes "update"
call_name (Merge batch flags) = codes "merge"
call_name (Convert columns filter room) = codes "convert"
call_name (Evaluate leaving room) = codes "evaluate"
call_name (State leaving room) = codes "state"

abbrev pub command_name : Command → List ℕ
command_name (command.Make m) = codes "make"
command_name (command.Open list) = codes "open"
command_name (command.Call c) = call_name c
