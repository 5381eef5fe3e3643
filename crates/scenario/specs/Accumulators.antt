-- Accumulators: what an accumulator is made of, and what it reads.
--   key_kind, key_count  the kind of an order's keys, and how many it reads
--   is_alone       an accumulator without groups
--   reads_of       what an accumulator reads, by its making
--   options_text   the first so many options, parted by commas
--   Writes         a text writes an order: of text, or of the first one to three of its three options for numbers
--   pre_ordered    whether rows come in order, which groups' do not
--   Makes          these words, behind a command's, ask for an accumulator made so
--   Opens          these words, behind a command's, are a list of these group numbers
--   Proper         these words, behind a command's, ask for it; for a call where an accumulator is made
use Rattle.std.specs.Prelude.{◌≡◌, ℕ, ◌≤◌, Bool, true, false, List, [], ◌∷◌, ◌++◌, take, map, length, codes, Option, Some}
use Rattle.std.specs.List.{join_with_byte}
use Rattle.column.specs.declared.Kind.{Kind}
use Rattle.column.specs.declared.Kind.TheVariants as kind
use Rattle.tables.specs.declared.Sorting.{Sorting}
use Rattle.scenario.specs.declared.Reads.{Reads}
use Rattle.scenario.specs.declared.makings.Form.{Form}
use Rattle.scenario.specs.declared.makings.Form.TheVariants.{Grouped, Single}
use Rattle.scenario.specs.declared.makings.Making.{Making}
use Rattle.scenario.specs.declared.makings.Order.{Order}
use Rattle.scenario.specs.declared.makings.Order.TheVariants.{Numbers, Text}
use Rattle.scenario.specs.declared.commands.Command.{Command}
use Rattle.scenario.specs.declared.commands.Command.TheVariants.{Make, Open, Call}
use Rattle.scenario.specs.Calls.{Asks}
use Rattle.scenario.specs.Texts.{IsCounts}
use Rattle.scenario.specs.Names.{sorting_name, form_name, side_name, kind_name, policy_words}

abbrev pub key_kind : Order → Kind
key_kind (Numbers sorts count) = kind.Number
key_kind (Text sort) = kind.Bytes

abbrev pub key_count : Order → ℕ
key_count (Numbers sorts count) = count
key_count (Text sort) = 1

abbrev pub is_alone : Form → Bool
is_alone Grouped = false
is_alone (Single pre_ordered) = true

abbrev pub reads_of : Making → Reads
reads_of m = record { alone = is_alone m.form; values = m.values; keys = key_kind m.order; count = key_count m.order }

abbrev pub options_text : List Sorting → ℕ → List ℕ
options_text sorts count = join_with_byte 44 (map sorting_name (take count sorts))

abbrev pub Writes : Order → List ℕ → Type 0
Writes (Numbers sorts count) t = (length sorts ≡ 3) × (1 ≤ count) × (count ≤ 3) × (t ≡ codes "number:" ++ options_text sorts count)
Writes (Text sort) t = t ≡ codes "text:" ++ sorting_name sort

abbrev pub pre_ordered : Form → Bool
pre_ordered Grouped = false
pre_ordered (Single ordered) = ordered

abbrev pub Makes : Making → List (List ℕ) → Type 0
Makes m ws = (order : List ℕ) × Writes m.order order × (ws ≡ form_name m.form ∷ side_name m.first ∷ kind_name m.values ∷ order ∷ policy_words m.ignore_nulls (pre_ordered m.form))

abbrev pub Opens : List ℕ → List (List ℕ) → Type 0
Opens list ws = (text : List ℕ) × (ws ≡ text ∷ []) × IsCounts 32 text list

abbrev pub Proper : Option Reads → Command → List (List ℕ) → Type 0
Proper reads (Make m) ws = Makes m ws
Proper reads (Open list) ws = Opens list.items ws
Proper reads (Call c) ws = (a : Reads) × (reads ≡ Some a) × Asks a ws c
