-- Cells: how a scenario writes columns.
--   IsField      a field of a record: a number, or `_` where it is absent
--   IsCell       a cell of a column of a kind: its number, bytes, or three fields parted by slashes; or `null`
--   kind_number  the number that the library knows a kind by
--   OffsetsReach   numbers of 32 bits say where each byte string ends
--   Holds        the parts of a column of these cells: as they are laid out, but that there are no validity bytes where no cell is null
--   PartsText    the five parts of a column, each under its name
--   Names        a name in front of the cells names their kind; without one it is the kind that is read
--   ColumnText   a column by its parts between braces, or by its cells between square brackets
--   Marked       the column of truth values of these cells, each a bit and whether it is known
--   MarkParts    the three parts of a column of truth values, each under its name
--   MarksText    a column of truth values by its parts or by its cells
use Rattle.std.specs.Prelude.{◌≡◌, ℕ, ◌<◌, ◌^◌, ℤ, Bool, not, List, [], ◌∷◌, ◌++◌, map, length, Some, None, Option, codes, ◌⊎◌}
use Rattle.std.specs.List.{AllZip, flat_map}
use Rattle.column.specs.Cells as cells
use Rattle.column.specs.Seen.{kind_seen}
use Rattle.column.specs.declared.Kind.{Kind}
use Rattle.layout.specs.Layout.{laid_out, packed, string_content}
use Rattle.scenario.specs.declared.pieces.Parts.{Parts}
use Rattle.scenario.specs.declared.marking.Marks.{Marks}
use Rattle.scenario.specs.Names.{kind_name, mark_name}
use Rattle.scenario.specs.Packing.{validity_bytes}
use Rattle.scenario.specs.Texts.{IsCount, IsInteger, IsBytes, IsBytesOrNone, IsCountsOrNone, enclosed, field}
use Rattle.scenario.specs.Words.{words}

abbrev pub IsField : List ℕ → Option ℤ → Type 0
IsField t None = t ≡ codes "_"
IsField t (Some z) = IsInteger t z

abbrev pub IsCell : cells.Kind → List ℕ → cells.Cell → Type 0
IsCell k t cells.null = t ≡ codes "null"
IsCell k t (cells.number z) = (k ≡ cells.numbers) × IsInteger t z
IsCell k t (cells.text bs) = (k ≡ cells.strings) × IsBytes t bs
IsCell k t (cells.fields a b c) = (k ≡ cells.records) × (first second third : List ℕ) × (t ≡ first ++ 47 ∷ (second ++ 47 ∷ third)) × IsField first a × IsField second b × IsField third c

abbrev pub kind_number : cells.Kind → ℕ
kind_number cells.numbers = 1
kind_number cells.strings = 2
kind_number cells.records = 3

abbrev pub OffsetsReach : cells.Kind → List cells.Cell → Type 0
OffsetsReach cells.numbers cs = Unit {0}
OffsetsReach cells.strings cs = length (flat_map string_content cs) < 2 ^ 32
OffsetsReach cells.records cs = Unit {0}

abbrev pub Holds : cells.Kind → List cells.Cell → Parts → Type 0
Holds k cs p =
    OffsetsReach k cs × (p.kind ≡ kind_number k) × (p.rows ≡ length cs) × (p.validity.items ≡ validity_bytes (map (λ c. not (cells.is_null c)) cs))
    × (p.offsets.items ≡ (laid_out k cs).offsets) × (p.«data».items ≡ (laid_out k cs).content)

abbrev pub PartsText : List (List ℕ) → Parts → Type 0
PartsText ws p = (kind rows validity offsets content : List ℕ)
    × (ws ≡ field (codes "kind") kind ∷ field (codes "rows") rows ∷ field (codes "validity") validity ∷ field (codes "offsets") offsets ∷ field (codes "data") content ∷ [])
    × IsCount 32 kind p.kind × IsCount 64 rows p.rows × IsBytesOrNone validity p.validity.items × IsCountsOrNone 32 offsets p.offsets.items × IsBytes content p.«data».items

abbrev pub Names : Kind → List ℕ → Kind → Type 0
Names read name k = ((name ≡ []) × (k ≡ read)) ⊎ (name ≡ kind_name k)

abbrev pub ColumnText : Kind → List ℕ → Parts → Type 0
ColumnText read t p =
    ((inner : List ℕ) × (t ≡ enclosed (123 ∷ []) (125 ∷ []) inner) × PartsText (words inner) p)
    ⊎ ((name inner : List ℕ) × (k : Kind) × (cs : List cells.Cell) × (t ≡ name ++ enclosed (91 ∷ []) (93 ∷ []) inner) × Names read name k × AllZip (IsCell (kind_seen k)) (words inner) cs × Holds (kind_seen k) cs p)

abbrev pub Marked : List (Bool × Bool) → Marks → Type 0
Marked cs m = (m.rows ≡ length cs) × (m.bits.items ≡ packed (map (λ c. c.0) cs)) × (m.validity.items ≡ validity_bytes (map (λ c. c.1) cs))

abbrev pub MarkParts : List (List ℕ) → Marks → Type 0
MarkParts ws m = (rows bits validity : List ℕ)
    × (ws ≡ field (codes "rows") rows ∷ field (codes "bits") bits ∷ field (codes "validity") validity ∷ [])
    × IsCount 64 rows m.rows × IsBytes bits m.bits.items × IsBytesOrNone validity m.validity.items

abbrev pub MarksText : List ℕ → Marks → Type 0
MarksText t m =
    ((inner : List ℕ) × (t ≡ enclosed (123 ∷ []) (125 ∷ []) inner) × MarkParts (words inner) m)
    ⊎ ((inner : List ℕ) × (cs : List (Bool × Bool)) × (t ≡ enclosed (91 ∷ []) (93 ∷ []) inner) × (words inner ≡ map (λ c. mark_name c.0 c.1) cs) × Marked cs m)
