-- Fields: the fields of a call, in any order.
--   FieldName    what a field is
--   field_name   how it is named
--   IsFieldWord  a word is a field
--   text_behind  what stands behind this front of a text, if it has it
--   texts_named  the texts of the fields of a name among words, in their order
--   Texts        the texts of the fields: of each name one at most, but for keys
--   texts_of     the texts that the code has
--   held         the texts of a name
--   Gathers      the words are fields, and of each name their texts are these
use Rattle.std.specs.Prelude.{◌≡◌, ℕ, List, [], ◌∷◌, ◌++◌, ◌==◌, map, Some, None, Option, codes, if◌then◌else◌}
use Rattle.std.specs.List.{AllByRecursion}
use Rattle.std.specs.Option.{option_copied, option_to_list}
use Rattle.scenario.specs.declared.fields.Fields.{Fields}
use Rattle.scenario.specs.Texts.{field}

pub data FieldName : Type 0 where
  values key groups total filter flags room : FieldName

abbrev pub field_name : FieldName → List ℕ
field_name values = codes "values"
field_name key = codes "key"
field_name groups = codes "groups"
field_name total = codes "total"
field_name filter = codes "filter"
field_name flags = codes "flags"
field_name room = codes "room"

abbrev pub IsFieldWord : List ℕ → Type 0
IsFieldWord w = (name : FieldName) × (text : List ℕ) × (w ≡ field (field_name name) text)

abbrev pub text_behind : List ℕ → List ℕ → Option (List ℕ)
text_behind [] t = Some t
text_behind (b ∷ front) [] = None
text_behind (b ∷ front) (c ∷ rest) = if b == c then text_behind front rest else None

abbrev pub texts_named : FieldName → List (List ℕ) → List (List ℕ)
texts_named name [] = []
texts_named name (w ∷ ws) = option_to_list (text_behind (field (field_name name) []) w) ++ texts_named name ws

pub record Texts : Type 0 where
  pub values : Option (List ℕ)
  pub keys : List (List ℕ)
  pub groups : Option (List ℕ)
  pub total : Option (List ℕ)
  pub filter : Option (List ℕ)
  pub flags : Option (List ℕ)
  pub room : Option (List ℕ)

abbrev pub texts_of : Fields → Texts
texts_of f = record {
  values = option_copied f.values;
  keys = map (λ t. t.now) f.keys.items;
  groups = option_copied f.groups;
  total = option_copied f.total;
  filter = option_copied f.filter;
  flags = option_copied f.flags;
  room = option_copied f.room;
}

abbrev pub held : FieldName → Texts → List (List ℕ)
held values f = option_to_list f.values
held key f = f.keys
held groups f = option_to_list f.groups
held total f = option_to_list f.total
held filter f = option_to_list f.filter
held flags f = option_to_list f.flags
held room f = option_to_list f.room

abbrev pub Gathers : List (List ℕ) → Texts → Type 0
Gathers ws f = AllByRecursion IsFieldWord ws × ((name : FieldName) → texts_named name ws ≡ held name f)
