-- Texts: what the text order holds, and how it is set.
--   text_key        a key of one byte string, or null
--   order_entries   a key for each held group
--   order_settings  a text order compares byte strings by the sorting of its one column
use Rattle.std.specs.Prelude.{List, [], ◌∷◌, map, Option}
use Rattle.column.specs.Cells.{Cell}
use Rattle.layout.specs.Written.{short_cell}
use Rattle.layout.specs.declared.short.ShortBytes.{ShortBytes}
use Rattle.tables.specs.Meaning.{Settings}
use Rattle.tables.specs.Delivered.{text_order}
use Rattle.orders.specs.declared.text.TextOrder.{TextOrder}

abbrev pub text_key : Option ShortBytes → List Cell
text_key k = short_cell k ∷ []

abbrev pub order_entries : TextOrder → List (List Cell)
order_entries o = map text_key o.keys

abbrev pub order_settings : TextOrder → Settings
order_settings o = text_order o.sort
