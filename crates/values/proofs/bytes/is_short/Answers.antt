use Rattle.std.proofs.Common.{sym, ap, ◌∙◌}
use Rattle.std.specs.Option.{option_map}
use Rattle.column.specs.Cells.{text_cell}
use Rattle.column.specs.Columns.{octets}
use Rattle.tables.specs.Delivered.{takes_text}
use Rattle.tables.proofs.Strings.{octets_taken}
use Rattle.values.proofs.bytes.is_short.Goals as goal

pub returns-in-Some : goal.returns-in-Some
returns-in-Some c = sym (octets_taken c.in-Some.bytes.now) ∙ ap (λ o. takes_text (text_cell (option_map octets o))) c.in-Some.ensures
