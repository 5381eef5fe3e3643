use Rattle.std.proofs.Common.{Some, sym, ap, ◌∙◌}
use Rattle.std.specs.Option.{option_map}
use Rattle.column.specs.Columns.{octets}
use Rattle.orders.proofs.text.read_text.Goals as goal

pub returns-in-Some : goal.returns-in-Some
returns-in-Some c = ap Some (sym c.as_octets.ensures.bytes ∙ ap octets c.as_octets.ensures.same) ∙ ap (option_map octets) c.in-Some.ensures
