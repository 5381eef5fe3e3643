use Rattle.std.proofs.Common.{sym, ap}
use Rattle.column.specs.Cells.{text}
use Rattle.column.proofs.Octets.{octets_same}
use Rattle.column.proofs.view.text_view.Goals as goal

pub returns : goal.returns
returns c = ap text (sym (octets_same c.args.bytes.now c.type_inv.bytes))
