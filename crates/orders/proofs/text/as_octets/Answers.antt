use Rattle.column.proofs.Octets.{octets_same}
use Rattle.orders.proofs.text.as_octets.Goals as goal

pub returns-clause-bytes : goal.returns-clause-bytes
returns-clause-bytes c = octets_same c.args.bytes.now c.type_inv.bytes
