use Rattle.column.specs.Seen.{column_seen}
use Rattle.orders.proofs.Texts.{short_taken}
use Rattle.orders.proofs.text.is_short.Goals as goal

pub returns-in-Some : goal.returns-in-Some
returns-in-Some c = short_taken (column_seen c.args.column.now) c.args.row c.in-Some.bytes.now c.in-Some.ensures
