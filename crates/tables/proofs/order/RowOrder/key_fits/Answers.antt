use Rattle.std.proofs.Common.{true, false}
use Rattle.layout.specs.Written.{parts_seen}
use Rattle.tables.specs.declared.OrderFault.TheVariants as order
use Rattle.tables.specs.Refusals.{writing_key}
use Rattle.tables.proofs.Declining.{exits}
use Rattle.tables.proofs.Provided.{first_stops, room_answer}
use Rattle.tables.proofs.order.RowOrder.key_fits.Goals as goal

pub returns-in_err-key_space : goal.returns-in_err-key_space
unfolding writing_key
returns-in_err-key_space g c = exits _ _ _ _ _ c.from_residual.ensures.1 (first_stops _ _ _ _ (tt {0}) c.in_err-key_space.ensures)

pub returns-then-not-fits : goal.returns-then-not-fits
unfolding writing_key
returns-then-not-fits g c = room_answer _ _ _ (parts_seen c.args.out.now) order.Space false c.in_ok-key_space.ensures c.if-not-fits.ensures

pub returns : goal.returns
unfolding writing_key
returns g c = room_answer _ _ _ (parts_seen c.args.out.now) order.Space true c.in_ok-key_space.ensures c.if-not-fits.ensures
