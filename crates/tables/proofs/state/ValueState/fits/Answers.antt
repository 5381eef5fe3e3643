use Rattle.std.proofs.Common.{true, false}
use Rattle.layout.specs.Written.{parts_seen}
use Rattle.tables.specs.declared.StateFault.TheVariants as state
use Rattle.tables.specs.Refusals.{writing}
use Rattle.tables.proofs.Declining.{exits}
use Rattle.tables.proofs.Provided.{first_stops, room_answer}
use Rattle.tables.proofs.state.ValueState.fits.Goals as goal

pub returns-in_err-space : goal.returns-in_err-space
unfolding writing
returns-in_err-space g c = exits _ _ _ _ _ c.from_residual.ensures.1 (first_stops _ _ _ _ (tt {0}) c.in_err-space.ensures)

pub returns-then-not-fits : goal.returns-then-not-fits
unfolding writing
returns-then-not-fits g c = room_answer _ _ _ (parts_seen c.args.out.now) state.Space false c.in_ok-space.ensures c.if-not-fits.ensures

pub returns : goal.returns
unfolding writing
returns g c = room_answer _ _ _ (parts_seen c.args.out.now) state.Space true c.in_ok-space.ensures c.if-not-fits.ensures
