use Rattle.std.proofs.Common.{Some, Err, ap, ◌∙◌}
use Rattle.column.specs.Faults.{SPACE, fault, in_order}
use Rattle.faults.specs.Reported.{declined_seen}
use Rattle.faults.specs.declared.Refusal.TheVariants.{Order}
use Rattle.tables.specs.declared.OrderFault.TheVariants as order
use Rattle.faults.proofs.Whole.{placed_whole}
use Rattle.keeping.proofs.room.no_buffers.Goals as goal

pub returns : goal.returns
returns c = ap declined_seen (placed_whole Order (Err order.Space) c.of_key.result 0 _ c.located.ensures) ∙ ap (λ k. Some (fault SPACE in_order k 0)) c.of_key.ensures
