use Rattle.std.proofs.Common.{ap, ◌∙◌}
use Rattle.column.specs.Seen.{column_seen}
use Rattle.keeping.proofs.Checking.{order_kind_is}
use Rattle.faults.specs.Reported.{declined_seen, placed}
use Rattle.faults.specs.declared.Refusal.TheVariants.{Order}
use Rattle.faults.proofs.Whole.{placed_whole}
use Rattle.keeping.proofs.kinds.order_kind.Goals as goal

pub returns : goal.returns
returns g c = ap declined_seen (placed_whole Order _ _ _ _ c.located.ensures ∙ ap (λ x. placed Order x c.of_key.result 0) c.reads_named.ensures) ∙ order_kind_is _ c.args.j (column_seen c.args.column.now) c.of_key.result c.requires c.of_key.ensures
