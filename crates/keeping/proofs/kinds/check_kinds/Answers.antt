use Rattle.std.proofs.Common.{rules}
use Rattle.std.proofs.iter.Serving.{serving}
use Rattle.book.specs.Declines.{kind}
use Rattle.keeping.proofs.Checking.{exits, first_some, first_then}
use Rattle.keeping.proofs.Walking.{read_at}
use Rattle.keeping.specs.Seen.{reading}
use Rattle.keeping.proofs.kinds.check_kinds.Goals as goal

pub returns-in_err-value_kind : goal.returns-in_err-value_kind
unfolding kind
returns-in_err-value_kind g c = exits c.from_residual.result _ _ c.from_residual.ensures.1 (first_some _ _ _ c.in_err-value_kind.ensures)

pub at_column-requires : goal.at_column-requires
at_column-requires g c κs = let f = read_at (reading (g.S.GroupTable.settings c.args.state.now) (g.O.GroupTable.settings c.args.order.now)) c.args.given.now c.requires in grind (serving, f)

pub returns : goal.returns
unfolding kind
returns g c = first_then _ _ _ c.in_ok-value_kind.ensures (c.at_column.ensures _ (λ j k r h. search rules))
