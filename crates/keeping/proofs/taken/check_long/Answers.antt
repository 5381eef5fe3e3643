use Rattle.std.proofs.Common.{rules, ◌∙◌}
use Rattle.std.proofs.iter.Serving.{serving}
use Rattle.book.specs.Batches.{order_columns}
use Rattle.book.specs.Declines.{long}
use Rattle.keeping.proofs.Checking.{exits, first_some, first_then, kind_parts}
use Rattle.keeping.proofs.Walking.{long_alike, unread_at}
use Rattle.keeping.specs.Seen.{given_seen, reading}
use Rattle.keeping.proofs.taken.check_long.Goals as goal

pub value_taken-requires : goal.value_taken-requires
value_taken-requires g c = (kind_parts (reading (g.S.GroupTable.settings c.args.state.now) (g.O.GroupTable.settings c.args.order.now)) (given_seen c.args.given.now) c.requires.kinds).0

pub returns-in_err-value_taken : goal.returns-in_err-value_taken
unfolding long
returns-in_err-value_taken g c = exits c.from_residual.result _ _ c.from_residual.ensures.1 (first_some _ _ _ c.in_err-value_taken.ensures)

pub at_column-requires : goal.at_column-requires
at_column-requires g c κs =
    let u = unread_at (reading (g.S.GroupTable.settings c.args.state.now) (g.O.GroupTable.settings c.args.order.now)) c.args.given.now c.requires.read c.requires.kinds in
    grind (serving, u)

pub returns : goal.returns
unfolding long
returns g c = first_then _ _ _ c.in_ok-value_taken.ensures
    (c.at_column.ensures _ (λ j k r h. search rules)
    ∙ long_alike (g.O.GroupTable.settings c.args.order.now).takes c.args.given.now.value.rows (order_columns (given_seen c.args.given.now)) 0 c.requires.alike)
