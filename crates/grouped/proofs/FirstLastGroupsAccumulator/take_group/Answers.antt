use Rattle.std.proofs.Common.{length, sym, ◌∙◌}
use Rattle.column.specs.Seen.{marks_seen}
use Rattle.keeping.specs.Seen.{batch_seen}
use Rattle.grouped.specs.Walk.{row_of}
use Rattle.grouped.proofs.Holding.{lawful}
use Rattle.grouped.proofs.Gaining.{none_keeps, none_marked}
use Rattle.grouped.proofs.FirstLastGroupsAccumulator.take_group.Goals as goal

pub returns-in_default-clause-gains : goal.returns-in_default-clause-gains
returns-in_default-clause-gains g c =
    let a = c.args.self.now in
    none_keeps a (lawful a g.met.S.ValueState.lawful g.met.O.RowOrder.lawful) (batch_seen c.args.batch.now) (marks_seen c.args.batch.now.filter) c.args.g (length c.args.batch.now.indices.now) (row_of c.args.best.now c.args.g) (none_marked c.args.g _ (sym c.in_default.is ∙ c.pair.ensures)) c.requires.best
