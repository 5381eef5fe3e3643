use Rattle.ungrouped.proofs.Reached.{keeps_best}
use Rattle.ungrouped.proofs.accumulators.ValueAccumulator.is_set.Goals as goal

pub returns-clause-best : goal.returns-clause-best
returns-clause-best g c = keeps_best g.met.S.ValueState.lawful g.met.O.RowOrder.lawful c.args.self.now.single
