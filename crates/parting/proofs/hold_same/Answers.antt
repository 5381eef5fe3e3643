use Rattle.parting.proofs.Ending.{ties_decide_of}
use Rattle.parting.proofs.hold_same.Goals as goal

pub returns-in-true-true-clause-ties : goal.returns-in-true-true-clause-ties
returns-in-true-true-clause-ties g c = ties_decide_of g.met.S.ValueState.lawful g.met.O.RowOrder.lawful c.args.grouped.now c.args.last.now.single

pub returns-in_default-clause-ties : goal.returns-in_default-clause-ties
returns-in_default-clause-ties g c = ties_decide_of g.met.S.ValueState.lawful g.met.O.RowOrder.lawful c.args.grouped.now c.args.last.now.single
