use Rattle.std.proofs.Common.{refl}
use Rattle.scenario.specs.declared.alone.SingleCall.TheVariants.{Evaluate, State}
use Rattle.scenario.specs.declared.rooms.Room.TheVariants.{Exact}
use Rattle.scenario.proofs.Asking.{plain_bare}
use Rattle.scenario.proofs.Telling.{tells_ok}
use Rattle.scenario.proofs.alone.read_named.Goals as goal

pub returns-in-evaluate-clause-plain : goal.returns-in-evaluate-clause-plain
returns-in-evaluate-clause-plain c = λ fieldless plain. tells_ok _ c.evaluate.result (Evaluate Exact) c.evaluate.ensures (refl, λ a. plain_bare c.args.fields.now fieldless)

pub returns-in-state-clause-plain : goal.returns-in-state-clause-plain
returns-in-state-clause-plain c = λ fieldless plain. tells_ok _ c.state.result (State Exact) c.state.ensures (refl, λ a. plain_bare c.args.fields.now fieldless)
