use Rattle.scenario.specs.Fields.{texts_of}
use Rattle.scenario.proofs.Asking.{room_of_alone_state}
use Rattle.scenario.proofs.Telling.{tells_on}
use Rattle.scenario.proofs.alone.state.Goals as goal

pub returns-in_err-emission : goal.returns-in_err-emission
returns-in_err-emission c = tells_on _ _ _ c.emission.result c.from_residual.result c.in_err-emission.field-0.0 c.emission.ensures c.in_err-emission.was c.from_residual.ensures.1 (λ f h. h)
    (λ call is. room_of_alone_state (texts_of c.args.fields.now) call is.0 is.1)
