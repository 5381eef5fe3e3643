use Rattle.scenario.specs.Fields.{texts_of}
use Rattle.scenario.proofs.Asking.{rows_of_update}
use Rattle.scenario.proofs.Telling.{finds_on}
use Rattle.scenario.proofs.calls.update.Goals as goal

pub returns-in_err-batch : goal.returns-in_err-batch
returns-in_err-batch c = finds_on _ _ _ c.read_batch.result c.from_residual.result c.in_err-batch.field-0.0 c.read_batch.ensures c.in_err-batch.was c.from_residual.ensures.1 (λ f h. h)
    (λ call is. rows_of_update c.args.reads (texts_of c.args.fields.now) call is.0 is.1)
