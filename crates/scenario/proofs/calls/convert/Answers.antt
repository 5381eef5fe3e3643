use Rattle.scenario.specs.Fields.{texts_of}
use Rattle.scenario.proofs.Asking.{columns_of_convert}
use Rattle.scenario.proofs.Telling.{finds_on}
use Rattle.scenario.proofs.calls.convert.Goals as goal

pub returns-in_err-columns : goal.returns-in_err-columns
returns-in_err-columns c = finds_on _ _ _ c.read_columns.result c.from_residual-in_err-columns.result c.in_err-columns.field-0.0 c.read_columns.ensures c.in_err-columns.was c.from_residual-in_err-columns.ensures.1 (λ f h. h)
    (λ call is. columns_of_convert c.args.reads (texts_of c.args.fields.now) call is.0 is.1)
