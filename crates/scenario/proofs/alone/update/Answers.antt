use Rattle.scenario.specs.Fields.{texts_of}
use Rattle.scenario.proofs.Asking.{columns_of_alone_update}
use Rattle.scenario.proofs.Telling.{finds_on}
use Rattle.scenario.proofs.alone.update.Goals as goal

pub returns-in_err-read_columns : goal.returns-in_err-read_columns
returns-in_err-read_columns c = finds_on _ _ _ c.read_columns.result c.from_residual.result c.in_err-read_columns.field-0.0 c.read_columns.ensures c.in_err-read_columns.was c.from_residual.ensures.1 (λ f h. h)
    (λ call is. columns_of_alone_update c.args.reads (texts_of c.args.fields.now) call is.0 is.1)
