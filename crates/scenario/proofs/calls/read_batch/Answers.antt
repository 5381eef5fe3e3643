use Rattle.scenario.proofs.Telling.{finds_on}
use Rattle.scenario.proofs.calls.read_batch.Goals as goal

pub returns-in_err-groups : goal.returns-in_err-groups
returns-in_err-groups c = finds_on _ _ _ c.read_groups.result c.from_residual.result c.in_err-groups.field-0.0 c.read_groups.ensures c.in_err-groups.was c.from_residual.ensures.1 (λ f h. h)
    (λ batch is. ((batch.groups, batch.total), is.0))

pub returns-in_err-read_columns : goal.returns-in_err-read_columns
returns-in_err-read_columns c =
    finds_on _ _ _ c.read_columns.result c.from_residual-in_err-read_columns.result c.in_err-read_columns.field-0.0 c.read_columns.ensures c.in_err-read_columns.was c.from_residual-in_err-read_columns.ensures.1 (λ f h. h)
    (λ batch is. (batch.columns, is.1))
