use Rattle.std.proofs.Common.{subst}
use Rattle.scenario.specs.Cells.{ColumnText}
use Rattle.scenario.proofs.Counting.{there, one_text}
use Rattle.scenario.proofs.Telling.{finds_on}
use Rattle.scenario.proofs.calls.read_columns.Goals as goal

pub returns-in_err-values : goal.returns-in_err-values
returns-in_err-values c = finds_on _ _ _ c.read_values.result c.from_residual-in_err-values.result c.in_err-values.field-0.0 c.read_values.ensures c.in_err-values.was c.from_residual-in_err-values.ensures.1 (λ f h. h)
    (λ columns is. (columns.values, subst (λ t. ColumnText c.args.reads.values t columns.values) (one_text _ _ _ (there c.args.fields.now.values c.in_ok-value.value _ c.in_ok-value.ensures.value) is.1) is.2))
