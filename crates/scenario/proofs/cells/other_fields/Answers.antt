use Rattle.std.proofs.Common.{sym, subst}
use Rattle.scenario.specs.Cells.{IsField}
use Rattle.scenario.proofs.Slashes.{parted_so}
use Rattle.scenario.proofs.Telling.{tells_on}
use Rattle.scenario.proofs.cells.other_fields.Goals as goal

pub returns-in_err-field : goal.returns-in_err-field
returns-in_err-field c =
    tells_on _ _ _ c.field.result c.from_residual-in_err-field.result c.in_err-field.field-0.0 c.field.ensures c.in_err-field.was c.from_residual-in_err-field.ensures.1 (λ f h. h)
    (λ fs is.
    let same = parted_so c.args.text.now c.in_ok-second.second.now c.in_ok-second.third.now c.in_ok-second.ensures is.0 is.1 fs.0 is.2 is.3 in
    (fs.0, subst (λ t. IsField t fs.0) (sym same.0) is.3))

pub returns-in_err-field-2 : goal.returns-in_err-field-2
returns-in_err-field-2 c =
    tells_on _ _ _ c.field-2.result c.from_residual-in_err-field-2.result c.in_err-field-2.field-0.0 c.field-2.ensures c.in_err-field-2.was c.from_residual-in_err-field-2.ensures.1 (λ f h. h)
    (λ fs is.
    let same = parted_so c.args.text.now c.in_ok-second.second.now c.in_ok-second.third.now c.in_ok-second.ensures is.0 is.1 fs.0 is.2 is.3 in
    (fs.1, subst (λ t. IsField t fs.1) (sym same.1) is.4))
