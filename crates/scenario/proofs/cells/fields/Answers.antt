use Rattle.std.proofs.Common.{◌++◌, ◌∷◌, sym, subst, get_or, None}
use Rattle.scenario.specs.Cells.{IsField}
use Rattle.scenario.proofs.Slashes.{parted_so}
use Rattle.scenario.proofs.Telling.{tells_on}
use Rattle.scenario.proofs.cells.fields.Goals as goal

pub returns-in_err-first-2 : goal.returns-in_err-first-2
returns-in_err-first-2 c =
    tells_on _ _ _ c.field.result c.from_residual-in_err-first-2.result c.in_err-first-2.field-0.0 c.field.ensures c.in_err-first-2.was c.from_residual-in_err-first-2.ensures.1 (λ f h. h)
    (λ fs is.
    let same = parted_so c.args.text.now c.in_ok-first.first.now c.in_ok-first.others.now c.in_ok-first.ensures is.1 (is.2 ++ 47 ∷ is.3) (get_or fs 0 None) is.4 is.5 in
    (get_or fs 0 None, subst (λ t. IsField t (get_or fs 0 None)) (sym same.0) is.5))

pub returns-in_err-second : goal.returns-in_err-second
returns-in_err-second c =
    tells_on _ _ _ c.other_fields.result c.from_residual-in_err-second.result c.in_err-second.field-0.0 c.other_fields.ensures c.in_err-second.was c.from_residual-in_err-second.ensures.1 (λ f h. h)
    (λ fs is.
    let same = parted_so c.args.text.now c.in_ok-first.first.now c.in_ok-first.others.now c.in_ok-first.ensures is.1 (is.2 ++ 47 ∷ is.3) (get_or fs 0 None) is.4 is.5 in
    ((get_or fs 1 None, get_or fs 2 None), (is.2, is.3, same.1, is.6, is.7)))
