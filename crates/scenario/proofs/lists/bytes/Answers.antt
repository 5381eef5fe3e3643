use Rattle.std.proofs.lemmas.Result.{err_from_is_err_and}
use Rattle.scenario.proofs.Stripping.{no_bytes}
use Rattle.scenario.proofs.lists.bytes.Goals as goal

pub returns-in_err-digits : goal.returns-in_err-digits
returns-in_err-digits c =
    let p = err_from_is_err_and c.from_residual.result c.from_residual.ensures.1 in
    rw (p.1, p.2) (no_bytes (λ v. v.items) c.args.text.now c.strip_prefix.result c.in_err-digits.field-0.0 c.strip_prefix.ensures.cases c.in_err-digits.ensures.value)
