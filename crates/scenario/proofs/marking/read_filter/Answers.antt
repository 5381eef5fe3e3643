use Rattle.scenario.proofs.Refusing.{shows_none}
use Rattle.scenario.proofs.Telling.{found_on}
use Rattle.scenario.proofs.marking.read_filter.Goals as goal

pub returns-in_err-read_marks-in-Some : goal.returns-in_err-read_marks-in-Some
returns-in_err-read_marks-in-Some c =
    found_on _ _ _ _ _ c.read_marks.result c.from_residual.result c.in_err-read_marks-in-Some.field-0.0 c.read_marks.ensures c.in_err-read_marks-in-Some.was c.from_residual.ensures.1 (λ f h. h)
    (shows_none c.args.text c.in-Some.text c.in-Some.is)
