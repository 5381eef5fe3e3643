use Rattle.scenario.specs.Words.{words}
use Rattle.scenario.proofs.Asking.{emission_of_evaluate}
use Rattle.scenario.proofs.Telling.{finds_on}
use Rattle.scenario.proofs.calls.evaluate.Goals as goal

pub returns-in_err-leaving-clause-answer : goal.returns-in_err-leaving-clause-answer
returns-in_err-leaving-clause-answer c = finds_on _ _ _ c.read_emission.result c.from_residual.result c.in_err-leaving.field-0.0 c.read_emission.ensures.answer c.in_err-leaving.was c.from_residual.ensures.1 (λ f h. h)
    (λ call is. emission_of_evaluate (words c.args.words.rest.now) call is.0 is.1)
