use Rattle.std.proofs.Common.{subst}
use Rattle.scenario.specs.Calls.{AsksAlone}
use Rattle.scenario.specs.Fields.{texts_of}
use Rattle.scenario.specs.Words.{words}
use Rattle.scenario.proofs.Gathering.{one_gathering}
use Rattle.scenario.proofs.Telling.{finds_as, found_on}
use Rattle.scenario.proofs.alone.read_single.Goals as goal

pub returns-clause-answer : goal.returns-clause-answer
returns-clause-answer c = finds_as _ _ c.read_named.result c.read_named.ensures.answer
    (λ call asks. (asks.0, (texts_of c.in_ok-of.field-0, c.in_ok-of.ensures.some, asks.1)))
    (λ call asks. (asks.0, subst (λ f. AsksAlone c.args.reads f call) (one_gathering (words c.args.words.rest.now) _ _ asks.1.1 c.in_ok-of.ensures.some) asks.1.2))

pub returns-in_err-of-clause-answer : goal.returns-in_err-of-clause-answer
returns-in_err-of-clause-answer c =
    found_on _ _ _ _ _ c.of.result c.from_residual.result c.in_err-of.field-0.0 c.of.ensures.some c.in_err-of.was c.from_residual.ensures.1 (λ f h. h) (λ none call is. none is.1.0 is.1.1)
