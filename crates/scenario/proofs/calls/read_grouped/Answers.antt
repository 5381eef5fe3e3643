use Rattle.std.proofs.Common.{◌∙◌}
use Rattle.scenario.specs.Fields.{texts_of}
use Rattle.scenario.specs.Words.{words}
use Rattle.scenario.proofs.Asking.{asks_groups, asks_rows, fields_of_rows}
use Rattle.scenario.proofs.Telling.{finds_as, found_on}
use Rattle.scenario.proofs.calls.read_grouped.Goals as goal

pub returns-in_ok-of-in_default-clause-answer : goal.returns-in_ok-of-in_default-clause-answer
returns-in_ok-of-in_default-clause-answer c = finds_as _ _ c.read_rows.result c.read_rows.ensures
    (λ call asks. (asks.0, asks_groups c.args.reads (texts_of c.in_ok-of-in_default.field-0) (words c.args.words.rest.now) call c.in_ok-of-in_default.ensures.some asks.1))
    (λ call asks. (
      asks.0,
      asks_rows c.args.reads (texts_of c.in_ok-of-in_default.field-0) (words c.args.words.rest.now) call c.in_ok-of-in_default.ensures.some
          (λ is. c.in_default.not-evaluate (asks.0 ∙ is)) (λ is. c.in_default.not-state (asks.0 ∙ is)) asks.1,
    ))

pub returns-in_err-of-in_default-clause-answer : goal.returns-in_err-of-in_default-clause-answer
returns-in_err-of-in_default-clause-answer c =
    found_on _ _ _ _ _ c.of.result c.from_residual.result c.in_err-of-in_default.field-0.0 c.of.ensures.some c.in_err-of-in_default.was c.from_residual.ensures.1 (λ f h. h)
    (λ none call is.
    let asked = fields_of_rows c.args.reads (words c.args.words.rest.now) call (λ e. c.in_default.not-evaluate (is.0 ∙ e)) (λ e. c.in_default.not-state (is.0 ∙ e)) is.1 in
    none asked.0 asked.1)
