use Rattle.std.proofs.Common.{subst}
use Rattle.scenario.specs.Calls.{Bare}
use Rattle.scenario.specs.Fields.{texts_of, Gathers}
use Rattle.scenario.specs.Words.{words}
use Rattle.scenario.specs.declared.calls.Leaving.TheVariants.{All}
use Rattle.scenario.specs.declared.rooms.Room.TheVariants.{Exact}
use Rattle.scenario.proofs.Asking.{plain_bare}
use Rattle.scenario.proofs.Gathering.{one_gathering}
use Rattle.scenario.proofs.Naming.{behind, first_same}
use Rattle.scenario.proofs.Telling.{found_on, told_found, never_refused}
use Rattle.scenario.proofs.calls.read_emission.Goals as goal

pub returns-clause-answer : goal.returns-clause-answer
returns-clause-answer c =
    (c.in_ok-needed.field-0.now, words c.needed.new.self.rest.now, texts_of c.in_ok-of.field-0, c.in_ok-needed.ensures, c.in_ok-leaving.ensures, c.in_ok-of.ensures.some, c.in_ok-emission.ensures)

pub returns-in_err-of-clause-answer : goal.returns-in_err-of-clause-answer
returns-in_err-of-clause-answer c =
    found_on _ _ _ _ _ c.of.result c.from_residual-in_err-of.result c.in_err-of.field-0.0 c.of.ensures.some c.in_err-of.was c.from_residual-in_err-of.ensures.1 (λ f h. h)
    (λ none asked is. none is.2 (subst (λ ws. Gathers ws is.2) (behind _ _ _ _ _ is.3 c.in_ok-needed.ensures) is.5))

pub returns-in_err-emission-clause-answer : goal.returns-in_err-emission-clause-answer
returns-in_err-emission-clause-answer c =
    found_on _ _ _ _ _ c.emission.result c.from_residual-in_err-emission.result c.in_err-emission.field-0.0 (told_found _ _ c.emission.result c.emission.ensures) c.in_err-emission.was c.from_residual-in_err-emission.ensures.1 (λ f h. h)
    (λ none asked is.
    let gathered = subst (λ ws. Gathers ws is.2) (behind _ _ _ _ _ is.3 c.in_ok-needed.ensures) is.5 in
    none asked.1 (subst (λ f. Bare f asked.1) (one_gathering _ _ _ gathered c.in_ok-of.ensures.some) is.6))

pub returns-in_err-leaving-clause-plain : goal.returns-in_err-leaving-clause-plain
returns-in_err-leaving-clause-plain c = λ all. never_refused _ c.read_leaving.result _ All c.read_leaving.ensures (first_same _ _ _ _ _ c.in_ok-needed.ensures all) c.in_err-leaving.was

pub returns-in_err-emission-clause-plain : goal.returns-in_err-emission-clause-plain
returns-in_err-emission-clause-plain c = λ all.
    never_refused _ c.emission.result _ Exact c.emission.ensures (plain_bare c.in_ok-of.field-0 (c.in_ok-of.ensures.none (behind _ _ _ _ _ c.in_ok-needed.ensures all))) c.in_err-emission.was
