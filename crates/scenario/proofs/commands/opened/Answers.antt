use Rattle.std.proofs.Common.{ap, ◌∷◌, ◌∙◌, subst}
use Rattle.scenario.specs.Texts.{IsCounts}
use Rattle.scenario.proofs.Counting.{numbers_found}
use Rattle.scenario.proofs.Naming.{first_same}
use Rattle.scenario.proofs.Telling.{finds_on, found_ok}
use Rattle.scenario.proofs.commands.opened.Goals as goal

pub returns : goal.returns
returns c =
    let found = numbers_found (λ v. v.items) _ _ 32 c.in_ok-needed.field-0.now c.numbers.result c.numbers.ensures (λ t n h. (h.0, h.1.0)) (λ t why h. h.0) in (
      c.in_ok-needed.field-0.now,
      c.in_ok-needed.ensures ∙ ap (λ more. c.in_ok-needed.field-0.now ∷ more) c.in_ok-ended.ensures,
      found_ok _ _ c.numbers.result c.in_ok-list.list found c.in_ok-list.was,
    )

pub returns-in_err-list : goal.returns-in_err-list
returns-in_err-list c =
    let found = numbers_found (λ v. v.items) _ _ 32 c.in_ok-needed.field-0.now c.numbers.result c.numbers.ensures (λ t n h. (h.0, h.1.0)) (λ t why h. h.0) in
    finds_on _ _ _ c.numbers.result c.from_residual-in_err-list.result c.in_err-list.field-0.0 found c.in_err-list.was c.from_residual-in_err-list.ensures.1 (λ f h. h)
    (λ list is. (list, subst (λ t. IsCounts 32 t list.items) (first_same _ _ _ _ _ is.1 c.in_ok-needed.ensures) is.2))
