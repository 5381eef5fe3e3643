use Rattle.std.proofs.Common.{subst}
use Rattle.scenario.specs.Texts.{IsCounts}
use Rattle.scenario.proofs.Counting.{number_told, numbers_found, there, one_text}
use Rattle.scenario.proofs.Telling.{found_on, found_ok, told_ok}
use Rattle.scenario.proofs.calls.read_groups.Goals as goal

pub returns : goal.returns
returns c =
    let found = numbers_found (λ v. v.items) _ _ 64 c.«in_ok-ok_or-2».field-0.now c.numbers.result c.numbers.ensures (λ t n h. (h.0, h.1.0)) (λ t why h. h.0) in
    let told = number_told _ _ 64 c.in_ok-ok_or.field-0.now c.number.result c.number.ensures (λ n h. (h.0, h.1.0)) (λ why h. h.0) in (
      c.«in_ok-ok_or-2».field-0.now,
      c.in_ok-ok_or.field-0.now,
      there c.args.fields.now.groups c.«in_ok-ok_or-2».field-0 _ c.«in_ok-ok_or-2».ensures.value,
      there c.args.fields.now.total c.in_ok-ok_or.field-0 _ c.in_ok-ok_or.ensures.value,
      found_ok _ _ c.numbers.result c.in_ok-groups.groups found c.in_ok-groups.was,
      told_ok _ _ c.number.result c.in_ok-total.total told c.in_ok-total.was,
    )

pub returns-in_err-groups : goal.returns-in_err-groups
returns-in_err-groups c =
    let found = numbers_found (λ v. v.items) _ _ 64 c.«in_ok-ok_or-2».field-0.now c.numbers.result c.numbers.ensures (λ t n h. (h.0, h.1.0)) (λ t why h. h.0) in
    found_on _ _ _ _ _ c.numbers.result c.from_residual-in_err-groups.result c.in_err-groups.field-0.0 found c.in_err-groups.was c.from_residual-in_err-groups.ensures.1 (λ f h. h)
    (λ none rows is. none rows.0 (subst (λ t. IsCounts 64 t rows.0.items) (one_text _ _ _ (there c.args.fields.now.groups c.«in_ok-ok_or-2».field-0 _ c.«in_ok-ok_or-2».ensures.value) is.2) is.4))
