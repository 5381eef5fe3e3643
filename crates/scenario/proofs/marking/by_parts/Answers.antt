use Rattle.std.proofs.Common.{◌∙◌, sym, ap, lit<}
use Rattle.scenario.specs.Cells.{MarkParts}
use Rattle.scenario.specs.Words.{words}
use Rattle.scenario.proofs.Parting.{all_taken}
use Rattle.scenario.proofs.Refusing.{not_enclosed, none_inside}
use Rattle.scenario.proofs.Stripping.{between_ascii}
use Rattle.scenario.proofs.Telling.{found_on, told_found}
use Rattle.scenario.proofs.marking.by_parts.Goals as goal

pub returns : goal.returns
returns c = (
  c.in_ok-between.field-0.now,
  c.in_ok-between.ensures ∙ between_ascii 123 125 c.in_ok-between.field-0.now (lit< tt) (lit< tt),
  all_taken (λ ws. MarkParts ws c.in_ok-marks.marks) (words c.in_ok-between.field-0.now) c.in_ok-marks.ensures.0 _ (ap (λ b. words b.now) (sym c.of-words.ensures) ∙ c.in_ok-marks.ensures.1) c.in_ok-ended.ensures c.in_ok-marks.ensures.2,
)

pub returns-in_err-between : goal.returns-in_err-between
returns-in_err-between c =
    found_on _ _ _ _ _ c.between.result c.from_residual.result c.in_err-between.field-0.0 (told_found _ _ c.between.result c.between.ensures) c.in_err-between.was c.from_residual.ensures.1 (λ f h. h)
    (not_enclosed (λ inner marks. MarkParts (words inner) marks) 123 125 c.args.text.now (lit< tt) (lit< tt))

pub returns-in_err-marks : goal.returns-in_err-marks
returns-in_err-marks c =
    found_on _ _ _ _ _ c.read_parts.result c.from_residual-in_err-marks.result c.in_err-marks.field-0.0 c.read_parts.ensures c.in_err-marks.was c.from_residual-in_err-marks.ensures.1 (λ f h. h)
    (none_inside MarkParts 123 125 c.args.text.now c.in_ok-between.field-0.now c.of-words.result.rest.now (lit< tt) (lit< tt) c.in_ok-between.ensures (ap (λ b. b.now) c.of-words.ensures))
