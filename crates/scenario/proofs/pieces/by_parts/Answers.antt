use Rattle.std.proofs.Common.{◌∙◌, sym, ap, lit<}
use Rattle.scenario.specs.Cells.{PartsText}
use Rattle.scenario.specs.Words.{words}
use Rattle.scenario.proofs.Parting.{all_taken}
use Rattle.scenario.proofs.Refusing.{not_enclosed, none_inside}
use Rattle.scenario.proofs.Stripping.{between_ascii}
use Rattle.scenario.proofs.Telling.{found_on, told_found}
use Rattle.scenario.proofs.pieces.by_parts.Goals as goal

pub returns : goal.returns
returns c = (
  c.in_ok-between.field-0.now,
  c.in_ok-between.ensures ∙ between_ascii 123 125 c.in_ok-between.field-0.now (lit< tt) (lit< tt),
  all_taken (λ ws. PartsText ws c.in_ok-parts.parts) (words c.in_ok-between.field-0.now) c.in_ok-parts.ensures.0 _ (ap (λ b. words b.now) (sym c.of-words.ensures) ∙ c.in_ok-parts.ensures.1) c.in_ok-ended.ensures c.in_ok-parts.ensures.2,
)

pub returns-in_err-between : goal.returns-in_err-between
returns-in_err-between c =
    found_on _ _ _ _ _ c.between.result c.from_residual.result c.in_err-between.field-0.0 (told_found _ _ c.between.result c.between.ensures) c.in_err-between.was c.from_residual.ensures.1 (λ f h. h)
    (not_enclosed (λ inner parts. PartsText (words inner) parts) 123 125 c.args.text.now (lit< tt) (lit< tt))

pub returns-in_err-parts : goal.returns-in_err-parts
returns-in_err-parts c =
    found_on _ _ _ _ _ c.read_parts.result c.from_residual-in_err-parts.result c.in_err-parts.field-0.0 c.read_parts.ensures c.in_err-parts.was c.from_residual-in_err-parts.ensures.1 (λ f h. h)
    (none_inside PartsText 123 125 c.args.text.now c.in_ok-between.field-0.now c.of-words.result.rest.now (lit< tt) (lit< tt) c.in_ok-between.ensures (ap (λ b. b.now) c.of-words.ensures))
