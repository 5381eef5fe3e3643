use Rattle.std.proofs.Common.{sym, ◌∙◌}
use Rattle.scenario.proofs.Counting.{numbers_found}
use Rattle.scenario.proofs.Refusing.{or_none}
use Rattle.scenario.proofs.pieces.offsets.Goals as goal

pub returns : goal.returns
returns c =
    or_none (λ v. v.items) 32 c.args.text.now c.numbers.result (sym c.eq.ensures ∙ c.if-eq.false)
    (numbers_found (λ v. v.items) _ _ 32 c.args.text.now c.numbers.result c.numbers.ensures (λ t n h. (h.0, h.1.0)) (λ t why h. h.0))
