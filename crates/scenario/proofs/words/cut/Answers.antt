use Rattle.std.proofs.Common.{refl, ap, ◌∙◌, drop}
use Rattle.scenario.proofs.words.cut.Goals as goal
use Rattle.scenario.proofs.Wording.{stripped}

pub returns-clause-rest : goal.returns-clause-rest
returns-clause-rest c =
    ap (λ x. x.now) c.unwrap_or.ensures ∙ stripped 0 c.args.text.now c.split_at.result.1.now c.strip_prefix.result _ (c.split_at.ensures.back ∙ ap (λ n. drop n c.args.text.now) c.word_end.ensures.length) c.strip_prefix.ensures.cases refl
