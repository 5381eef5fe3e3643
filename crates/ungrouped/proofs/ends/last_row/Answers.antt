use Rattle.std.proofs.Common.{rules, tests, sym, ◌∙◌}
use Rattle.std.proofs.lemmas.Iterator.Search.{find_from_yields_List}
use Rattle.ungrouped.proofs.Numbering.{itself, yields_back}
use Rattle.ungrouped.proofs.ends.last_row.Goals as goal

pub returns : goal.returns
returns g c = λ p tells.
    sym (itself c.find.result) ∙ find_from_yields_List p _ _ _ c.find.ensures.ran (yields_back c.args.rows c.rev.ensures.source) (λ x b q k. search (rules, tests, tells))
