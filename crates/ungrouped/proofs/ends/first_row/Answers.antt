use Rattle.std.proofs.Common.{rules, tests, refl, sym, find, ap, ◌∙◌, arith}
use Rattle.std.proofs.lemmas.Iterator.Search.{find_from_yields_List}
use Rattle.std.proofs.lemmas.Iterator.{YieldsList-from_range, first_from_Range}
use Rattle.ungrouped.proofs.Numbering.{same_ranges, itself, some_within}
use Rattle.ungrouped.proofs.ends.first_row.Goals as goal

pub returns-clause-found : goal.returns-clause-found
returns-clause-found g c = λ p tells.
    sym (itself c.find.result) ∙ find_from_yields_List p _ _ _ c.find.ensures.ran (YieldsList-from_range 0 c.args.rows c.args.rows refl (omega arith)) (λ x b q k. search (rules, tests, tells)) ∙ ap (find p) (same_ranges 0 c.args.rows)

pub returns-clause-within : goal.returns-clause-within
returns-clause-within g c = some_within _ c.args.rows c.find.result (first_from_Range _ _ _ c.find.result (λ _. Unit {0}) (λ _. Unit {0}) c.find.ensures.ran (λ x q k. tt) (λ x q k. search (rules, tests)))
