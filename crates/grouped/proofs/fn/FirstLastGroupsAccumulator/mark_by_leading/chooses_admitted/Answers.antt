use Rattle.std.proofs.Common.{sym, ◌∙◌}
use Rattle.grouped.proofs.Walking.{chosen_so}
use Rattle.grouped.proofs.fn.FirstLastGroupsAccumulator.mark_by_leading.chooses_admitted.Goals as goal

pub returns-then-admits : goal.returns-then-admits
returns-then-admits g c = λ leads k h. chosen_so _ _ _ (sym c.admits.ensures ∙ c.if-admits.true) (c.outranks_by.ensures leads k h)
