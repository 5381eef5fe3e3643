use Rattle.grouped.proofs.Walking.{chosen_so}
use Rattle.grouped.proofs.FirstLastGroupsAccumulator.mark_by_keys.Goals as goal

pub mark_winners-requires-clause-chosen : goal.mark_winners-requires-clause-chosen
mark_winners-requires-clause-chosen g c = λ r o t e k h. chosen_so _ _ _ (c.admits_all.ensures c.if-admits_all.true r) (e.1 k h)
