use Rattle.std.proofs.Common.{None, replicate, ⊎_elim}
use Rattle.std.proofs.lemmas.Bool.{cases_lt}
use Rattle.std.proofs.lemmas.List.{get_or-replicate, get_or_past}
use Rattle.grouped.proofs.extremes.Extremes.none.Goals as goal

pub returns : goal.returns
returns c = λ k. ⊎_elim (λ h. get_or-replicate 256 k None None h) (λ h. get_or_past (replicate 256 None) k None h) (cases_lt k 256)
