-- Matches: what a batch's conditions are.
--   holds_at  whether the condition of a match holds; none where there is no such match
use Rattle.std.specs.Prelude.{ℕ, Bool, List, Option}
use Rattle.std.specs.List.{slice_get}
use Rattle.std.specs.Option.{option_map}
use Rattle.quay.specs.declared.rules.Match.{Match}

abbrev pub holds_at : List Match → ℕ → Option Bool
holds_at ms row = option_map (λ m. m.holds) (slice_get ms row)
