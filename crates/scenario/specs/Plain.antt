-- Plain: emissions of everything, with as much room as is needed, which name no field.
--   Fieldless    a call names no field
--   every        the word that says that all groups leave; an accumulator without groups has none
--   IsPlain      words ask for such an emission of an accumulator, without groups or of groups
use Rattle.std.specs.Prelude.{◌≡◌, ℕ, Bool, true, false, List, [], ◌∷◌, codes, None, ◌⊎◌}
use Rattle.scenario.specs.declared.fields.Fields.{Fields}

abbrev pub Fieldless : Fields → Type 0
Fieldless f = (f.values ≡ None) × (f.keys.items ≡ []) × (f.groups ≡ None) × (f.total ≡ None) × (f.filter ≡ None) × (f.flags ≡ None) × (f.room ≡ None)

abbrev pub every : Bool → List (List ℕ)
every true = []
every false = codes "all" ∷ []

abbrev pub IsPlain : Bool → List (List ℕ) → Type 0
IsPlain alone ws = (ws ≡ codes "evaluate" ∷ every alone) ⊎ (ws ≡ codes "state" ∷ every alone)
