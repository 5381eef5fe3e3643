-- Missing: how values that may be missing stand to one another.
--   sorted_verdict  by value, turned round where `descending`; the missing ones are equal, below every value with nulls first and else above
use Rattle.std.specs.Prelude.{Some, None, Option, if◌then◌else◌}
use Rattle.std.specs.declared.cmp.Ordering.TheVariants.{Less, Equal, Greater}
use Rattle.std.specs.declared.cmp.Ordering.{Ordering}
use Rattle.tables.specs.declared.Sorting.{Sorting}

abbrev pub sorted_verdict : {X : Type 0} → (X → X → Ordering) → Sorting → Option X → Option X → Ordering
sorted_verdict cmp s None None = Equal
sorted_verdict cmp s None (Some y) = if s.nulls_first then Less else Greater
sorted_verdict cmp s (Some x) None = if s.nulls_first then Greater else Less
sorted_verdict cmp s (Some x) (Some y) = if s.descending then cmp y x else cmp x y
