-- Packing: rows as validity bytes.
--   validity_bytes  none where all rows are there, else a bit for each, spare bits zero
use Rattle.std.specs.Prelude.{ℕ, Bool, List, [], if◌then◌else◌}
use Rattle.std.specs.List.{list_all}
use Rattle.layout.specs.Layout.{packed}

abbrev pub validity_bytes : List Bool → List ℕ
validity_bytes there = if list_all (λ row. row) there then [] else packed there
