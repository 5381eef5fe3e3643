use Rattle.std.proofs.Common.{◌≡◌, ℕ, ◌+◌, List, [], ◌∷◌, get_or, refl, ap, ◌∙◌, w64, to_z, arith}
use Rattle.std.proofs.lemmas.Int.{to_z-of_z}
use Rattle.column.specs.Columns.{number_in, little, part}
use Rattle.column.proofs.Little.{little_eight, little_whole}
use Rattle.column.proofs.bits.number.Goals as goal

-- the eight bytes from a place on, one by one
abbrev bytes_at : List ℕ → ℕ → List ℕ
bytes_at bs i =
    get_or bs i 0 ∷ get_or bs (i + 1) 0 ∷ get_or bs (i + 2) 0 ∷ get_or bs (i + 3) 0 ∷ get_or bs (i + 4) 0 ∷ get_or bs (i + 5) 0 ∷ get_or bs (i + 6) 0 ∷ get_or bs (i + 7) 0 ∷ []

pub returns : goal.returns
unfolding number_in
returns c =
    let bs = c.args.bytes.now in
    let i = c.args.at in
    let said = little_eight bs i c.requires in
    let e : little (bytes_at bs i) ≡ little (part i 8 bs) = omega arith in
    to_z-of_z w64 c.from_le_bytes.result (record { sfits = c.from_le_bytes.type_inv }) ∙ c.from_le_bytes.ensures ∙ ap (to_z w64) (little_whole (bytes_at bs i) refl ∙ e)
