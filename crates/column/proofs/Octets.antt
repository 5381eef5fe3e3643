-- Bytes stay as they are where they count modulo 256.
use Rattle.std.proofs.Common.{◌≡◌, ℕ, suc, List, [], ◌∷◌, get_or, Fits, w8, refl, ap₂, arith}
use Rattle.column.specs.Columns.{octets}

pub octets_same : (bs : List ℕ) → ((i : ℕ) → Fits w8 (get_or bs i 0)) → octets bs ≡ bs
octets_same [] h = refl
octets_same (b ∷ bs) h = let f = h 0 in ap₂ ◌∷◌ (omega (arith, f)) (octets_same bs (λ i. h (suc i)))
