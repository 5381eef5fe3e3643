-- The number that eight bytes of a list say is the sum of the bytes, each by its weight.
use Rattle.std.proofs.Common.{◌≡◌, ℕ, suc, ◌+◌, ◌*◌, ◌<◌, ◌≤◌, List, length, get_or, take, sym, ap, ◌∙◌, arith, w64, of_z}
use Rattle.std.specs.Int.{from_le_bytes}
use Rattle.std.proofs.lemmas.Int.{of_z-to_z}
use Rattle.std.proofs.lemmas.List.{drop_more, take_all}
use Rattle.column.specs.Columns.{part, little, number_in}

-- the first byte and the others
little_more : (bytes : List ℕ) (start next n : ℕ) → start + 1 ≡ next → start < length bytes → little (part start (suc n) bytes) ≡ get_or bytes start 0 + 256 * little (part next n bytes)
little_more bytes start next n e h =
    ap (λ xs. little (take (suc n) xs)) (drop_more bytes start 0 h) ∙ ap (λ k. get_or bytes start 0 + 256 * little (part k n bytes)) e

pub little_eight : (bytes : List ℕ) (start : ℕ) → start + 8 ≤ length bytes
    → little (part start 8 bytes) ≡ get_or bytes start 0 + get_or bytes (start + 1) 0 * 256 + get_or bytes (start + 2) 0 * 65536 + get_or bytes (start + 3) 0 * 16777216 + get_or bytes (start + 4) 0 * 4294967296 + get_or bytes (start + 5) 0 * 1099511627776 + get_or bytes (start + 6) 0 * 281474976710656 + get_or bytes (start + 7) 0 * 72057594037927936
little_eight bytes start h =
    omega (
      arith,
      little_more bytes start (start + 1) 7 (omega arith) (omega arith),
      little_more bytes (start + 1) (start + 2) 6 (omega arith) (omega arith),
      little_more bytes (start + 2) (start + 3) 5 (omega arith) (omega arith),
      little_more bytes (start + 3) (start + 4) 4 (omega arith) (omega arith),
      little_more bytes (start + 4) (start + 5) 3 (omega arith) (omega arith),
      little_more bytes (start + 5) (start + 6) 2 (omega arith) (omega arith),
      little_more bytes (start + 6) (start + 7) 1 (omega arith) (omega arith),
      little_more bytes (start + 7) (start + 8) 0 (omega arith) (omega arith),
    )

pub little_whole : (bytes : List ℕ) → length bytes ≡ 8 → from_le_bytes w64 bytes ≡ little bytes
little_whole bytes h = sym (little_eight bytes 0 (omega arith)) ∙ ap little (take_all 8 bytes (omega arith))

-- the bits of the signed number in eight bytes
pub bits_in : (bytes : List ℕ) (start : ℕ) → start + 8 ≤ length bytes → ((i : ℕ) → get_or bytes i 0 < 256) → of_z w64 (number_in bytes start) ≡ little (part start 8 bytes)
unfolding number_in
bits_in bytes start h f =
    of_z-to_z w64 (little (part start 8 bytes))
    (omega (arith, little_eight bytes start h, f start, f (start + 1), f (start + 2), f (start + 3), f (start + 4), f (start + 5), f (start + 6), f (start + 7)))
