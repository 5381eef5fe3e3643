-- Counted: how many columns a number order reads.
--   one_to_three    a number of columns that a number order can read
--   columns_read    1 to 3 columns as asked for, one where another number was asked for
use Rattle.std.specs.Prelude.{ℕ, Bool, ◌&&◌, nat_le, if◌then◌else◌}

abbrev pub one_to_three : ℕ → Bool
one_to_three n = nat_le 1 n && nat_le n 3

abbrev pub columns_read : ℕ → ℕ
columns_read n = if one_to_three n then n else 1
