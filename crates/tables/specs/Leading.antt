-- Leading: a column of numbers by which an order compares rows first.
--   leading_verdict  how one row stands to another by this column alone
--   LeadsIn          an order compares rows so wherever the column tells them apart, and wherever it decides at all
use Rattle.std.specs.Prelude.{◌≡◌, ◌≢◌, ℕ, true, List}
use Rattle.std.specs.Ordering.{int_cmp}
use Rattle.std.specs.declared.cmp.Ordering.TheVariants.{Equal}
use Rattle.std.specs.declared.cmp.Ordering.{Ordering}
use Rattle.column.specs.Columns.{Column, number_at}
use Rattle.column.specs.Seen.{column_seen}
use Rattle.tables.specs.Meaning.{Settings}
use Rattle.tables.specs.Missing.{sorted_verdict}
use Rattle.tables.specs.Reading.{key_read}
use Rattle.tables.specs.Refusals.{verdict}
use Rattle.tables.specs.declared.leading.Leading.{Leading}

abbrev pub leading_verdict : Leading → ℕ → ℕ → Ordering
leading_verdict l a b = sorted_verdict int_cmp l.sort (number_at (column_seen l.column) a) (number_at (column_seen l.column) b)

pub record LeadsIn (s : Settings) (cs : List Column) (l : Leading) : Type 0 where
  pub apart : (a b : ℕ) → leading_verdict l a b ≢ Equal → verdict s (key_read s.kinds cs a) (key_read s.kinds cs b) ≡ leading_verdict l a b
  pub alone : l.decides ≡ true → (a b : ℕ) → verdict s (key_read s.kinds cs a) (key_read s.kinds cs b) ≡ leading_verdict l a b
