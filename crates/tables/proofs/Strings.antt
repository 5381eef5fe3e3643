-- Byte strings are ordered totally, and the text order keeps its laws.
use Rattle.std.proofs.Common.{◌≡◌, ℕ, zero, suc, ◌%◌, Bool, true, false, ◌&&◌, leb, List, [], ◌∷◌, length, get_or, refl, arith}
use Rattle.std.specs.Cmp.{IsTotalOrder}
use Rattle.std.specs.Ordering.{on}
use Rattle.std.proofs.lemmas.Bool.{false≢true, and_from, lt-ltb}
use Rattle.std.proofs.lemmas.List.{length-map}
use Rattle.std.proofs.lemmas.Cmp.{nat_list_cmp_total, on_total}
use Rattle.column.specs.Cells.{numbers, strings, Cell, null, number, text, fields, Proper}
use Rattle.column.specs.Columns.{octets}
use Rattle.tables.specs.declared.Sorting.{Sorting}
use Rattle.tables.specs.Meaning.{OrderLaws}
use Rattle.tables.specs.Delivered.{head_cell, as_text, text_cmp, all_bytes, takes_text, takes_one_text, text_order}
use Rattle.tables.proofs.Ordering.{text_proper, leq_total, leq_transitive, sorted_total}

-- a string of bytes is taken by its length
pub octets_taken : (bs : List ℕ) → takes_text (text (octets bs)) ≡ leb (length bs) 32
octets_taken bs = rw (bytes bs, length-map bs (λ b. b % 256)) (alone (leb (length bs) 32))
  where
    bytes : (ds : List ℕ) → all_bytes (octets ds) ≡ true
    bytes [] = refl
    bytes (d ∷ ds) = and_from _ _ (lt-ltb (d % 256) 256 (omega arith)) (bytes ds)

    alone : (t : Bool) → (t && true) ≡ t
    alone true = refl
    alone false = refl

pub texts_total : (s : Sorting) → IsTotalOrder (on head_cell (text_cmp s))
texts_total s = on_total head_cell (on_total as_text (sorted_total nat_list_cmp_total s))

pub text_order_laws : (s : Sorting) → OrderLaws (text_order s)
text_order_laws s = record { takes_null = null_taken; takes_proper = proper; total = leq_total (texts_total s); transitive = leq_transitive (texts_total s) }
  where
    null_taken : (j : ℕ) → takes_one_text j null ≡ true
    null_taken zero = refl
    null_taken (suc j) = refl

    proper : (j : ℕ) (c : Cell) → takes_one_text j c ≡ true → Proper (get_or (strings ∷ []) j numbers) c
    proper zero c h = text_proper c h
    proper (suc j) null h = tt
    proper (suc j) (number z) h = absurd (false≢true h)
    proper (suc j) (text bs) h = absurd (false≢true h)
    proper (suc j) (fields a b c) h = absurd (false≢true h)
