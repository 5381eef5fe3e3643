-- What a number order reads in a row, and how its keys stand to one another, column by column.
use Rattle.std.proofs.Common.{◌≡◌, ℕ, zero, suc, ◌+◌, ◌<◌, ◌≤◌, Bool, true, false, not, List, [], ◌∷◌, map, length, get_or, take, drop, ℤ, Some, None, Option, Ordering, Less, Equal, Greater, sym, refl, ap, ap₂, ◌∙◌, arith, add-one, drop-cons}
use Rattle.std.specs.Bool.{◌==◌}
use Rattle.std.specs.List.{slice_get, find}
use Rattle.std.specs.Option.{option_and_then}
use Rattle.std.specs.Ordering.{int_cmp, ordering_then, ordering_index}
use Rattle.std.proofs.lemmas.List.{length-map, length-take-le}
use Rattle.std.proofs.lemmas.Bool.{and_from, false≢true}
use Rattle.column.specs.Cells.{numbers, Cell, null, number_cell}
use Rattle.column.specs.Columns.{Column, number_at}
use Rattle.tables.specs.declared.Sorting.{Sorting}
use Rattle.tables.specs.Delivered.{head_cell, tail_cells, as_number, takes_number, number_columns, number_order}
use Rattle.tables.specs.Missing.{sorted_verdict}
use Rattle.tables.specs.Reading.{named_taken, key_read, takes_all, key_taken}
use Rattle.tables.specs.Refusals.{verdict}
use Rattle.orders.specs.Numbers.{key_cells}
use Rattle.tables.proofs.Numbers.{number_read}
use Rattle.tables.proofs.Ordering.{number_kinds, numbers_total, verdict_is}

-- Kinds

pub kind_some : (ss : List Sorting) (j : ℕ) → j < length ss → Some numbers ≡ slice_get (map (λ s. numbers) ss) j
kind_some [] j h = absurd (omega arith)
kind_some (s ∷ ss) zero h = refl
kind_some (s ∷ ss) (suc j) h = kind_some ss j (omega arith)

pub kind_none : (ss : List Sorting) (j : ℕ) → length ss ≤ j → None ≡ slice_get (map (λ s. numbers) ss) j
kind_none [] j h = refl
kind_none (s ∷ ss) zero h = absurd (omega arith)
kind_none (s ∷ ss) (suc j) h = kind_none ss j (omega arith)

pub kinds_long : (ss : List Sorting) (n : ℕ) → n ≤ length ss → length (map (λ s. numbers) (take n ss)) ≡ n
kinds_long ss n h = length-map (take n ss) (λ s. numbers) ∙ length-take-le n ss h

-- a key of nulls
pub null_key : (ss : List Sorting) (n : ℕ) → length ss ≡ 3 → key_cells n (None ∷ None ∷ None ∷ []) ≡ map (λ k. null) (map (λ s. numbers) (take n ss))
null_key [] n l = absurd (omega arith)
null_key (a ∷ []) n l = absurd (omega arith)
null_key (a ∷ b ∷ []) n l = absurd (omega arith)
null_key (a ∷ b ∷ c ∷ d ∷ ss) n l = absurd (omega arith)
null_key (a ∷ b ∷ c ∷ []) zero l = refl
null_key (a ∷ b ∷ c ∷ []) (suc zero) l = refl
null_key (a ∷ b ∷ c ∷ []) (suc (suc zero)) l = refl
null_key (a ∷ b ∷ c ∷ []) (suc (suc (suc zero))) l = refl
null_key (a ∷ b ∷ c ∷ []) (suc (suc (suc (suc n)))) l = refl

-- Every number is taken

pub named_any : (ss : List Sorting) (j : ℕ) (c : Column) (r : ℕ) → named_taken (number_order ss) j c r ≡ true
named_any ss j c r = rw (number_kinds ss j) (number_read c r)

pub none_untaken : (ss : List Sorting) (j : ℕ) (c : Column) (rs : List ℕ) → None ≡ find (λ r. not (named_taken (number_order ss) j c r)) rs
none_untaken ss j c [] = refl
none_untaken ss j c (r ∷ rs) = rw (named_any ss j c r) (none_untaken ss j c rs)

pub key_any : (ss : List Sorting) (cs : List Column) (r : ℕ) → key_taken (number_order ss) cs r ≡ true
key_any ss cs r = go ss cs 0
  where
    go : (ts : List Sorting) (ds : List Column) (j : ℕ) → takes_all (λ i c. takes_number c) j (key_read (map (λ s. numbers) ts) ds r) ≡ true
    go [] ds j = refl
    go (t ∷ ts) [] j = go ts [] (suc j)
    go (t ∷ ts) (d ∷ ds) j = and_from _ _ (number_read d r) (go ts ds (suc j))

-- The numbers of a key

-- the number in a row of column j, if such a column is given
abbrev pub given_at : List Column → ℕ → ℕ → Option ℤ
given_at cs j r = option_and_then (λ c. number_at c r) (slice_get cs j)

pub as_shown : (x : Option ℤ) → as_number (number_cell x) ≡ x
as_shown None = refl
as_shown (Some z) = refl

pub row_number : (ss : List Sorting) (cs : List Column) (j r : ℕ) → j < length ss → given_at cs j r ≡ as_number (get_or (key_read (map (λ s. numbers) ss) cs r) j null)
row_number [] cs j r h = absurd (omega arith)
row_number (s ∷ ss) [] zero r h = refl
row_number (s ∷ ss) [] (suc j) r h = row_number ss [] j r (omega arith)
row_number (s ∷ ss) (c ∷ cs) zero r h = sym (as_shown (number_at c r))
row_number (s ∷ ss) (c ∷ cs) (suc j) r h = row_number ss cs j r (omega arith)

pub row_key : (ss : List Sorting) (cs : List Column) (r : ℕ) → length ss ≤ 3
    → key_read (map (λ s. numbers) ss) cs r ≡ key_cells (length ss) (given_at cs 0 r ∷ given_at cs 1 r ∷ given_at cs 2 r ∷ [])
row_key [] cs r h = refl
row_key (s ∷ []) [] r h = refl
row_key (s ∷ []) (c ∷ cs) r h = refl
row_key (s ∷ t ∷ []) [] r h = refl
row_key (s ∷ t ∷ []) (c ∷ []) r h = refl
row_key (s ∷ t ∷ []) (c ∷ d ∷ cs) r h = refl
row_key (s ∷ t ∷ u ∷ []) [] r h = refl
row_key (s ∷ t ∷ u ∷ []) (c ∷ []) r h = refl
row_key (s ∷ t ∷ u ∷ []) (c ∷ d ∷ []) r h = refl
row_key (s ∷ t ∷ u ∷ []) (c ∷ d ∷ e ∷ cs) r h = refl
row_key (s ∷ t ∷ u ∷ v ∷ ss) cs r h = absurd (omega arith)

pub held_cell : (k : List (Option ℤ)) (n j : ℕ) → j < n → get_or (key_cells n k) j null ≡ number_cell (get_or k j None)
held_cell k zero j h = absurd (omega arith)
held_cell [] (suc n) j h = refl
held_cell (x ∷ k) (suc n) zero h = refl
held_cell (x ∷ k) (suc n) (suc j) h = held_cell k n j (omega arith)

pub held_number : (k : List (Option ℤ)) (n j : ℕ) → j < n → get_or k j None ≡ as_number (get_or (key_cells n k) j null)
held_number k n j h = sym (ap as_number (held_cell k n j h) ∙ as_shown (get_or k j None))

-- Column by column

-- how two keys stand by the columns from j on
abbrev pub from_column : List Sorting → ℕ → List Cell → List Cell → Ordering
from_column ss j a b = number_columns (drop j ss) (drop j a) (drop j b)

head_at : (a : List Cell) (j : ℕ) → head_cell (drop j a) ≡ get_or a j null
head_at [] zero = refl
head_at [] (suc j) = refl
head_at (x ∷ a) zero = refl
head_at (x ∷ a) (suc j) = head_at a j

tail_at : (a : List Cell) (j : ℕ) → tail_cells (drop j a) ≡ drop (suc j) a
tail_at [] zero = refl
tail_at [] (suc j) = refl
tail_at (x ∷ a) zero = refl
tail_at (x ∷ a) (suc j) = tail_at a j

-- past the last column keys are the same
pub past_last : (ss : List Sorting) (j : ℕ) (a b : List Cell) → length ss ≤ j → Equal ≡ from_column ss j a b
past_last [] zero a b h = refl
past_last [] (suc j) a b h = refl
past_last (s ∷ ss) zero a b h = absurd (omega arith)
past_last (s ∷ ss) (suc j) a b h = go ss j h
  where
    go : (ts : List Sorting) (i : ℕ) → suc (length ts) ≤ suc i → Equal ≡ number_columns (drop i ts) (drop (suc j) a) (drop (suc j) b)
    go [] zero h = refl
    go [] (suc i) h = refl
    go (t ∷ ts) zero h = absurd (omega arith)
    go (t ∷ ts) (suc i) h = go ts i (omega arith)

module _ (ss : List Sorting) (j : ℕ) (a b : List Cell) (d : Sorting) (x y : Option ℤ) (here : Ordering) (h : j < length ss) (p : x ≡ as_number (get_or a j null)) (q : y ≡ as_number (get_or b j null)) (e : here ≡ sorted_verdict int_cmp (get_or ss j d) x y) where
  at_column : from_column ss j a b ≡ ordering_then here (from_column ss (j + 1) a b)
  at_column =
      ap (λ ts. number_columns ts (drop j a) (drop j b)) (drop-cons ss j d h)
      ∙ ap₂ ordering_then
      (ap₂ (λ m n. sorted_verdict int_cmp (get_or ss j d) (as_number m) (as_number n)) (head_at a j) (head_at b j) ∙ sym (e ∙ ap₂ (sorted_verdict int_cmp (get_or ss j d)) p q))
      (ap₂ (number_columns (drop (suc j) ss)) (tail_at a j) (tail_at b j) ∙ ap (λ i. from_column ss i a b) (sym (add-one j)))

  -- by what the code's test of the verdict says
  pub decided : (t : Bool) → t ≡ not (ordering_index here == 1) → t ≡ true → here ≡ from_column ss j a b
  decided t f g = go here (from_column ss (j + 1) a b) (sym f ∙ g) ∙ sym at_column
    where
      go : (o r : Ordering) → not (ordering_index o == 1) ≡ true → o ≡ ordering_then o r
      go Less r n = refl
      go Equal r n = absurd (false≢true n)
      go Greater r n = refl

  pub tied : (t : Bool) → t ≡ not (ordering_index here == 1) → t ≡ false → from_column ss (j + 1) a b ≡ from_column ss j a b
  tied t f g = go here (from_column ss (j + 1) a b) (sym f ∙ g) ∙ sym at_column
    where
      go : (o r : Ordering) → not (ordering_index o == 1) ≡ false → r ≡ ordering_then o r
      go Less r n = absurd (false≢true (sym n))
      go Equal r n = refl
      go Greater r n = absurd (false≢true (sym n))

pub verdict_from : (ss : List Sorting) (a b : List Cell) → from_column ss 0 a b ≡ verdict (number_order ss) a b
verdict_from ss a b = sym (verdict_is (numbers_total ss) (map (λ s. numbers) ss) (λ j c. takes_number c) a b)
