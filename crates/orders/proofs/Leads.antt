-- The first column of a number order tells rows apart before all others.
use Rattle.std.proofs.Common.{◌≡◌, ℕ, zero, suc, ◌≤◌, true, List, [], ◌∷◌, map, length, get_or, take, Some, subst, Ordering, Less, Equal, Greater, sym, refl, ap, ap₂, ◌∙◌, arith}
use Rattle.std.specs.List.{slice_get}
use Rattle.std.specs.Ordering.{int_cmp, ordering_then}
use Rattle.std.specs.Prelude.{◌≢◌}
use Rattle.column.specs.Cells.{numbers}
use Rattle.column.specs.Columns.{Column, number_at}
use Rattle.column.specs.declared.Column as code
use Rattle.column.specs.Seen.{column_seen}
use Rattle.tables.specs.declared.leading.Leading.{Leading}
use Rattle.tables.specs.declared.Sorting.{Sorting}
use Rattle.tables.specs.Delivered.{tail_cells, number_columns, number_order}
use Rattle.tables.specs.Leading.{leading_verdict, LeadsIn}
use Rattle.tables.specs.Missing.{sorted_verdict}
use Rattle.tables.specs.Reading.{key_read}
use Rattle.tables.specs.Refusals.{verdict}
use Rattle.orders.proofs.Numbers.{as_shown, verdict_from}

module _ (l : Leading) (t : Sorting) (ss : List Sorting) (cs : List Column) (e : l.sort ≡ t) where
  -- the other columns
  rest : ℕ → ℕ → Ordering
  rest a b = number_columns ss (tail_cells (key_read (map (λ s. numbers) (t ∷ ss)) (column_seen l.column ∷ cs) a)) (tail_cells (key_read (map (λ s. numbers) (t ∷ ss)) (column_seen l.column ∷ cs) b))

  first : (a b : ℕ) → verdict (number_order (t ∷ ss)) (key_read (map (λ s. numbers) (t ∷ ss)) (column_seen l.column ∷ cs) a) (key_read (map (λ s. numbers) (t ∷ ss)) (column_seen l.column ∷ cs) b) ≡ ordering_then (leading_verdict l a b) (rest a b)
  unfolding rest
  first a b =
      sym (verdict_from (t ∷ ss) _ _)
      ∙ ap₂ (λ x y. ordering_then (sorted_verdict int_cmp t x y) (rest a b)) (as_shown (number_at (column_seen l.column) a)) (as_shown (number_at (column_seen l.column) b))
      ∙ ap (λ s. ordering_then (sorted_verdict int_cmp s (number_at (column_seen l.column) a) (number_at (column_seen l.column) b)) (rest a b)) (sym e)

  leads_apart : (a b : ℕ) → leading_verdict l a b ≢ Equal → verdict (number_order (t ∷ ss)) (key_read (map (λ s. numbers) (t ∷ ss)) (column_seen l.column ∷ cs) a) (key_read (map (λ s. numbers) (t ∷ ss)) (column_seen l.column ∷ cs) b) ≡ leading_verdict l a b
  leads_apart a b n = first a b ∙ go (leading_verdict l a b) (rest a b) n
    where
      go : (o r : Ordering) → o ≢ Equal → ordering_then o r ≡ o
      go Less r n = refl
      go Equal r n = absurd (n refl)
      go Greater r n = refl

leads_alone : (l : Leading) (t : Sorting) (cs : List Column) → l.sort ≡ t → (a b : ℕ) → verdict (number_order (t ∷ [])) (key_read (numbers ∷ []) (column_seen l.column ∷ cs) a) (key_read (numbers ∷ []) (column_seen l.column ∷ cs) b) ≡ leading_verdict l a b
unfolding rest
leads_alone l t cs e a b = first l t [] cs e a b ∙ go (leading_verdict l a b)
  where
    go : (o : Ordering) → ordering_then o Equal ≡ o
    go Less = refl
    go Equal = refl
    go Greater = refl

leads : (l : Leading) (table : List Sorting) (n : ℕ) (d : Sorting) (cs : List Column) → 1 ≤ n → length table ≡ 3 → l.sort ≡ get_or table 0 d → (l.decides ≡ true → n ≡ 1) → LeadsIn (number_order (take n table)) (column_seen l.column ∷ cs) l
leads l [] n d cs h k e f = absurd (omega arith)
leads l (t ∷ ts) zero d cs h k e f = absurd (omega arith)
leads l (t ∷ ts) (suc zero) d cs h k e f = record { apart = leads_apart l t [] cs e; alone = λ g. leads_alone l t cs e }
leads l (t ∷ ts) (suc (suc n)) d cs h k e f = record { apart = leads_apart l t (take (suc n) ts) cs e; alone = λ g. absurd (let z = f g in omega arith) }

-- the first of the columns that are given
pub leads_first : (l : Leading) (table : List Sorting) (n : ℕ) (d : Sorting) (cs : List code.Column) → Some l.column ≡ slice_get cs 0 → 1 ≤ n → length table ≡ 3 → l.sort ≡ get_or table 0 d → (l.decides ≡ true → n ≡ 1)
    → LeadsIn (number_order (take n table)) (map column_seen cs) l
leads_first l table n d [] g h k e f = cc
leads_first l table n d (c ∷ cs) g h k e f =
    let z : l.column ≡ c = cc in
    subst (λ x. LeadsIn (number_order (take n table)) (column_seen x ∷ map column_seen cs) l) z (leads l table n d (map column_seen cs) h k e f)
