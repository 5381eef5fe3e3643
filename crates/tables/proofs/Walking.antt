-- A walk over the order columns that are given, column by column, and over rows, row by row.
use Rattle.std.proofs.Common.{◌≡◌, ℕ, suc, ◌+◌, ◌<◌, ◌≤◌, Bool, true, false, not, ◌&&◌, ◌||◌, eqb, leb, nat_lt, List, [], ◌∷◌, map, length, get_or, take, drop, Ok, Err, sym, refl, ap, ap₂, ◌∙◌, ⊎_elim, arith}
use Rattle.std.specs.List.{list_any}
use Rattle.std.proofs.lemmas.List.{length-take-le, length-map, take-map, drop_more}
use Rattle.std.proofs.lemmas.Bool.{cases_lt, lt-leb, and_right}
use Rattle.column.specs.declared.Column as code
use Rattle.column.specs.Cells.{Kind}
use Rattle.column.specs.Checks.{outcome, refuse, first_of}
use Rattle.column.specs.Columns.{Column, cell_at}
use Rattle.column.specs.Seen.{column_seen, columns_seen}
use Rattle.tables.specs.declared.OrderFault.{OrderFault}
use Rattle.tables.specs.declared.OrderFault.TheVariants as order
use Rattle.tables.specs.Meaning.{Settings}
use Rattle.tables.specs.Reading.{named_taken}
use Rattle.tables.specs.Refusals.{some_column, some_of, other_kind, named_unread, cols_fit, past_column, untaken, rows_refused, key_unfit, key_refused}
use Rattle.tables.proofs.Declining.{declined, passed, refuse_passed, refused_test, first_alone}
use Rattle.tables.proofs.AsRead.{or_parts, named_is_taken}

pub columns_long : (os : List code.Column) (n : ℕ) → n ≤ length os → length (columns_seen os n) ≡ n
columns_long os n h = let m = length-map os column_seen in length-take-le n (map column_seen os) (omega arith)

-- The walks of the checks: what is left of a question from a column, or a row, on

module _ (p : ℕ → Column → Bool) (os : List code.Column) (i : ℕ) (d : code.Column) where
  pub column_here : i < length os → p i (column_seen (get_or os i d)) ≡ true → some_column p i (map column_seen (drop i os)) ≡ true
  column_here h e = rw (drop_more os i d h, e)

  pub column_next : i < length os → p i (column_seen (get_or os i d)) ≡ false → some_column p i (map column_seen (drop i os)) ≡ some_column p (i + 1) (map column_seen (drop (i + 1) os))
  column_next h e = rw (drop_more os i d h, e) (let y : i + 1 ≡ suc i = omega arith in rw y)

pub past_any : (os : List code.Column) (j r : ℕ) → some_column (λ i c. not (nat_lt r c.rows)) j (map column_seen os) ≡ list_any (λ c. not (nat_lt r c.rows)) os
past_any [] j r = refl
past_any (o ∷ os) j r = ap (λ t. not (nat_lt r o.rows) || t) (past_any os (suc j) r)

pub rows_any : (os : List code.Column) (rs : List ℕ) → some_of (past_column (map column_seen os)) rs ≡ list_any (λ r. list_any (λ c. not (nat_lt r c.rows)) os) rs
rows_any os [] = refl
rows_any os (r ∷ rs) = ap₂ (λ a b. a || b) (past_any os 0 r) (rows_any os rs)

pub row_here : (p : ℕ → Bool) (rs : List ℕ) (i d : ℕ) → i < length rs → p (get_or rs i d) ≡ true → some_of p (drop i rs) ≡ true
row_here p rs i d h e = rw (drop_more rs i d h, e)

pub row_next : (p : ℕ → Bool) (rs : List ℕ) (i d : ℕ) → i < length rs → p (get_or rs i d) ≡ false → some_of p (drop i rs) ≡ some_of p (drop (i + 1) rs)
row_next p rs i d h e = rw (drop_more rs i d h, e)

-- where each column is of the kind read in its place, its cells are taken as they are
pub untaken_read : (s : Settings) (cs : List Column) (j r : ℕ) → j + length cs ≤ length s.kinds → some_column (other_kind s.kinds) j cs ≡ false
    → some_column (λ i c. not (named_taken s i c r)) j cs ≡ some_column (λ i c. not (s.takes i (cell_at c r))) j cs
untaken_read s [] j r h e = refl
untaken_read s (c ∷ cs) j r h e =
    let p = or_parts (other_kind s.kinds j c) (some_column (other_kind s.kinds) (suc j) cs) e in
    ap₂ (λ a b. not a || b) (named_is_taken s j c r (omega arith) p.0) (untaken_read s cs (suc j) r (omega arith) p.1)

-- as many columns as are read, and 1 to 3, by the number alone
cols_is : (ks : List Kind) (os : List code.Column) (n : ℕ) → length os ≡ 3 → cols_fit ks (columns_seen os n) n ≡ (eqb n (length ks) && (leb 1 n && leb n 3))
cols_is ks os n l = ⊎_elim
    (λ h. let e : leb n 3 ≡ false = lt-leb n 3 h in rw (e, and_right (leb 1 n) false refl, and_right (eqb (length (columns_seen os n)) (length ks)) false refl, and_right (eqb n (length ks)) false refl))
    (λ h. rw (columns_long os n (omega arith)))
    (cases_lt 3 n)

-- the checks of a key by the number of columns, the group, and the rows of the columns that are given
pub key_is : (s : Settings) (out : Bool) (os : List code.Column) (n : ℕ) (rs : List ℕ) → length os ≡ 3
    → key_refused s out (columns_seen os n) n rs
    ≡ first_of (refuse (not (eqb n (length s.kinds) && (leb 1 n && leb n 3))) order.Cols
    ∷ refuse out order.Group
    ∷ rows_refused s (map column_seen (take n os)) rs ∷ [])
unfolding key_refused key_unfit rows_refused
key_is s out os n rs l =
    go (cols_fit s.kinds (columns_seen os n) n) out (some_column (other_kind s.kinds) 0 (columns_seen os n)) (some_of (past_column (columns_seen os n)) rs) (some_of (untaken s (columns_seen os n)) rs)
    ∙ ap₂ (λ b cs. first_of (refuse (not b) order.Cols ∷ refuse out order.Group ∷ rows_refused s cs rs ∷ [])) (cols_is s.kinds os n l) (take-map column_seen n os)
  where
    go : (a b c d e : Bool) → first_of (first_of (refuse (not a) order.Cols ∷ refuse b order.Group ∷ refuse c order.Kind ∷ refuse d order.Rows ∷ []) ∷ refuse e order.Long ∷ [])
        ≡ first_of (refuse (not a) order.Cols ∷ refuse b order.Group ∷ first_of (first_of (refuse c order.Kind ∷ refuse d order.Rows ∷ []) ∷ refuse e order.Long ∷ []) ∷ [])
    go false b c d e = refl
    go true true c d e = refl
    go true false true d e = refl
    go true false false true e = refl
    go true false false false true = refl
    go true false false false false = refl

-- what an order says of the kind of a column that is given in one of its places

module _ (ks : List Kind) (os : List code.Column) (i : ℕ) (d : code.Column) where
  named_within : (c : Column) → i < length ks → named_unread ks i c ≡ refuse (other_kind ks i c) order.Kind
  unfolding named_unread
  named_within c h = rw (lt-leb (length ks) i h) (first_alone (refuse (other_kind ks i c) order.Kind))

  pub kind_here : (f : OrderFault) → i < length ks → i < length os → Err f ≡ outcome (named_unread ks i (column_seen (get_or os i d))) (tt {0})
      → (some_column (other_kind ks) i (map column_seen (drop i os)) ≡ true) × (order.Kind ≡ f)
  kind_here f h l e =
      let t = refused_test _ _ _ (sym (named_within (column_seen (get_or os i d)) h) ∙ declined _ _ _ e) in
      (column_here (other_kind ks) os i d l t.0, t.1)

  pub kind_next : i < length ks → i < length os → Ok (tt {0}) ≡ outcome (named_unread ks i (column_seen (get_or os i d))) (tt {0})
      → some_column (other_kind ks) i (map column_seen (drop i os)) ≡ some_column (other_kind ks) (i + 1) (map column_seen (drop (i + 1) os))
  kind_next h l e = column_next (other_kind ks) os i d l (refuse_passed _ _ (sym (named_within (column_seen (get_or os i d)) h) ∙ passed _ _ _ e))
