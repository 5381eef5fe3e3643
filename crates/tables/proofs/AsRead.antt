-- Columns that are read as the kinds of a state or an order show their own cells wherever they are of these kinds.
use Rattle.std.proofs.Common.{◌≡◌, ℕ, zero, suc, ◌<◌, Bool, true, false, not, ◌&&◌, ◌||◌, List, [], ◌∷◌, length, get_or, sym, refl, ap, ap₂, ◌∙◌, arith}
use Rattle.std.proofs.lemmas.Bool.{eqb-true, and_parts, not-false, false≢true}
use Rattle.column.specs.Cells.{Kind, numbers, same_kind}
use Rattle.column.specs.Columns.{Column, cell_at}
use Rattle.tables.specs.Meaning.{Settings, state_of}
use Rattle.tables.specs.Reading.{cell_read, cell_taken, named_read, named_taken, key_read, takes_all, key_taken}
use Rattle.tables.specs.Refusals.{other_kind, some_column, cols_fit, untaken, key_at}
use Rattle.tables.proofs.Held.{same_kinds, kind_shown}

-- Value columns

pub cell_is_read : (s : Settings) (c : Column) (r : ℕ) → same_kind c.kind (state_of s).kind ≡ true → cell_read s c r ≡ cell_at c r
cell_is_read s c r e = sym (kind_shown (state_of s).kind c r (same_kinds c.kind (state_of s).kind e))

pub cell_is_taken : (s : Settings) (c : Column) (r : ℕ) → same_kind c.kind (state_of s).kind ≡ true → cell_taken s c r ≡ s.takes 0 (cell_at c r)
cell_is_taken s c r e = ap (s.takes 0) (cell_is_read s c r e)

-- Key columns, one by one

-- an element of a list, whatever is taken where there is none
within_any : {X : Type 0} (xs : List X) (j : ℕ) (d e : X) → j < length xs → get_or xs j d ≡ get_or xs j e
within_any [] j d e h = absurd (omega arith)
within_any (x ∷ xs) zero d e h = refl
within_any (x ∷ xs) (suc j) d e h = within_any xs j d e (omega arith)

pub named_is_read : (s : Settings) (j : ℕ) (c : Column) (r : ℕ) → j < length s.kinds → other_kind s.kinds j c ≡ false → named_read s j c r ≡ cell_at c r
named_is_read s j c r h e =
    sym (kind_shown (get_or s.kinds j numbers) c r
    (same_kinds c.kind (get_or s.kinds j c.kind) (not-false _ e) ∙ within_any s.kinds j c.kind numbers h))

pub named_is_taken : (s : Settings) (j : ℕ) (c : Column) (r : ℕ) → j < length s.kinds → other_kind s.kinds j c ≡ false → named_taken s j c r ≡ s.takes j (cell_at c r)
named_is_taken s j c r h e = ap (s.takes j) (named_is_read s j c r h e)

-- All key columns

pub other_later : (k : Kind) (ks : List Kind) (j : ℕ) (cs : List Column) → some_column (other_kind (k ∷ ks)) (suc j) cs ≡ some_column (other_kind ks) j cs
other_later k ks j [] = refl
other_later k ks j (c ∷ cs) = ap (λ t. other_kind ks j c || t) (other_later k ks (suc j) cs)

pub or_parts : (a b : Bool) → (a || b) ≡ false → (a ≡ false) × (b ≡ false)
or_parts true b e = absurd (false≢true (sym e))
or_parts false b e = (refl, e)

-- as many columns as kinds, each of the kind in its place
pub kinds_read : (ks : List Kind) (cs : List Column) (r : ℕ) → length cs ≡ length ks → some_column (other_kind ks) 0 cs ≡ false → key_read ks cs r ≡ key_at cs r
kinds_read [] [] r l e = refl
kinds_read [] (c ∷ cs) r l e = absurd (omega arith)
kinds_read (k ∷ ks) [] r l e = absurd (omega arith)
kinds_read (k ∷ ks) (c ∷ cs) r l e =
    let p = or_parts (not (same_kind c.kind k)) (some_column (other_kind (k ∷ ks)) 1 cs) e in
    ap₂ (λ x xs. x ∷ xs) (sym (kind_shown k c r (same_kinds c.kind k (not-false _ p.0))))
    (kinds_read ks cs r (omega arith) (sym (other_later k ks 0 cs) ∙ p.1))

pub columns_fit : (ks : List Kind) (cs : List Column) (n : ℕ) → cols_fit ks cs n ≡ true → length cs ≡ length ks
columns_fit ks cs n e = eqb-true _ _ (and_parts _ _ e).0

pub key_is_read : (ks : List Kind) (cs : List Column) (n r : ℕ) → cols_fit ks cs n ≡ true → some_column (other_kind ks) 0 cs ≡ false → key_read ks cs r ≡ key_at cs r
key_is_read ks cs n r l e = kinds_read ks cs r (columns_fit ks cs n l) e

taken_all : (s : Settings) (cs : List Column) (j r : ℕ) → takes_all s.takes j (key_at cs r) ≡ not (some_column (λ i c. not (s.takes i (cell_at c r))) j cs)
taken_all s [] j r = refl
taken_all s (c ∷ cs) j r = go (s.takes j (cell_at c r)) _ _ (taken_all s cs (suc j) r)
  where
    go : (t a b : Bool) → a ≡ not b → (t && a) ≡ not (not t || b)
    go true a b e = e
    go false a b e = refl

-- the same by the number of columns alone
pub columns_taken : (s : Settings) (cs : List Column) (r : ℕ) → length cs ≡ length s.kinds → some_column (other_kind s.kinds) 0 cs ≡ false → key_taken s cs r ≡ not (untaken s cs r)
columns_taken s cs r l e = ap (takes_all s.takes 0) (kinds_read s.kinds cs r l e) ∙ taken_all s cs 0 r

pub key_is_taken : (s : Settings) (cs : List Column) (n r : ℕ) → cols_fit s.kinds cs n ≡ true → some_column (other_kind s.kinds) 0 cs ≡ false → key_taken s cs r ≡ not (untaken s cs r)
key_is_taken s cs n r l e = columns_taken s cs r (columns_fit s.kinds cs n l) e
