-- Going through the rows and through the order columns.
use Rattle.std.proofs.Common.{◌≡◌, ℕ, zero, suc, ◌+◌, ◌<◌, ◌≤◌, Bool, true, false, cond, ◌||◌, List, [], ◌∷◌, map, length, get_or, drop, take, slice_get, find, Some, None, Option, sym, refl, ap, ap₂, ◌∙◌, add-zero, add-one, arith}
use lib.ListN.{get_or-map}
use Rattle.std.specs.Option.{option_map}
use Rattle.std.specs.List.{list_any, position, position_from}
use Rattle.std.proofs.lemmas.Iterator.Adapters.{position_from-zero}
use Rattle.std.proofs.lemmas.List.{length-map, length-take, drop_more, drop_all, take-map}
use Rattle.std.proofs.lemmas.Option.{slice_get_within}
use Rattle.std.proofs.lemmas.Bool.{false≢true, lt-leb}
use Rattle.column.specs.declared.Column as code
use Rattle.keeping.specs.declared.Given as coded
use Rattle.book.specs.Batches.{order_columns}
use Rattle.keeping.specs.Seen.{given_seen}
use Rattle.column.specs.Cells.{Cell}
use Rattle.column.specs.Checks.{first_of}
use Rattle.column.specs.Columns.{Column, count_up}
use Rattle.column.specs.Faults.{Fault}
use Rattle.column.specs.Seen.{column_seen, columns_seen}
use Rattle.book.specs.Winners.{Making}
use Rattle.book.specs.Declines.{at_row, at_column, cols, kind, kind_check, rows_check, long_check}
use Rattle.tables.specs.Refusals.{named_unread}
use Rattle.keeping.proofs.Checking.{first_one, first_two_none, refuse_none, kind_parts, cols_read, rows_same}

-- Rows

-- the fault at the lowest row with a test, by the first that is found
row_first : (p q : ℕ → Bool) (f : ℕ → Fault) (xs : List ℕ) → ((r : ℕ) → q r ≡ p r) → at_row p f xs ≡ option_map f (find q xs)
row_first p q f [] e = refl
row_first p q f (x ∷ xs) e = rw (e x) (go (p x) (row_first p q f xs e))
  where
    go : (b : Bool) → at_row p f xs ≡ option_map f (find q xs) → cond b (Some (f x)) (at_row p f xs) ≡ option_map f (cond b (Some x) (find q xs))
    go true k = refl
    go false k = k

-- what is declined at the row that is found
pub first_row : (p q : ℕ → Bool) (f : ℕ → Fault) (n : ℕ) (o : Option ℕ) (x : Option Fault) → ((r : ℕ) → q r ≡ p r) → o ≡ find q (count_up 0 n) → x ≡ option_map f o → x ≡ at_row p f (count_up 0 n)
first_row p q f n o x e k h = h ∙ ap (option_map f) k ∙ sym (row_first p q f (count_up 0 n) e)

-- a row that is found is one of so many, and has the test
found_from_row : (q : ℕ → Bool) (n i r : ℕ) → find q (count_up i n) ≡ Some r → (r < i + n) × (q r ≡ true)
found_from_row q zero i r e = cc
found_from_row q (suc n) i r e = go (q i) refl e (found_from_row q n (suc i) r)
  where
    go : (b : Bool) → q i ≡ b → cond b (Some i) (find q (count_up (suc i) n)) ≡ Some r
        → (find q (count_up (suc i) n) ≡ Some r → (r < suc i + n) × (q r ≡ true)) → (r < i + suc n) × (q r ≡ true)
    go true k h next = let z : i ≡ r = cc in (omega arith, ap q (sym z) ∙ k)
    go false k h next = let w = next h in (omega (arith, w.0), w.1)

pub found_row : (q : ℕ → Bool) (n r : ℕ) → Some r ≡ find q (count_up 0 n) → (r < n) × (q r ≡ true)
found_row q n r e = let w = found_from_row q n 0 r (sym e) in (omega (arith, w.0), w.1)

-- where none of so many elements from the front on has a test, the first that has one is among the others
pub skip_from : (p : ℕ → Bool) (n : ℕ) (xs : List ℕ) (i : ℕ) → list_any p (take n xs) ≡ false → position_from p i xs ≡ position_from p (i + n) (drop n xs)
skip_from p zero xs i e = rw add-zero refl
skip_from p (suc n) [] i e = refl
skip_from p (suc n) (x ∷ xs) i e = go (p x) e (skip_from p n xs (i + 1))
  where
    go : (b : Bool) → (b || list_any p (take n xs)) ≡ false → (list_any p (take n xs) ≡ false → position_from p (i + 1) xs ≡ position_from p (i + 1 + n) (drop n xs))
        → cond b (Some i) (position_from p (i + 1) xs) ≡ position_from p (i + suc n) (drop n xs)
    go true k h = absurd (false≢true (sym k))
    go false k h = let z : i + suc n ≡ i + 1 + n = omega arith in rw z (h k)

-- counted from further on
shift_from : (p : ℕ → Bool) (n : ℕ) (xs : List ℕ) (i : ℕ) → position_from p (i + n) xs ≡ option_map (λ r. n + r) (position_from p i xs)
shift_from p n [] i = refl
shift_from p n (x ∷ xs) i = go (p x) (shift_from p n xs (i + 1))
  where
    go : (b : Bool) → position_from p (i + 1 + n) xs ≡ option_map (λ r. n + r) (position_from p (i + 1) xs)
        → cond b (Some (i + n)) (position_from p (i + n + 1) xs) ≡ option_map (λ r. n + r) (cond b (Some i) (position_from p (i + 1) xs))
    go true h = let z : i + n ≡ n + i = omega arith in ap Some z
    go false h = let z : i + n + 1 ≡ i + 1 + n = omega arith in rw z h

pub position_behind : (p : ℕ → Bool) (n : ℕ) (xs : List ℕ) → position_from p n xs ≡ option_map (λ r. n + r) (position p xs)
position_behind p n xs = let z : 0 + n ≡ n = omega arith in (rw z at (shift_from p n xs 0)) ∙ ap (option_map (λ r. n + r)) (sym (position_from-zero p xs))

-- the lowest row with a test, as the place of the first number that passes it
found_from : (p q : ℕ → Bool) (f : ℕ → Fault) (xs : List ℕ) (i : ℕ) → ((k : ℕ) → k < length xs → q (i + k) ≡ p (get_or xs k 0))
    → option_map f (position_from p i xs) ≡ at_row q f (count_up i (length xs))
found_from p q f [] i h = refl
found_from p q f (x ∷ xs) i h =
    let e : q i ≡ p x = (rw add-zero at (h zero (omega arith))) in
    rw (e, add-one i) (go (p x) (found_from p q f xs (suc i) (λ k l. let z : i + suc k ≡ suc i + k = omega arith in rw z at (h (suc k) (omega arith)))))
  where
    go : (b : Bool) → option_map f (position_from p (suc i) xs) ≡ at_row q f (count_up (suc i) (length xs))
        → option_map f (cond b (Some i) (position_from p (suc i) xs)) ≡ cond b (Some (f i)) (at_row q f (count_up (suc i) (length xs)))
    go true k = refl
    go false k = k

pub row_found : (p : ℕ → Bool) (f : ℕ → Fault) (xs : List ℕ) → option_map f (position p xs) ≡ at_row (λ r. p (get_or xs r 0)) f (count_up 0 (length xs))
row_found p f xs =
    ap (option_map f) (position_from-zero p xs) ∙ found_from p (λ r. p (get_or xs r 0)) f xs 0 (λ k h. let z : 0 + k ≡ k = omega arith in rw z)

-- Columns

key_next : (ks : List code.Column) (j : ℕ) (d : code.Column) → j < length ks → drop j (map column_seen ks) ≡ column_seen (get_or ks j d) ∷ drop (j + 1) (map column_seen ks)
key_next ks j d h =
    let l = length-map ks column_seen in
    drop_more (map column_seen ks) j (column_seen d) (omega arith) ∙ ap (λ c. c ∷ drop (j + 1) (map column_seen ks)) (get_or-map column_seen ks j d)

pub column_next : (check : ℕ → Column → Option Fault) (ks : List code.Column) (j : ℕ) (d : code.Column) → j < length ks
    → check j (column_seen (get_or ks j d)) ≡ None → at_column check j (drop j (map column_seen ks)) ≡ at_column check (j + 1) (drop (j + 1) (map column_seen ks))
column_next check ks j d h e =
    ap (at_column check j) (key_next ks j d h)
    ∙ ap (λ o. first_of (o ∷ at_column check (suc j) (drop (j + 1) (map column_seen ks)) ∷ [])) e
    ∙ first_one (at_column check (suc j) (drop (j + 1) (map column_seen ks)))
    ∙ ap (λ i. at_column check i (drop (j + 1) (map column_seen ks))) (sym (add-one j))

pub column_here : (check : ℕ → Column → Option Fault) (ks : List code.Column) (j : ℕ) (d : code.Column) (x : Fault) → j < length ks
    → check j (column_seen (get_or ks j d)) ≡ Some x → at_column check j (drop j (map column_seen ks)) ≡ Some x
column_here check ks j d x h e =
    ap (at_column check j) (key_next ks j d h) ∙ ap (λ o. first_of (o ∷ at_column check (suc j) (drop (j + 1) (map column_seen ks)) ∷ [])) e

pub column_done : (check : ℕ → Column → Option Fault) (ks : List code.Column) (j : ℕ) → length ks ≤ j → at_column check j (drop j (map column_seen ks)) ≡ None
column_done check ks j h = let l = length-map ks column_seen in ap (at_column check j) (drop_all j (map column_seen ks) (omega arith))

passed_from : (check : ℕ → Column → Option Fault) (os : List code.Column) (n i j : ℕ) (c : code.Column) → j < n → slice_get os j ≡ Some c
    → at_column check i (columns_seen os n) ≡ None → check (i + j) (column_seen c) ≡ None
passed_from check [] n i j c h e k = cc
passed_from check (o ∷ os) zero i j c h e k = absurd (omega arith)
passed_from check (o ∷ os) (suc n) i zero c h e k =
    let same : o ≡ c = cc in
    rw (add-zero, ← same) (first_two_none (check i (column_seen o)) (at_column check (suc i) (columns_seen os n)) k).0
passed_from check (o ∷ os) (suc n) i (suc j) c h e k =
    let q : i + suc j ≡ suc i + j = omega arith in
    rw q (passed_from check os n (suc i) j c (omega arith) e (first_two_none (check i (column_seen o)) (at_column check (suc i) (columns_seen os n)) k).1)

-- what held of no column held not of column j
pub column_passed : (check : ℕ → Column → Option Fault) (os : List code.Column) (n j : ℕ) (c : code.Column) → j < n → slice_get os j ≡ Some c
    → at_column check 0 (columns_seen os n) ≡ None → check j (column_seen c) ≡ None
column_passed check os n j c h e k = let z : 0 + j ≡ j = omega arith in rw z at (passed_from check os n 0 j c h e k)

-- the order columns as they are seen
pub keys_seen : (check : ℕ → Column → Option Fault) (g : coded.Given) (ks : List code.Column) → ks ≡ take g.count g.orders
    → at_column check 0 (map column_seen ks) ≡ at_column check 0 (order_columns (given_seen g))
keys_seen check g ks e = ap (λ xs. at_column check 0 (map column_seen xs)) e ∙ ap (at_column check 0) (sym (take-map column_seen g.count g.orders))

-- What is known of each order column that is given

-- a column is read in the place of each that is given
pub read_at : (m : Making) (g : coded.Given) → cols m (given_seen g) ≡ None → (j : ℕ) (c : code.Column) → j < g.count → slice_get g.orders j ≡ Some c → j < length m.order.kinds
read_at m g e j c h k =
    let a = cols_read m (given_seen g) e in
    let l = slice_get_within g.orders j c k in
    let n = length-map g.orders column_seen in
    let t = length-take g.count (map column_seen g.orders) in
    omega arith

pub unread_at : (m : Making) (g : coded.Given) → cols m (given_seen g) ≡ None → kind m (given_seen g) ≡ None → (j : ℕ) (c : code.Column) → j < g.count → slice_get g.orders j ≡ Some c
    → named_unread m.order.kinds j (column_seen c) ≡ None
unfolding named_unread
unread_at m g e k j c h l =
    let p = lt-leb (length m.order.kinds) j (read_at m g e j c h l) in
    let q = refuse_none _ _ (column_passed (kind_check m.order.kinds) g.orders g.count j c h l (kind_parts m (given_seen g) k).1) in
    rw (p, q)

-- LONG by the rows of each order column, which has as many as the value column
pub long_alike : (takes : ℕ → Cell → Bool) (n : ℕ) (cs : List Column) (j : ℕ) → at_column (rows_check n) j cs ≡ None
    → at_column (λ i c. long_check takes (count_up 0 c.rows) i c) j cs ≡ at_column (long_check takes (count_up 0 n)) j cs
long_alike takes n [] j e = refl
long_alike takes n (c ∷ cs) j e =
    let p = first_two_none (rows_check n j c) (at_column (rows_check n) (suc j) cs) e in
    ap₂ (λ k o. first_of (long_check takes (count_up 0 k) j c ∷ o ∷ [])) (rows_same c.rows n _ p.0) (long_alike takes n cs (suc j) p.1)
