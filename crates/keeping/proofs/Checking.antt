-- What the checks of a batch find.
use Rattle.std.proofs.Common.{◌≡◌, ℕ, ◌<◌, ◌≤◌, Bool, true, false, not, ◌&&◌, eqb, ltb, leb, List, [], ◌∷◌, map, length, get_or, IsErrAnd, Some, None, Option, Result, sym, refl, ap, ap₂, ◌∙◌, arith}
use Rattle.std.specs.List.{AllByRecursion}
use Rattle.column.specs.declared.Column as code
use Rattle.tables.specs.declared.TableFault.TheVariants as table
use Rattle.tables.specs.declared.StateFault.TheVariants as state
use Rattle.tables.specs.declared.OrderFault.TheVariants as order
use Rattle.faults.specs.declared.Fault as coded
use Rattle.std.proofs.lemmas.Result.{err_from_is_err_and}
use Rattle.std.proofs.lemmas.Bool.{lt-ltb, lt-leb, leb-true, eqb-true, not-false, and_parts, and_right}
use Rattle.std.proofs.lemmas.List.{length-take-le, length-map}
use Rattle.column.specs.Cells.{Kind, same_kind}
use Rattle.column.specs.Checks.{refuse, first_of, outcome}
use Rattle.column.specs.Columns.{Column, cell_at, count_up, Flags}
use Rattle.column.specs.Faults.{Fault, fault, COLS, LONG, TOTAL, GROUP, SHRUNK, in_state, in_order, in_accumulator}
use Rattle.column.specs.Seen.{columns_seen, column_seen}
use Rattle.tables.specs.Meaning.{Settings, state_of}
use Rattle.tables.specs.Refusals.{growing, cell_refused, named_unread, named_refused, other_kind}
use Rattle.book.specs.Batches.{Given, Batch, order_columns}
use Rattle.book.specs.Declines.{at_row, at_column, order_column, own, cols, kind, kind_check, rows, long, rows_check, rows_differ, batch_declined, ungrouped_declined}
use Rattle.book.specs.Winners.{Making}
use Rattle.faults.specs.Reported.{own_of, placed, place_number, declined_seen, fault_seen}
use Rattle.faults.specs.declared.Place.{Place}
use Rattle.faults.specs.declared.Place.TheVariants.{Values, Call}
use Rattle.faults.specs.declared.Refusal.{Refusal}
use Rattle.faults.specs.declared.Refusal.TheVariants.{State, Order, Own}
use Rattle.keeping.specs.declared.Given as coded_given
use Rattle.keeping.specs.Seen.{given_seen, made_with, reading}

-- Reading a lower layer's refusal

pub first_one : {F : Type 0} (o : Option F) → first_of (o ∷ []) ≡ o
first_one None = refl
first_one (Some f) = refl

pub refused : {F : Type 0} (whole : F → Refusal) (t : Bool) (f : F) (p : Place) (n : ℕ)
    → declined_seen (placed whole (outcome (refuse t f) (tt {0})) p n) ≡ refuse t (fault_seen (record { refusal = whole f; place = p; row = n }))
refused whole true f p n = refl
refused whole false f p n = refl

pub value_long_is : (s : Settings) (c : Column) (r : ℕ) → same_kind c.kind (state_of s).kind ≡ true → r < c.rows
    → declined_seen (placed State (outcome (cell_refused s false c r) (tt {0})) Values r) ≡ refuse (not (s.takes 0 (cell_at c r))) (fault LONG in_state 0 r)
unfolding cell_refused
value_long_is s c r k l = rw (k, lt-ltb r c.rows l, first_one (refuse (not (s.takes 0 (cell_at c r))) state.Long)) (refused State (not (s.takes 0 (cell_at c r))) state.Long Values r)

pub order_kind_is : (ks : List Kind) (j : ℕ) (c : Column) (p : Place) → j < length ks → place_number p ≡ order_column j
    → declined_seen (placed Order (outcome (named_unread ks j c) (tt {0})) p 0) ≡ kind_check ks j c
unfolding named_unread
order_kind_is ks j c p h e = rw (lt-leb (length ks) j h, first_one (refuse (other_kind ks j c) order.Kind), ← e) (refused Order (other_kind ks j c) order.Kind p 0)

pub order_long_is : (s : Settings) (j : ℕ) (c : Column) (r : ℕ) (p : Place) → place_number p ≡ order_column j → named_unread s.kinds j c ≡ None → r < c.rows
    → declined_seen (placed Order (outcome (named_refused s j c r) (tt {0})) p r) ≡ refuse (not (s.takes j (cell_at c r))) (fault LONG in_order (order_column j) r)
unfolding named_refused
order_long_is s j c r p e u l = rw (u, lt-ltb r c.rows l, first_one (refuse (not (s.takes j (cell_at c r))) order.Long), ← e) (refused Order (not (s.takes j (cell_at c r))) order.Long p r)

pub total_is : (held total : ℕ) → declined_seen (placed (λ f. Own (own_of f)) (outcome (growing held total) (tt {0})) Call 0) ≡ first_of (refuse (ltb 256 total) (own TOTAL) ∷ refuse (ltb total held) (own SHRUNK) ∷ [])
unfolding growing
total_is held total = go (ltb 256 total) (ltb total held)
  where
    go : (many few : Bool) → declined_seen (placed (λ f. Own (own_of f)) (outcome (first_of (refuse many table.Total ∷ refuse few table.Shrunk ∷ [])) (tt {0})) Call 0) ≡ first_of (refuse many (own TOTAL) ∷ refuse few (own SHRUNK) ∷ [])
    go true few = refl
    go false true = refl
    go false false = refl

-- The first of some checks

first_none : (a : Option Fault) (cs : List (Option Fault)) → first_of (a ∷ cs) ≡ None → (a ≡ None) × (first_of cs ≡ None)
first_none None cs e = (refl, e)
first_none (Some f) cs e = (cc, cc)

-- where the first check that holds is none, no check holds
pub none_hold : (cs : List (Option Fault)) → first_of cs ≡ None → AllByRecursion (λ o. o ≡ None) cs
none_hold [] e = tt
none_hold (c ∷ cs) e = let p = first_none c cs e in (p.0, none_hold cs p.1)

pub first_two_none : (a b : Option Fault) → first_of (a ∷ b ∷ []) ≡ None → (a ≡ None) × (b ≡ None)
first_two_none None b e = (refl, sym (first_one b) ∙ e)
first_two_none (Some f) b e = (cc, cc)

pub refuse_none : (b : Bool) (f : Fault) → refuse b f ≡ None → b ≡ false
refuse_none true f e = cc
refuse_none false f e = refl

-- the exit of a `?`
pub exits : {X : Type 0} (r : Result X coded.Fault) (e : coded.Fault) (o : Option Fault) → IsErrAnd r (λ y. y ≡ e) → Some (fault_seen e) ≡ o → declined_seen r ≡ o
exits r e o h k = let p = err_from_is_err_and r h in rw (p.1, p.2) k

-- two checks, one after the other
pub first_some : (a b : Option Fault) (x : Fault) → Some x ≡ a → Some x ≡ first_of (a ∷ b ∷ [])
first_some a b x e = ap (λ o. first_of (o ∷ b ∷ [])) e

pub first_then : (a b r : Option Fault) → None ≡ a → r ≡ b → r ≡ first_of (a ∷ b ∷ [])
first_then a b r e k = k ∙ sym (first_one b) ∙ ap (λ o. first_of (o ∷ b ∷ [])) e

pub kind_parts : (m : Making) (g : Given) → kind m g ≡ None → (same_kind g.value.kind m.state.kind ≡ true) × (at_column (kind_check m.order.kinds) 0 (order_columns g) ≡ None)
unfolding kind
kind_parts m g e =
    let p = first_two_none _ _ e in
    (not-false _ (refuse_none _ _ p.0), p.1)

pub rows_same : (a b : ℕ) (f : Fault) → refuse (not (eqb a b)) f ≡ None → a ≡ b
rows_same a b f e = eqb-true a b (not-false _ (refuse_none _ _ e))

-- the last check decides
pub ends_so : (a r : Option Fault) → r ≡ a → r ≡ first_of (a ∷ [])
ends_so a r e = e ∙ sym (first_one a)

-- the first of some checks declines; the second of three does, or the third decides
pub first_declines : (a : Option Fault) (cs : List (Option Fault)) (x : Fault) → Some x ≡ a → Some x ≡ first_of (a ∷ cs)
first_declines a cs x e = ap (λ o. first_of (o ∷ cs)) e

pub second_declines : (a b c : Option Fault) (x : Fault) → None ≡ a → Some x ≡ b → first_of (a ∷ b ∷ c ∷ []) ≡ Some x
second_declines a b c x e k = ap₂ (λ o p. first_of (o ∷ p ∷ c ∷ [])) (sym e) (sym k)

pub third_decides : (a b c r : Option Fault) → None ≡ a → None ≡ b → r ≡ c → first_of (a ∷ b ∷ c ∷ []) ≡ r
third_decides a b c r e k d = ap₂ (λ o p. first_of (o ∷ p ∷ c ∷ [])) (sym e) (sym k) ∙ first_one c ∙ sym d

-- two checks that were made as one
pub two_stop : (a b : Option Fault) (cs : List (Option Fault)) (x : Fault) → Some x ≡ first_of (a ∷ b ∷ []) → Some x ≡ first_of (a ∷ b ∷ cs)
two_stop None b cs x e = ap (λ o. first_of (o ∷ cs)) (e ∙ first_one b)
two_stop (Some f) b cs x e = e

pub two_pass : (a b : Option Fault) → None ≡ first_of (a ∷ b ∷ []) → (None ≡ a) × (None ≡ b)
two_pass a b e = let p = first_two_none a b (sym e) in (sym p.0, sym p.1)

length_seen : (os : List code.Column) (n : ℕ) → n ≤ length os → length (columns_seen os n) ≡ n
length_seen os n h = length-take-le n (map column_seen os) (let l = length-map os column_seen in omega arith)

pub cols_same : (m : Making) (g : coded_given.Given) → length g.orders ≡ 3
    → refuse (not (eqb g.count (length m.order.kinds) && (leb 1 g.count && leb g.count 3))) (own COLS) ≡ cols m (given_seen g)
unfolding cols
cols_same m g l = go g.orders g.count l (leb g.count 3) refl
  where
    go : (os : List code.Column) (n : ℕ) → length os ≡ 3 → (b : Bool) → leb n 3 ≡ b → refuse (not (eqb n (length m.order.kinds) && (leb 1 n && leb n 3))) (own COLS) ≡ refuse (not (eqb (length (columns_seen os n)) (length m.order.kinds) && (leb 1 n && leb n 3))) (own COLS)
    go os n l true e = ap (λ k. refuse (not (eqb k (length m.order.kinds) && (leb 1 n && leb n 3))) (own COLS)) (sym (length_seen os n (let h = leb-true n 3 e in omega arith)))
    go os n l false e = rw (e, and_right (leb 1 n) false refl, and_right (eqb n (length m.order.kinds)) false refl, and_right (eqb (length (columns_seen os n)) (length m.order.kinds)) false refl)

-- the order columns that are given are as many as are read
pub cols_read : (m : Making) (g : Given) → cols m g ≡ None → length (order_columns g) ≡ length m.order.kinds
unfolding cols
cols_read m g e = eqb-true _ _ (and_parts _ _ (not-false _ (refuse_none _ _ e))).0

-- a group index for each row
pub groups_same : (ix : List ℕ) (total n : ℕ) → None ≡ rows_differ 9 (length ix) n
    → at_row (λ r. leb total (get_or ix r 0)) (λ r. fault GROUP in_accumulator 9 r) (count_up 0 (length ix)) ≡ at_row (λ r. leb total (get_or ix r 0)) (λ r. fault GROUP in_accumulator 9 r) (count_up 0 n)
groups_same ix total n e = ap (λ k. at_row (λ r. leb total (get_or ix r 0)) (λ r. fault GROUP in_accumulator 9 r) (count_up 0 k)) (rows_same (length ix) n _ (sym e))

pub rows_parts : (g : Given) (marks : Option Flags) → rows g marks ≡ None → at_column (rows_check g.value.rows) 0 (order_columns g) ≡ None
unfolding rows
rows_parts g marks e = (first_two_none _ _ e).0

-- no check looks at FIRST or LAST, or at the null policy
pub reads_alike : (s o : Settings) (held : ℕ) (b : Batch) (marks : Option Flags) (x : Option Fault) → x ≡ batch_declined (reading s o) held b marks
    → (first nulls : Bool) → x ≡ batch_declined (made_with s o first nulls) held b marks
unfolding batch_declined cols kind long
reads_alike s o held b marks x e first nulls = e

-- the exit of a `?` in the checks of a batch
pub declines : (s o : Settings) (held : ℕ) (b : Batch) (marks : Option Flags) (r : Result (Unit {0}) coded.Fault) (e : coded.Fault) → IsErrAnd r (λ y. y ≡ e)
    → Some (fault_seen e) ≡ batch_declined (reading s o) held b marks → (first nulls : Bool) → declined_seen r ≡ batch_declined (made_with s o first nulls) held b marks
declines s o held b marks r e h k = reads_alike s o held b marks (declined_seen r) (exits r e _ h k)

-- the same of a batch without groups
pub reads_ungrouped : (s o : Settings) (g : Given) (marks : Option Flags) (x : Option Fault) → x ≡ ungrouped_declined (reading s o) g marks
    → (first nulls : Bool) → x ≡ ungrouped_declined (made_with s o first nulls) g marks
unfolding ungrouped_declined cols kind long
reads_ungrouped s o g marks x e first nulls = e

pub declines_ungrouped : (s o : Settings) (g : Given) (marks : Option Flags) (r : Result (Unit {0}) coded.Fault) (e : coded.Fault) → IsErrAnd r (λ y. y ≡ e)
    → Some (fault_seen e) ≡ ungrouped_declined (reading s o) g marks → (first nulls : Bool) → declined_seen r ≡ ungrouped_declined (made_with s o first nulls) g marks
declines_ungrouped s o g marks r e h k = reads_ungrouped s o g marks (declined_seen r) (exits r e _ h k)
