-- What a batch that no check declines gives to the calls of state and order.
use Rattle.std.proofs.Common.{◌≡◌, ℕ, zero, suc, ◌+◌, ◌<◌, ◌≤◌, Bool, true, false, cond, not, ltb, leb, List, [], ◌∷◌, length, get_or, Some, None, Option, sym, refl, ap, ◌∙◌, ⊎_elim, arith}
use Rattle.std.proofs.lemmas.Bool.{lt-ltb, not-false, ltb-false, leb-false, cases_eq}
use Rattle.column.specs.Cells.{same_kind}
use Rattle.column.specs.Columns.{Column, Flags, cell_at, count_up}
use Rattle.column.specs.Faults.{Fault, fault, KIND, ROWS, LONG, GROUP, in_state, in_order, in_accumulator}
use Rattle.tables.specs.Meaning.{Settings, StateMeaning, state_of}
use Rattle.tables.specs.Refusals.{cell_refused, key_unfit, key_refused, cols_fit, some_column, other_kind, past_column, untaken}
use Rattle.book.specs.Winners.{Making}
use Rattle.book.specs.Batches.{Given, Batch, order_columns, every_row}
use Rattle.book.specs.Declines.{at_row, at_column, order_column, cols, kind, kind_check, long, long_check, rows_check, batch_checks, batch_declined}
use Rattle.keeping.proofs.Checking.{refuse_none, kind_parts, rows_parts, rows_same, first_two_none, none_hold}

some_column_none : (check : ℕ → Column → Option Fault) (p : ℕ → Column → Bool) → ((j : ℕ) (c : Column) → check j c ≡ None → p j c ≡ false)
    → (cs : List Column) (i : ℕ) → at_column check i cs ≡ None → some_column p i cs ≡ false
some_column_none check p h [] i e = refl
some_column_none check p h (c ∷ cs) i e =
    let q = first_two_none (check i c) (at_column check (suc i) cs) e in
    rw (h i c q.0) (some_column_none check p h cs (suc i) q.1)

row_none : (test : ℕ → Bool) (f : ℕ → Fault) (s n r : ℕ) → at_row test f (count_up s n) ≡ None → s ≤ r → r < s + n → test r ≡ false
row_none test f s zero r e h l = absurd (omega arith)
row_none test f s (suc n) r e h l = go (test s) refl e (row_none test f (suc s) n r)
  where
    go : (b : Bool) → test s ≡ b → cond b (Some (f s)) (at_row test f (count_up (suc s) n)) ≡ None
        → (at_row test f (count_up (suc s) n) ≡ None → suc s ≤ r → r < suc s + n → test r ≡ false) → test r ≡ false
    go true k q ih = cc
    go false k q ih = ⊎_elim (λ z. ap test z ∙ k) (λ z. ih q (omega (arith, z)) (omega arith)) (cases_eq r s)

pub record Passed (s : Settings) (m : Making) (held : ℕ) (b : Batch) : Type 0 where
  pub few : b.total ≤ 256
  pub room : held ≤ b.total
  pub sized : length b.indices ≡ b.columns.value.rows
  pub below : (k : ℕ) → k < length b.indices → get_or b.indices k 0 < b.total
  pub keys : (r : ℕ) → r < length b.indices → key_refused m.order false (order_columns b.columns) b.columns.count (r ∷ []) ≡ None
  pub cells : (r : ℕ) → r < length b.indices → cell_refused s false b.columns.value r ≡ None

module _ (m : Making) (g : Given) (col : cols m g ≡ None) (kin : kind m g ≡ None) (same : at_column (rows_check g.value.rows) 0 (order_columns g) ≡ None) (lon : long m g ≡ None) where
  long_parts : (at_row (λ r. not (m.state.takes (cell_at g.value r))) (λ r. fault LONG in_state 0 r) (every_row g) ≡ None) × (at_column (long_check m.order.takes (every_row g)) 0 (order_columns g) ≡ None)
  unfolding long
  long_parts = first_two_none _ _ lon

  fits : not (cols_fit m.order.kinds (order_columns g) g.count) ≡ false
  unfolding cols
  fits = refuse_none _ _ col

  pub key_passes : (r : ℕ) → r < g.value.rows → key_refused m.order false (order_columns g) g.count (r ∷ []) ≡ None
  unfolding key_refused key_unfit
  key_passes r h =
      let k : some_column (other_kind m.order.kinds) 0 (order_columns g) ≡ false =
      some_column_none (kind_check m.order.kinds) (other_kind m.order.kinds) (λ j c e. refuse_none (other_kind m.order.kinds j c) (fault KIND in_order (order_column j) 0) e) (order_columns g) 0 (kind_parts m g kin).1 in
      let n : past_column (order_columns g) r ≡ false =
      some_column_none (rows_check g.value.rows) (λ j c. not (ltb r c.rows)) (λ j c e. ap not (lt-ltb r c.rows (let z = rows_same c.rows g.value.rows (fault ROWS in_accumulator (order_column j) 0) e in omega arith))) (order_columns g) 0 same in
      let l : untaken m.order (order_columns g) r ≡ false =
      some_column_none (long_check m.order.takes (every_row g)) (λ j c. not (m.order.takes j (cell_at c r))) (λ j c e. row_none (λ r. not (m.order.takes j (cell_at c r))) (λ r. fault LONG in_order (order_column j) r) 0 g.value.rows r e (omega arith) (omega arith)) (order_columns g) 0 long_parts.1 in
      rw (fits, k, n, l)

  pub cell_passes : (s : Settings) → m.state ≡ state_of s → (r : ℕ) → r < g.value.rows → cell_refused s false g.value r ≡ None
  unfolding cell_refused
  cell_passes s is r h =
      let k : same_kind g.value.kind (state_of s).kind ≡ true = ap (λ (x : StateMeaning). same_kind g.value.kind x.kind) (sym is) ∙ (kind_parts m g kin).0 in
      let l : s.takes 0 (cell_at g.value r) ≡ true = ap (λ (x : StateMeaning). x.takes (cell_at g.value r)) (sym is) ∙ not-false _ (row_none (λ r. not (m.state.takes (cell_at g.value r))) (λ r. fault LONG in_state 0 r) 0 g.value.rows r long_parts.0 (omega arith) (omega arith)) in
      rw (k, lt-ltb r g.value.rows h, l)

pub passed : (s : Settings) (m : Making) (held : ℕ) (b : Batch) (marks : Option Flags) → m.state ≡ state_of s → batch_declined m held b marks ≡ None → Passed s m held b
unfolding batch_declined
passed s m held b marks is e =
    let g = b.columns in
    let a = none_hold (batch_checks m held b marks) e in
    let n : length b.indices ≡ g.value.rows = rows_same _ _ _ a.1.1.1.0 in
    let ro = rows_parts g marks a.1.1.0 in
    let lo = a.1.1.1.1.1.1.1.0 in
    record {
      few = ltb-false 256 b.total (refuse_none _ _ a.1.1.1.1.0);
      room = ltb-false b.total held (refuse_none _ _ a.1.1.1.1.1.0);
      sized = n;
      below = λ k h. leb-false b.total (get_or b.indices k 0) (row_none (λ r. leb b.total (get_or b.indices r 0)) (λ r. fault GROUP in_accumulator 9 r) 0 g.value.rows k a.1.1.1.1.1.1.0 (omega arith) (omega arith));
      keys = λ r h. key_passes m g a.0 a.1.0 ro lo r (omega arith);
      cells = λ r h. cell_passes m g a.0 a.1.0 ro lo s is r (omega arith);
    }
