-- Every row that a book holds is of cells that its state and its order take, and an order of more than three columns never comes to a group.
use Rattle.std.proofs.Common.{◌≡◌, ℕ, zero, suc, ◌+◌, ◌-◌, ◌<◌, ◌≤◌, Bool, true, false, not, ◌&&◌, eqb, leb, List, [], ◌∷◌, ◌++◌, length, get_or, drop, set, replicate, All, IfSome, Some, None, filter, Option, refl, add-zero, arith}
use Rattle.std.specs.List.{AllZip}
use Rattle.std.proofs.lemmas.Bool.{not-false, or_parts, leb-true, and_parts}
use Rattle.std.proofs.lemmas.List.{length-drop, length-take}
use Rattle.std.proofs.lemmas.List.Elements.{All-nil, All-cons, All-head, All-tail, All-replicate, All-append, All-set, All-push, All-drop, All-map, All-filter}
use Rattle.column.specs.Cells.{Kind, numbers, Cell, Proper}
use Rattle.column.specs.Checks.{refuse, unless_refused}
use Rattle.column.specs.Columns.{Column, Flags, cell_at, count_up}
use Rattle.column.specs.Faults.{Fault}
use Rattle.tables.specs.Meaning.{Settings}
use Rattle.tables.specs.declared.StateFault.TheVariants.{Long}
use Rattle.tables.specs.Refusals.{cell_unfit, cell_refused, key_refused, key_at, some_column}
use Rattle.tables.proofs.Declining.{first_passed, refuse_passed}
use Rattle.tables.proofs.Passing.{key_passed}
use Rattle.book.specs.Winners.{Row, Making, Lawful, winner, winners, top_rows, unbeaten, earliest}
use Rattle.book.specs.Batches.{Book, Given, Batch, order_columns, every_row, row_at, admitted, entries, grown, entered}
use Rattle.book.specs.Declines.{cols, batch_declined}
use Rattle.book.specs.Emission.{Outputs}
use Rattle.book.specs.Calls.{Call, update, merge, convert, evaluate, state, declined, taken_in, after, book_after}
use Rattle.keeping.proofs.Checking.{cols_read, refuse_none}
use Rattle.keeping.proofs.Passing.{passed}

all_counted : (P : ℕ → Type 0) (s n : ℕ) → ((r : ℕ) → r < s + n → P r) → All P (count_up s n)
all_counted P s zero h = All-nil P
all_counted P s (suc n) h = All-cons P s (count_up (suc s) n) (h s (omega arith)) (all_counted P (suc s) n (λ r l. h r (omega arith)))

-- a row of cells that columns of these kinds can show
pub record RowProper (m : Making) (r : Row) : Type 0 where
  pub of_value : Proper m.state.kind r.value
  pub of_key : AllZip Proper m.order.kinds r.key

key_proper : (takes : ℕ → Cell → Bool) (j : ℕ) (ks : List Kind) → ((i : ℕ) (c : Cell) → takes (j + i) c ≡ true → Proper (get_or ks i numbers) c)
    → (cs : List Column) (r : ℕ) → length cs ≡ length ks → some_column (λ j c. not (takes j (cell_at c r))) j cs ≡ false → AllZip Proper ks (key_at cs r)
key_proper takes j [] p [] r n t = tt
key_proper takes j [] p (c ∷ cs) r n t = absurd (omega arith)
key_proper takes j (k ∷ ks) p [] r n t = absurd (omega arith)
key_proper takes j (k ∷ ks) p (c ∷ cs) r n t =
    let o = or_parts (not (takes j (cell_at c r))) (some_column (λ j c. not (takes j (cell_at c r))) (suc j) cs) t in (
      p 0 (cell_at c r) (rw add-zero (not-false _ o.0)),
      key_proper takes (suc j) ks (λ i d h. p (suc i) d (let e : j + suc i ≡ suc j + i = omega arith in rw e h)) cs r (omega arith) o.1,
    )

-- a state by settings of one column
abbrev alone : Making → Settings
alone m = record { kinds = m.state.kind ∷ []; takes = λ j. m.state.takes; leq = m.order.leq }

module _ (m : Making) (laws : Lawful m) where
  value_proper : (c : Column) (r : ℕ) → cell_refused (alone m) false c r ≡ None → Proper m.state.kind (cell_at c r)
  unfolding cell_refused
  value_proper c r e =
      let p = first_passed (cell_unfit m.state.kind false c r) (refuse (not (m.state.takes (cell_at c r))) Long ∷ []) e in
      laws.of_state.takes_proper (cell_at c r) (not-false _ (refuse_passed _ _ (first_passed _ _ p.1).0))

  keys_proper : (g : Given) (r : ℕ) → key_refused m.order false (order_columns g) g.count (r ∷ []) ≡ None → AllZip Proper m.order.kinds (key_at (order_columns g) r)
  unfolding key_refused
  keys_proper g r e =
      let p = first_passed _ _ e in
      let o = or_parts _ _ (refuse_passed _ _ (first_passed _ _ p.1).0) in
      key_proper m.order.takes 0 m.order.kinds (λ i c h. laws.of_order.takes_proper i c (let z : 0 + i ≡ i = omega arith in rw z at h)) (order_columns g) r
      (key_passed m.order.kinds false (order_columns g) g.count (r ∷ []) p.0).columns o.0

  batch_proper : (held : ℕ) (b : Batch) (marks : Option Flags) → batch_declined m held b marks ≡ None → All (λ (e : ℕ × Row). RowProper m e.1) (entries m b marks)
  unfolding entries row_at
  batch_proper held b marks e =
      let p = passed (alone m) m held b marks refl e in
      All-map (λ (e : ℕ × Row). RowProper m e.1) _ (filter (admitted m b.columns marks) (every_row b.columns))
      (All-filter (admitted m b.columns marks) (λ r. RowProper m (row_at b.columns r)) (every_row b.columns)
      (all_counted (λ r. RowProper m (row_at b.columns r)) 0 b.columns.value.rows (λ r h. record {
        of_value = value_proper b.columns.value r (p.cells r (let n = p.sized in omega arith));
        of_key = keys_proper b.columns r (p.keys r (let n = p.sized in omega arith));
      })))

-- all rows of a book
abbrev pub AllProper : Making → Book → Type 0
AllProper m b = All (All (RowProper m)) b

module _ (m : Making) where
  group_proper : (b : Book) (i : ℕ) → AllProper m b → All (RowProper m) (get_or b i [])
  group_proper [] i s = All-nil (RowProper m)
  group_proper (g ∷ b) zero s = All-head (All (RowProper m)) g b s
  group_proper (g ∷ b) (suc i) s = group_proper b i (All-tail (All (RowProper m)) g b s)

  entered_proper : (b : Book) (es : List (ℕ × Row)) → AllProper m b → All (λ (e : ℕ × Row). RowProper m e.1) es → AllProper m (entered b es)
  entered_proper b [] s h = s
  entered_proper b (e ∷ es) s h =
      entered_proper (set b e.0 (get_or b e.0 [] ++ e.1 ∷ [])) es
      (All-set (All (RowProper m)) b e.0 _ (All-push (RowProper m) (get_or b e.0 []) e.1 (group_proper b e.0 s) (All-head (λ (e : ℕ × Row). RowProper m e.1) e es h)) s)
      (All-tail (λ (e : ℕ × Row). RowProper m e.1) e es h)

-- where there is a group, its order reads at most three columns
abbrev pub Few : Making → Book → Type 0
Few m b = 0 < length b → length m.order.kinds ≤ 3

-- what is so of every book that calls come to
pub record Shown (m : Making) (b : Book) : Type 0 where
  pub rows : AllProper m b
  pub few : Few m b

module _ (m : Making) (laws : Lawful m) where
  batch_few : (held : ℕ) (b : Batch) (marks : Option Flags) → batch_declined m held b marks ≡ None → length m.order.kinds ≤ 3
  unfolding batch_declined cols
  batch_few held b marks e =
      let c = (first_passed _ _ e).0 in
      let n = cols_read m b.columns c in
      let p : (eqb (length (order_columns b.columns)) (length m.order.kinds) ≡ true) × ((leb 1 b.columns.count && leb b.columns.count 3) ≡ true) = and_parts _ _ (not-false _ (refuse_none _ _ c)) in
      let q = leb-true b.columns.count 3 (and_parts (leb 1 b.columns.count) (leb b.columns.count 3) p.1).1 in
      let t = length-take b.columns.count b.columns.orders in
      omega arith

  batch_shown : (b : Book) (x : Batch) (marks : Option Flags) (held : ℕ) → Shown m b → batch_declined m held x marks ≡ None → Shown m (entered (grown b x.total) (entries m x marks))
  batch_shown b x marks held s e = record {
    rows = entered_proper m _ _ (All-append (All (RowProper m)) b (replicate (x.total - length b) []) s.rows (All-replicate (All (RowProper m)) (x.total - length b) [] (All-nil (RowProper m)))) (batch_proper m laws held x marks e);
    few = λ h. batch_few held x marks e;
  }

  dropped_shown : (n : ℕ) (b : Book) → Shown m b → Shown m (drop n b)
  dropped_shown n b s = record { rows = All-drop (All (RowProper m)) n b s.rows; few = λ h. s.few (let l = length-drop n b in omega arith) }

  taken_shown : (b : Book) (c : Call) (o : Outputs) → Shown m b → declined m (winners m b) c o ≡ None → Shown m (taken_in m b c)
  taken_shown b (update x marks) o s e = batch_shown b x marks _ s e
  taken_shown b (merge x flags) o s e = batch_shown b x (Some flags) _ s e
  taken_shown b (convert g marks) o s e = s
  taken_shown b (evaluate to) o s e = dropped_shown _ b s
  taken_shown b (state to) o s e = dropped_shown _ b s

  after_shown : (b : Book) (c : Call) (o : Outputs) → Shown m b → Shown m (after m b c o)
  unfolding after
  after_shown b c o s = go (declined m (winners m b) c o) refl
    where
      go : (d : Option Fault) → declined m (winners m b) c o ≡ d → Shown m (unless_refused d (taken_in m b c) b)
      go None e = taken_shown b c o s e
      go (Some f) e = s

  book_shown : (cs : List (Call × Outputs)) (b : Book) → Shown m b → Shown m (book_after m b cs)
  book_shown [] b s = s
  book_shown (c ∷ cs) b s = book_shown cs (after m b c.0 c.1) (after_shown b c.0 c.1 s)

  pub reached_shown : (cs : List (Call × Outputs)) → Shown m (book_after m [] cs)
  reached_shown cs = book_shown cs [] (record { rows = All-nil (All (RowProper m)); few = λ h. absurd (omega arith) })

-- a winner is one of its rows
pub winner_proper : (m : Making) (g : List Row) → All (RowProper m) g → IfSome (winner m g) (RowProper m)
unfolding winner top_rows
winner_proper m g s = go (filter (unbeaten m g) g) (All-filter (unbeaten m g) (RowProper m) g s)
  where
    go : (rs : List Row) → All (RowProper m) rs → IfSome (earliest rs) (RowProper m)
    go [] a = tt
    go (r ∷ rs) a = All-head (RowProper m) r rs a
