-- The flags of a conversion admit, in a merge, the rows that the filter admits in an update.
use Rattle.std.proofs.Common.{◌≡◌, ℕ, zero, suc, ◌+◌, ◌/◌, ◌<◌, ◌≤◌, Bool, true, false, cond, not, ◌&&◌, ◌||◌, List, [], ◌∷◌, map, length, get_or, take, drop, filter, IfOk, Some, None, Ok, Err, Option, Result, sym, refl, ap, ◌∙◌, ap₂, eq-eqb, arith}
use Rattle.std.proofs.lemmas.Bool.{le-leb}
use Rattle.std.proofs.lemmas.List.{take_at}
use Rattle.column.specs.Cells.{is_null}
use Rattle.column.specs.Checks.{first_of, refuse, unless_refused}
use Rattle.column.specs.Columns.{Flags, cell_at, count_up, present, bit_at, true_at}
use Rattle.column.specs.Faults.{Fault, fault, ROWS, in_accumulator}
use Rattle.column.specs.declared.ColumnFault.TheVariants as column
use Rattle.layout.specs.Layout.{FlagParts, holds, known, packed, written_flags}
use Rattle.layout.proofs.Packing.{packed_length, shown_length}
use Rattle.layout.proofs.Unpacking.{flags_back}
use Rattle.tables.specs.declared.table.GroupTable.{Ghosts}
use Rattle.book.specs.Batches.{Book, Given, admitted, entered, entries, every_row, grown, marked, row_at}
use Rattle.book.specs.Calls.{after, answer, answer_unless, convert, done, merge, update}
use Rattle.book.specs.Declines.{batch_checks, batch_declined, cols, kind, rows}
use Rattle.book.specs.Emission.{Outputs, convert_declined, converted_flags, flags_short, passed_on}
use Rattle.book.specs.Winners.{Making, Row, winners}
use Rattle.faults.specs.Reported.{declined_seen}
use Rattle.faults.specs.declared.Fault as coded
use Rattle.keeping.proofs.Checking.{rows_parts, third_decides, two_pass, two_stop}
use Rattle.grouped.specs.Accumulators.{Stands, making}
use Rattle.grouped.specs.Conversions.{MergesAs, flags_at_front, grouped_by}
use Rattle.keeping.specs.Replies.{batch_answer}
use Rattle.grouped.specs.declared.FirstLastGroupsAccumulator.{FirstLastGroupsAccumulator}
use Rattle.grouped.proofs.Batching.{seen_refused}
use Rattle.grouped.proofs.Holding.{Does, refuses}

-- What the call does

seen_done : {X : Type 0} (r : Result X coded.Fault) → declined_seen r ≡ None → batch_answer r ≡ done
seen_done (Ok x) e = refl
seen_done (Err f) e = cc

pub if_taken : {X P : Type 0} (r : Result X coded.Fault) → (declined_seen r ≡ None → P) → IfOk r (λ x. P)
if_taken (Ok x) h = h refl
if_taken (Err f) h = tt

pub convert_stops : (m : Making) (g : Given) (marks : Option Flags) (before : Outputs) (x : Fault) → Some x ≡ first_of (cols m g ∷ rows g marks ∷ []) → convert_declined m g marks before ≡ Some x
unfolding convert_declined
convert_stops m g marks before x e = sym (two_stop (cols m g) (rows g marks) (flags_short (converted_flags g marks) before.flags ∷ []) x e)

pub convert_ends : (m : Making) (g : Given) (marks : Option Flags) (before : Outputs) → None ≡ first_of (cols m g ∷ rows g marks ∷ []) → convert_declined m g marks before ≡ flags_short (converted_flags g marks) before.flags
unfolding convert_declined
convert_ends m g marks before e = let p = two_pass (cols m g) (rows g marks) e in third_decides (cols m g) (rows g marks) (flags_short (converted_flags g marks) before.flags) _ p.0 p.1 refl

module _ {S O F G : Type 0} {s : Ghosts S F} {o : Ghosts O G} (a : FirstLastGroupsAccumulator S O F G s o) (g : Given) (marks : Option Flags) (before : Outputs) (ws : List (Option Row)) (h : Stands a ws) where
  pub converts : (d : Option Fault) (r : Result (Unit {0}) coded.Fault) (new : FlagParts) → convert_declined (making a) g marks before ≡ d → declined_seen r ≡ d
      → new ≡ unless_refused d (written_flags (converted_flags g marks) before.flags) before.flags
      → Does a ws (convert g marks) before (record { result = batch_answer r; outputs = record { values = before.values; keys = before.keys; flags = new } }) a
  converts None r new e k news = record { replies = rw (e, seen_done r k, news); stands = rw e h }
  converts (Some x) r new e k news = refuses a ws (convert g marks) before _ x (batch_answer r) h e (seen_refused r x k) (λ i. record { values = before.values; keys = before.keys; flags = news i })

-- What the flags are worth

same_filter : (p q : ℕ → Bool) (n s : ℕ) → ((r : ℕ) → s ≤ r → r < s + n → p r ≡ q r) → filter p (count_up s n) ≡ filter q (count_up s n)
same_filter p q zero s h = refl
same_filter p q (suc n) s h = ap₂ (λ b l. cond b (s ∷ l) l) (h s (omega arith) (omega arith)) (same_filter p q n (suc s) (λ r a b. h r (omega arith) (omega arith)))

passed_marked : (marks : Option Flags) (r : ℕ) → (known (passed_on marks r) && holds (passed_on marks r)) ≡ marked marks r
unfolding true_at
passed_marked None r = refl
passed_marked (Some f) r = go (present f.validity r) (bit_at f.bits r)
  where
    go : (b c : Bool) → (known (cond b (Some c) None) && holds (cond b (Some c) None)) ≡ (b && c)
    go true c = refl
    go false c = refl

fitting : (rows none some bits : Bool) → rows ≡ true → some ≡ true → bits ≡ true → first_of (refuse (not (rows && ((none || some) && bits))) column.Shape ∷ []) ≡ None
fitting rows true some bits e f k = rw (e, k)
fitting rows false some bits e f k = rw (e, f, k)

module _ (g : Given) (marks : Option Flags) (fine : rows g marks ≡ None) (out before : FlagParts) (written : out ≡ written_flags (converted_flags g marks) before) where
  bytes : (v : Option Bool → Bool) → length (packed (map v (map (passed_on marks) (every_row g)))) ≡ (g.value.rows + 7) / 8
  bytes v = packed_length (map v (map (passed_on marks) (every_row g))) ∙ ap (λ k. (k + 7) / 8) (shown_length v (passed_on marks) g.value.rows)

  validity_is : take ((g.value.rows + 7) / 8) out.validity ≡ packed (map known (map (passed_on marks) (every_row g)))
  validity_is = ap (λ (p : FlagParts). take ((g.value.rows + 7) / 8) p.validity) written ∙ take_at _ _ _ (bytes known)

  bits_are : take ((g.value.rows + 7) / 8) out.bits ≡ packed (map holds (map (passed_on marks) (every_row g)))
  bits_are = ap (λ (p : FlagParts). take ((g.value.rows + 7) / 8) p.bits) written ∙ take_at _ _ _ (bytes holds)

  -- a row's flag is true where the filter is
  alike : (r : ℕ) → r < g.value.rows → true_at (flags_at_front g.value.rows out) r ≡ marked marks r
  unfolding true_at
  alike r h = ap₂ (λ v b. present v r && bit_at b r) validity_is bits_are ∙ flags_back (passed_on marks) g.value.rows r h ∙ passed_marked marks r

  admitted_same : (m : Making) (r : ℕ) → r < g.value.rows → admitted m g (Some (flags_at_front g.value.rows out)) r ≡ admitted m g marks r
  unfolding admitted
  admitted_same m r h = ap (λ b. b && not (m.ignore_nulls && is_null (cell_at g.value r))) (alike r h)

  entries_same : (m : Making) (ix : List ℕ) (total : ℕ) → entries m (grouped_by g ix total) (Some (flags_at_front g.value.rows out)) ≡ entries m (grouped_by g ix total) marks
  unfolding entries
  entries_same m ix total = ap (map (λ r. (get_or ix r 0, row_at g r))) (same_filter _ _ g.value.rows 0 (λ r l k. admitted_same m r (omega arith)))

  rows_fine : rows g (Some (flags_at_front g.value.rows out)) ≡ None
  unfolding rows
  rows_fine = ap₂ (λ c t. first_of (c ∷ refuse (not t) (fault ROWS in_accumulator 4 0) ∷ [])) (rows_parts g marks fine) (eq-eqb g.value.rows g.value.rows refl)

  declined_same : (m : Making) (have : ℕ) (ix : List ℕ) (total : ℕ) → batch_declined m have (grouped_by g ix total) (Some (flags_at_front g.value.rows out)) ≡ batch_declined m have (grouped_by g ix total) marks
  unfolding batch_declined
  declined_same m have ix total = ap (λ x. first_of (cols m g ∷ kind m g ∷ x ∷ drop 3 (batch_checks m have (grouped_by g ix total) marks))) (rows_fine ∙ sym fine)

  answers_same : (m : Making) (b : Book) (ix : List ℕ) (total : ℕ) (o : Outputs) → answer m b (merge (grouped_by g ix total) (flags_at_front g.value.rows out)) o ≡ answer m b (update (grouped_by g ix total) marks) o
  unfolding answer
  answers_same m b ix total o = ap (λ d. answer_unless d o (record { result = done; outputs = o })) (declined_same m (length (winners m b)) ix total)

  leaves_same : (m : Making) (b : Book) (ix : List ℕ) (total : ℕ) (o : Outputs) → after m b (merge (grouped_by g ix total) (flags_at_front g.value.rows out)) o ≡ after m b (update (grouped_by g ix total) marks) o
  unfolding after
  leaves_same m b ix total o = ap₂ (λ d es. unless_refused d (entered (grown b total) es) b) (declined_same m (length (winners m b)) ix total) (entries_same m ix total)

  pub merges_as : MergesAs g marks (flags_at_front g.value.rows out)
  merges_as = record {
    answers_so = answers_same;
    leaves_so = leaves_same;
    made_so = λ h. fitting _ _ _ _ (le-leb g.value.rows 1024 h) (eq-eqb _ _ (ap length validity_is ∙ bytes known)) (eq-eqb _ _ (ap length bits_are ∙ bytes holds));
  }
