-- What a batch does to what is held.
use Rattle.std.proofs.Common.{◌≡◌, ℕ, ◌<◌, List, Some, None, Ok, Err, Option, sym, refl, ap, ◌∙◌, subst}
use Rattle.column.specs.Columns.{Flags}
use Rattle.column.specs.Faults.{Fault}
use Rattle.column.specs.Checks.{unless_refused}
use Rattle.tables.specs.declared.table.GroupTable.{Ghosts}
use Rattle.std.specs.Option.{option_map}
use Rattle.book.specs.Batches.{Given, row_at}
use Rattle.std.proofs.Common as code
use Rattle.faults.specs.declared.Fault as coded
use Rattle.faults.specs.Reported.{declined_seen}
use Rattle.keeping.specs.Replies.{batch_answer}
use Rattle.book.specs.Declines.{ungrouped_checks, ungrouped_declined}
use Rattle.book.specs.Emission.{Outputs}
use Rattle.book.specs.Calls.{Result, Answer, done, refused, answer_unless}
use Rattle.keeping.proofs.Checking.{none_hold, rows_parts}
use Rattle.keeping.proofs.Passing.{cell_passes, key_passes}
use Rattle.ungrouped.specs.Rows.{Alone, picked, counts}
use Rattle.ungrouped.specs.Held.{Kept, taken, stored}
use Rattle.ungrouped.specs.Calls.{Call, batch_call, declined, answered, answer, kept, after}
use Rattle.ungrouped.specs.Found.{Found}
use Rattle.ungrouped.specs.Accumulators.{alone, state_settings, Stands, Obeys}
use Rattle.keeping.specs.Keepers.{Takes}
use Rattle.ungrouped.specs.declared.single.Single.{Single}
use Rattle.ungrouped.proofs.Walking.{found_taken}

module _ {S O F G : Type 0} {s : Ghosts S F} {o : Ghosts O G} where
  -- a call does to what is held what is defined
  pub record Does (a : Single S O F G s o) (held : Option Kept) (c : Call) (before : Outputs) (r : Answer) (a' : Single S O F G s o) : Type 0 where
    pub replies : r ≡ answer (alone a) held c before
    pub shows : Stands a' (after (alone a) held c before)

  pub obeys_from : (a : Single S O F G s o) (c : Call) (before : Outputs) (r : Answer) (a' : Single S O F G s o) → alone a' ≡ alone a
      → ((held : Option Kept) → Stands a held → Does a held c before r a') → Obeys a c before r a'
  obeys_from a c before r a' made does = record {
    same_making = made;
    answers_so = λ held h. (does held h).replies;
    keeps_so = λ held h. (does held h).shows;
  }

-- what a call that is declined answers
pub seen_refused : (r : code.Result (Unit {0}) coded.Fault) (x : Fault) → declined_seen r ≡ Some x → batch_answer r ≡ refused x
seen_refused (Ok y) x e = cc
seen_refused (Err f) x e = ap refused (some_inj _ _ e)
  where
    some_inj : (a b : Fault) → Some a ≡ Some b → a ≡ b
    some_inj a b e = cc

-- what a batch is declined for, what it answers, and what it leaves

module _ (a : Alone) (held : Option Kept) (g : Given) (marks : Option Flags) (before : Outputs) where
  batch_declined_is : declined a held (batch_call g marks) before ≡ ungrouped_declined a.making g marks
  unfolding declined
  batch_declined_is = go marks
    where
      go : (k : Option Flags) → declined a held (batch_call g k) before ≡ ungrouped_declined a.making g k
      go None = refl
      go (Some f) = refl

  batch_answered : answered a held (batch_call g marks) before ≡ record { result = done; outputs = before }
  batch_answered = go marks
    where
      go : (k : Option Flags) → answered a held (batch_call g k) before ≡ record { result = done; outputs = before }
      go None = refl
      go (Some f) = refl

  batch_kept : kept a held (batch_call g marks) ≡ taken a marks held g
  batch_kept = go marks
    where
      go : (k : Option Flags) → kept a held (batch_call g k) ≡ taken a k held g
      go None = refl
      go (Some f) = refl

  pub batch_refused : (x : Fault) → ungrouped_declined a.making g marks ≡ Some x → answer a held (batch_call g marks) before ≡ record { result = refused x; outputs = before }
  unfolding answer
  batch_refused x e = ap (λ d. answer_unless d before (answered a held (batch_call g marks) before)) (batch_declined_is ∙ e)

  pub batch_unchanged : (x : Fault) → ungrouped_declined a.making g marks ≡ Some x → after a held (batch_call g marks) before ≡ held
  unfolding after
  batch_unchanged x e = ap (λ d. unless_refused d (kept a held (batch_call g marks)) held) (batch_declined_is ∙ e)

  pub batch_done : ungrouped_declined a.making g marks ≡ None → answer a held (batch_call g marks) before ≡ record { result = done; outputs = before }
  unfolding answer
  batch_done e = ap (λ d. answer_unless d before (answered a held (batch_call g marks) before)) (batch_declined_is ∙ e) ∙ batch_answered

  pub batch_taken : ungrouped_declined a.making g marks ≡ None → after a held (batch_call g marks) before ≡ taken a marks held g
  unfolding after
  batch_taken e = ap (λ d. unless_refused d (kept a held (batch_call g marks)) held) (batch_declined_is ∙ e) ∙ batch_kept

module _ {S O F G : Type 0} {s : Ghosts S F} {o : Ghosts O G} (a : Single S O F G s o) (g : Given) (marks : Option Flags) (before : Outputs) where
  -- a batch that is declined changes nothing
  pub declines : (x : Fault) → Some x ≡ ungrouped_declined (alone a).making g marks → (r : Result) → r ≡ refused x
      → (held : Option Kept) → Stands a held → Does a held (batch_call g marks) before (record { result = r; outputs = before }) a
  declines x e r is held h = record {
    replies = ap (λ k. record { result = k; outputs = before }) is ∙ sym (batch_refused (alone a) held g marks before x (sym e));
    shows = subst (Stands a) (sym (batch_unchanged (alone a) held g marks before x (sym e))) h;
  }

  -- the row that a batch puts up is held where what is held gives way to it
  pub finishes : None ≡ ungrouped_declined (alone a).making g marks → (best : Option ℕ) → Found (picked (alone a) marks) (counts (alone a).making g marks) g g.value.rows best
      → (a' : Single S O F G s o) → ((held : Option Kept) → Stands a held → Stands a' (stored (alone a) marks held (option_map (row_at g) best)))
      → (held : Option Kept) → Stands a held → Does a held (batch_call g marks) before (record { result = done; outputs = before }) a'
  finishes e best f a' puts held h = record {
    replies = sym (batch_done (alone a) held g marks before (sym e));
    shows = subst (Stands a') (found_taken (alone a) marks g held best f ∙ sym (batch_taken (alone a) held g marks before (sym e))) (puts held h);
  }

module _ {S O F G : Type 0} {s : Ghosts S F} {o : Ghosts O G} where
  -- state and order take each row of a batch that is not declined
  pub takes_all : (a : Single S O F G s o) (g : Given) (marks : Option Flags) → None ≡ ungrouped_declined (alone a).making g marks → (r : ℕ) → r < g.value.rows → Takes a.keeper g r
  unfolding ungrouped_declined
  takes_all a g marks e r h =
      let m = (alone a).making in
      let n = none_hold (ungrouped_checks m g marks) (sym e) in
      let same = rows_parts g marks n.1.1.0 in
      record {
        cell = cell_passes m g n.0 n.1.0 same n.1.1.1.1.0 (state_settings a) refl r h;
        key = key_passes m g n.0 n.1.0 same n.1.1.1.1.0 r h;
      }
