-- What `update_batch` does to the book.
use Rattle.std.proofs.Common.{◌≡◌, ℕ, ◌<◌, List, length, Some, None, Ok, Err, Option, sym, refl, ap, ◌∙◌, subst, arith}
use Rattle.std.specs.declared.result.Result as code
use Rattle.column.specs.Columns.{Flags}
use Rattle.column.specs.Faults.{Fault}
use Rattle.tables.specs.declared.table.GroupTable.{Ghosts}
use Rattle.book.specs.Winners.{Row, winners}
use Rattle.book.specs.Batches.{Book, Batch, entries, grown, entered}
use Rattle.book.specs.Declines.{batch_declined}
use Rattle.book.specs.Emission.{Outputs}
use Rattle.book.specs.Calls.{update, Result, done, refused, answer, after}
use Rattle.faults.specs.declared.Fault as coded
use Rattle.faults.specs.Reported.{declined_seen}
use Rattle.keeping.proofs.Passing.{Passed, passed}
use Rattle.keeping.specs.Keepers.{Same, Takes}
use Rattle.keeping.specs.Replies.{batch_answer}
use Rattle.grouped.specs.declared.FirstLastGroupsAccumulator.{FirstLastGroupsAccumulator}
use Rattle.grouped.specs.Accumulators.{making, Stands, Keeps, Obeys}
use Rattle.grouped.specs.Walk.{GotBelow}
use Rattle.grouped.proofs.Entering.{batch_got, grown_many}
use Rattle.grouped.proofs.Gaining.{made_keeper, takes_on}
use Rattle.grouped.proofs.Holding.{winners_many, refuses, Does}
use Rattle.grouped.proofs.Showing.{winners_long}

pub seen_refused : {X : Type 0} (r : code.Result X coded.Fault) (x : Fault) → declined_seen r ≡ Some x → batch_answer r ≡ refused x
seen_refused (Ok y) x e = cc
seen_refused (Err f) x e = let z = e in ap refused (some_inj _ _ z)
  where
    some_inj : (a b : Fault) → Some a ≡ Some b → a ≡ b
    some_inj a b e = cc

module _ {S O F G : Type 0} {s : Ghosts S F} {o : Ghosts O G} (a : FirstLastGroupsAccumulator S O F G s o) (b : Batch) (marks : Option Flags) where
  pub declines : (before : Outputs) (x : Fault) → Some x ≡ batch_declined (making a) a.slots.len b marks → (r : Result) → r ≡ refused x
      → (ws : List (Option Row)) → Stands a ws
      → Does a ws (update b marks) before (record { result = r; outputs = before }) a
  declines before x e r is ws h =
      let d : batch_declined (making a) (length ws) b marks ≡ Some x = ap (λ n. batch_declined (making a) n b marks) (sym (winners_many a ws h)) ∙ sym e in
      refuses a ws (update b marks) before before x r h d is refl

  module _ (e : None ≡ batch_declined (making a) a.slots.len b marks) where
    pub passes : Passed (s.settings a.kept.state) (making a) a.slots.len b
    passes = passed (s.settings a.kept.state) (making a) a.slots.len b marks refl (sym e)

    pub passed_takes : (a' : FirstLastGroupsAccumulator S O F G s o) → Same a.kept a'.kept → (r : ℕ) → r < length b.indices → Takes a'.kept b.columns r
    passed_takes a' same r h = takes_on a.kept a'.kept b.columns r same (record { cell = passes.cells r h; key = passes.keys r h })

    module _ (a₁ a₂ : FirstLastGroupsAccumulator S O F G s o) (m₁ : Same a.kept a₁.kept) (m₂ : Same a₁.kept a₂.kept)
        (grew : (c : Book) → Keeps a c → Keeps a₁ (grown c b.total))
        (took : (c d : Book) → Keeps a₁ c → GotBelow (making a₁) b marks b.total c d → Keeps a₂ d) where
      unrefused : (c : Book) → Keeps a c → batch_declined (making a) (length (winners (making a) c)) b marks ≡ None
      unrefused c h = ap (λ n. batch_declined (making a) n b marks) (sym (winners_many a (winners (making a) c) h)) ∙ sym e

      pub finishes : (before : Outputs) (r : Result) → r ≡ done → Obeys a (update b marks) before (record { result = r; outputs = before }) a₂
      unfolding answer after
      finishes before r is = record {
        same_making = made_keeper a₁.kept a₂.kept m₂ ∙ made_keeper a.kept a₁.kept m₁;
        answers_so = λ c h. rw (is, unrefused c h);
        keeps_so = λ c h.
            let m = making a in
            let room = passes.room in
            let n : length c ≡ a.slots.len = sym (winners_long m c) ∙ sym (winners_many a (winners m c) h) in
            let got = batch_got m b marks (grown c b.total) passes.sized (grown_many c b.total (omega arith)) in
            rw (unrefused c h) (took (grown c b.total) (entered (grown c b.total) (entries m b marks)) (grew c h)
            (subst (λ x. GotBelow x b marks b.total (grown c b.total) (entered (grown c b.total) (entries m b marks))) (sym (made_keeper a.kept a₁.kept m₁)) got));
      }
