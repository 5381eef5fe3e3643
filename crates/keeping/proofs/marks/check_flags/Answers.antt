use Rattle.std.proofs.Common.{ℕ, Bool, Some, not, refl, sym, ap, ◌∙◌}
use Rattle.column.specs.Columns.{present}
use Rattle.column.specs.Faults.{FLAGS, fault, in_accumulator}
use Rattle.book.specs.Declines.{null_flag}
use Rattle.faults.specs.Reported.{fault_seen}
use Rattle.keeping.proofs.Walking.{first_row}
use Rattle.keeping.proofs.marks.check_flags.Goals as goal

pub returns-in_default : goal.returns-in_default
unfolding null_flag
returns-in_default c = rw c.in_default.is refl

pub returns-in-Some-first_unknown : goal.returns-in-Some-first_unknown
unfolding null_flag
returns-in-Some-first_unknown c =
    let unknown : ℕ → Bool = λ r. not (present c.in-Some.flags.validity.now r) in
    rw c.in-Some.is (first_row unknown unknown (λ r. fault FLAGS in_accumulator 4 r) _ _ _ (λ r. refl) (sym c.in-Some-first_unknown.is ∙ c.first_unknown.ensures) (ap (λ f. Some (fault_seen f)) c.own.ensures))

pub returns-in-None : goal.returns-in-None
unfolding null_flag
returns-in-None c =
    let unknown : ℕ → Bool = λ r. not (present c.in-Some.flags.validity.now r) in
    rw c.in-Some.is (first_row unknown unknown (λ r. fault FLAGS in_accumulator 4 r) _ _ _ (λ r. refl) (sym c.in-None.is ∙ c.first_unknown.ensures) refl)
