use Rattle.std.proofs.Common.{◌≡◌, length, drop, None, sym, ap, ◌∙◌, arith}
use Rattle.std.proofs.lemmas.List.{length-take-le, length-drop}
use Rattle.tables.proofs.Declining.{passed, passed_new, drop_within}
use Rattle.tables.proofs.Fronts.{middle_dropped}
use Rattle.tables.specs.Refusals.{dropping}
use Rattle.tables.proofs.entries.Entries.drop_first.Goals as goal

pub overflow_add-self : goal.overflow_add-self
overflow_add-self g c = let w = drop_within _ _ (passed _ _ _ c.in_ok-check_drop.ensures) in omega arith

pub overflow_sub-self : goal.overflow_sub-self
overflow_sub-self g c = drop_within _ _ (passed _ _ _ c.in_ok-check_drop.ensures)

pub invariant_of-self : goal.invariant_of-self
invariant_of-self g c = let w = drop_within _ _ (passed _ _ _ c.in_ok-check_drop.ensures) in (c.self.invariant.0, omega arith)

pub returns-clause-after : goal.returns-clause-after
returns-clause-after g c =
    let e = c.self.inside in
    let p : dropping e.len c.args.n ≡ None = passed _ _ _ c.in_ok-check_drop.ensures in
    let d = length-drop e.start e.table in
    let h : length c.args.self.now ≡ e.len = ap length (sym c.self.view_is) ∙ length-take-le e.len (drop e.start e.table) (omega arith) in
    middle_dropped e.table e.start e.len c.args.n (drop_within e.len c.args.n p)
    ∙ ap (drop c.args.n) c.self.view_is
    ∙ passed_new _ _ _ (ap (λ k. dropping k c.args.n) h ∙ p)
