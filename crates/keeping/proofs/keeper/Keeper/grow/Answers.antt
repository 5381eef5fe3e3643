use Rattle.std.proofs.Common.{sym, ap, ◌∙◌}
use Rattle.book.specs.Declines.{total_refused}
use Rattle.keeping.proofs.KeptRows.{both_done, grows}
use Rattle.keeping.proofs.keeper.Keeper.grow.Goals as goal

pub returns-clause-values : goal.returns-clause-values
returns-clause-values g c =
    let fine = ap (λ n. total_refused n c.args.total) (sym c.groups.ensures) ∙ sym c.in_ok-check_total.ensures in
    both_done _ _ _ _ _ fine (grows _ _ fine) c.grow.ensures.after

pub returns-clause-ranks : goal.returns-clause-ranks
returns-clause-ranks g c =
    let a = c.args.self.now in
    let fine = ap (λ n. total_refused n c.args.total) (sym c.groups.ensures) ∙ sym c.in_ok-check_total.ensures in
    both_done _ _ _ _ _ fine (grows _ _ (ap (λ n. total_refused n c.args.total) (sym a.level) ∙ fine)) c.grow-2.ensures.after
