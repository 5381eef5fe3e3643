use Rattle.std.proofs.Common.{sym, ap, ◌∙◌}
use Rattle.keeping.proofs.KeptRows.{both_done, drops}
use Rattle.keeping.specs.Fronts.{too_few}
use Rattle.keeping.proofs.keeper.Keeper.drop_first.Goals as goal

pub returns-clause-values : goal.returns-clause-values
returns-clause-values g c =
    let fine = ap (λ n. too_few n c.args.n) (sym c.groups.ensures) ∙ sym c.in_ok-check_held.ensures in
    both_done _ _ _ _ _ fine (drops _ _ fine) c.drop_first.ensures.after

pub returns-clause-ranks : goal.returns-clause-ranks
returns-clause-ranks g c =
    let a = c.args.self.now in
    let fine = ap (λ n. too_few n c.args.n) (sym c.groups.ensures) ∙ sym c.in_ok-check_held.ensures in
    both_done _ _ _ _ _ fine (drops _ _ (ap (λ n. too_few n c.args.n) (sym a.level) ∙ fine)) c.drop_first-2.ensures.after
