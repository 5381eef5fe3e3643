use Rattle.std.proofs.Common.{refl}
use Rattle.std.proofs.lemmas.Bool.{eqb-true}
use Rattle.orders.proofs.Leads.{leads_first}
use Rattle.orders.proofs.number.NumberOrderRowOrder.leading.Goals as goal

pub returns-in-Some : goal.returns-in-Some
returns-in-Some c =
    let s = c.args.self.now.sorts in
    leads_first _ s.table s.count _ c.args.columns.now c.in-Some.ensures.value s.some s.whole refl (λ e. eqb-true _ _ e)
