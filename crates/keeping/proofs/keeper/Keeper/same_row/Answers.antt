use Rattle.keeping.proofs.Alike.{agree_key, agree_so}
use Rattle.keeping.proofs.keeper.Keeper.same_row.Goals as goal

pub returns-then-same_value : goal.returns-then-same_value
returns-then-same_value g c =
    let a = c.args.self.now in
    let b = c.args.other.now in
    (λ e. agree_so a b _ _ (c.same_value.ensures.0 c.if-same_value.true) (c.same_key.ensures.0 e), λ h. c.same_key.ensures.1 (agree_key a b _ _ h))
