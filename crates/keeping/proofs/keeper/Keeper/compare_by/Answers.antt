use Rattle.std.proofs.Common.{cond, ap, ◌∙◌, refl}
use Rattle.std.specs.Ordering.{ordering_reverse}
use Rattle.book.specs.Batches.{order_columns, row_at}
use Rattle.keeping.specs.Seen.{given_seen}
use Rattle.keeping.proofs.KeptRows.{key_shows, ranks}
use Rattle.keeping.proofs.keeper.Keeper.compare_by.Goals as goal

pub returns : goal.returns
unfolding row_at
returns g c = λ leads t u.
    let cs = order_columns (given_seen c.args.given.now) in
    ranks _ (g.met.O.RowOrder.lawful c.args.self.now.order) _ _ _ _ _ (key_shows _ cs cs _ _ refl t.key) (key_shows _ cs cs _ _ refl u.key)
    (c.ranked.ensures ∙ ap (λ v. cond c.args.self.now.pick_first v (ordering_reverse v)) (c.verdict_by.ensures leads))
