use Rattle.std.proofs.Common.{cond, refl, ap, ◌∙◌}
use Rattle.std.specs.Ordering.{ordering_reverse}
use Rattle.book.specs.Batches.{row_at}
use Rattle.keeping.proofs.KeptRows.{key_shows, ranks, shown_keys}
use Rattle.keeping.proofs.keeper.Keeper.compare_with_held.Goals as goal

pub returns : goal.returns
unfolding row_at
returns g c = λ t h.
    let cs = shown_keys c.args.given.now _ c.keys.ensures in
    ranks _ (g.met.O.RowOrder.lawful c.args.self.now.order) _ _ _ _ _ (key_shows _ _ _ _ _ cs t.key) refl
    (c.ranked.ensures ∙ ap (λ v. cond c.args.self.now.pick_first v (ordering_reverse v)) (c.compare_with_held.ensures.held h))
