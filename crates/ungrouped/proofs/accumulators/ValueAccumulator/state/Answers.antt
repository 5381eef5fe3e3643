use Rattle.std.proofs.Common.{refl}
use Rattle.keeping.specs.Seen.{outputs_seen}
use Rattle.ungrouped.proofs.Batching.{obeys_from}
use Rattle.ungrouped.proofs.Showing.{states}
use Rattle.ungrouped.proofs.accumulators.ValueAccumulator.state.Goals as goal

pub returns : goal.returns
returns g c =
    let s = c.args.self.now.single in
    obeys_from s _ _ _ _ refl (λ held h. states s held h c.is_some.result c.is_some.ensures (outputs_seen c.args.out.now) _ _ c.write_state.ensures.answer c.write_state.ensures.after)
