use Rattle.std.proofs.Common.{refl}
use Rattle.layout.specs.Written.{parts_seen}
use Rattle.ungrouped.proofs.Batching.{obeys_from}
use Rattle.ungrouped.proofs.Showing.{evaluates}
use Rattle.ungrouped.proofs.accumulators.ValueAccumulator.evaluate.Goals as goal

pub returns : goal.returns
returns g c =
    let s = c.args.self.now.single in
    obeys_from s _ _ _ _ refl (λ held h. evaluates s held h (parts_seen c.args.out.now) _ _ c.write_values.ensures.answer c.write_values.ensures.after)
