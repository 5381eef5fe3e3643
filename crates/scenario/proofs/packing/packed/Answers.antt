use Rattle.std.proofs.Common.{◌≡◌, rules, tests, ◌∙◌, map}
use Rattle.std.proofs.lemmas.Iterator.{items_from_collect, YieldsList-from_map}
use Rattle.std.proofs.lemmas.Result.{IfOk-weaker}
use Rattle.layout.specs.Layout.{binary, packed}
use Rattle.scenario.proofs.Chunking.{eights, eights-from_chunks, packed-eights}
use Rattle.scenario.proofs.packing.packed.Goals as goal

pub returns : goal.returns
returns c =
    IfOk-weaker c.collect.result (λ v. v.items ≡ map binary (eights c.args.bits.now)) (λ v. v.items ≡ packed c.args.bits.now) (λ v is. is ∙ packed-eights c.args.bits.now)
    (items_from_collect _ c.collect.ensures.ran (YieldsList-from_map _ binary (eights-from_chunks c.args.bits.now (cc) (cc)) c.map.ensures.closure (λ x r q k. search (rules, tests))))
