use Rattle.std.proofs.Common.{◌++◌, refl}
use Rattle.std.proofs.lemmas.Slice.{pushed}
use Rattle.std.specs.Prelude.{codes, decimal, string_bytes}
use Rattle.replay.proofs.Listing.{grown}
use Rattle.replay.proofs.buffers.write_offsets.Goals as goal

pub loop-i-preserved : goal.loop-i-preserved
loop-i-preserved c =
    grown decimal (codes " ") c.args.offsets.now c.loop-i.i (string_bytes c.args.text.now ++ codes "[") c.loop-i-test.true c.loop-i.invariant c.space.ensures
    (pushed c.space.result.now refl c.in_ok-push_str.was c.push_str.ensures.bytes) c.in_ok-write.ensures.bytes
