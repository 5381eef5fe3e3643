use Rattle.std.proofs.Common.{◌++◌, refl}
use Rattle.std.proofs.lemmas.Slice.{pushed}
use Rattle.std.specs.Prelude.{codes, string_bytes}
use Rattle.replay.specs.Texts.{group_text}
use Rattle.replay.proofs.Listing.{grown}
use Rattle.replay.proofs.answers.write_open.Goals as goal

pub loop-i-preserved : goal.loop-i-preserved
loop-i-preserved c =
    grown group_text (codes " ") c.args.«open».now c.loop-i.i (string_bytes c.args.text.now ++ codes "open=[") c.loop-i-test.true c.loop-i.invariant c.space.ensures
    (pushed c.space.result.now refl c.in_ok-push_str-2.was c.push_str-in-loop-i.ensures.bytes) c.in_ok-write_group.ensures
