use Rattle.std.proofs.Common.{◌≡◌, ◌++◌}
use Rattle.std.specs.Prelude.{encode_utf8}
use Rattle.scenario.proofs.Stripping.{inner_text, rest_text}
use Rattle.scenario.proofs.lists.between.Goals as goal

pub returns : goal.returns
returns c =
    let begins : c.args.text.now ≡ encode_utf8 c.args.first ++ c.in_ok-rest.rest.now =
    rest_text c.args.first c.args.text.now c.strip_prefix.result c.in_ok-rest.rest c.in_ok-rest.ensures.value c.strip_prefix.ensures.cases in
    rw c.ok_or-2.ensures.value (inner_text c.args.first c.args.last c.args.text.now c.in_ok-rest.rest.now c.strip_suffix.result begins c.strip_suffix.ensures.cases)
