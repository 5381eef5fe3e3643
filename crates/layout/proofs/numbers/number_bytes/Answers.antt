use Rattle.std.proofs.Common.{ap, ◌∙◌, w64, SFits, of_z, rules}
use Rattle.std.proofs.lemmas.Int.{to_z-of_z}
use Rattle.layout.specs.Layout.{number_bytes, bytes_of}
use Rattle.layout.proofs.Contents.{word_bytes}
use Rattle.layout.proofs.numbers.number_bytes.Goals as goal

pub returns : goal.returns
unfolding number_bytes
returns c =
    let n = c.args.number in
    let f : SFits w64 n = search rules in
    c.to_le_bytes.ensures ∙ word_bytes _ ∙ ap (λ z. bytes_of 8 (of_z w64 z)) (to_z-of_z w64 n f)
