use Rattle.std.proofs.Common.{◌≡◌, ℤ, pos, None, Some, Option, refl, ap, ◌∙◌, w64, SFits, of_z, rules}
use Rattle.std.specs.Option.{unwrap_or}
use Rattle.std.proofs.lemmas.Int.{to_z-of_z}
use Rattle.layout.specs.Layout.{number_bytes, field_bytes, bytes_of}
use Rattle.layout.proofs.Contents.{word_bytes}
use Rattle.scenario.proofs.cells.number_bytes.Goals as goal

or_zero : (o : Option ℤ) → number_bytes (unwrap_or o (pos 0)) ≡ field_bytes o
unfolding number_bytes
or_zero None = refl
or_zero (Some z) = refl

pub returns : goal.returns
unfolding number_bytes
returns c =
    let n = c.unwrap_or.result in
    let f : SFits w64 n = search rules in
    c.to_le_bytes.ensures ∙ word_bytes _ ∙ ap (λ z. bytes_of 8 (of_z w64 z)) (to_z-of_z w64 n f ∙ c.unwrap_or.ensures) ∙ or_zero c.args.number
