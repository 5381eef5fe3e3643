use Rattle.std.proofs.Common.{◌<◌, ◌++◌, get_or, false, Some, ap, ap₂, subst, ◌∙◌, arith}
use Rattle.std.specs.Prelude.{codes, string_bytes}
use Rattle.std.specs.Option.{option_map}
use Rattle.std.specs.Fmt.{AppendsText, padded_integral, shown_prefix, radix_prefix}
use Rattle.std.proofs.lemmas.Fmt.{hex_byte}
use Rattle.replay.specs.Texts.{hex_text}
use Rattle.replay.proofs.Listing.{spread}
use Rattle.replay.proofs.buffers.write_bytes.Goals as goal

pub loop-byte-preserved : goal.loop-byte-preserved
loop-byte-preserved c =
    let xs = c.args.bytes.now in
    let i = c.loop-byte.byte-index in
    let small : get_or xs i 0 < 256 = omega (arith, c.type_inv.bytes i) in
    let digits = ap₂ (λ s o. option_map (padded_integral s false (shown_prefix s (radix_prefix c.in_radix.result.base))) o) c.laid_out.ensures c.in_radix.ensures in
    let shown = digits ∙ ap (λ ds. Some ds) (hex_byte false (get_or xs i 0) small) in
    spread hex_text xs i (string_bytes c.args.text.now ++ codes "x") c.loop-byte-test.true c.loop-byte.invariant
    (subst (λ o. AppendsText (string_bytes c.loop-byte.text) (string_bytes c.write.new.self) o) shown c.in_ok-write.ensures.bytes)
