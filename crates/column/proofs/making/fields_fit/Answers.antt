use Rattle.std.proofs.Common.{◌≡◌, rules, true, false, tests}
use Rattle.std.proofs.lemmas.Iterator.{cases_from_all, YieldsList-from_range}
use Rattle.column.specs.Shapes.{field_fits}
use Rattle.column.proofs.Records.{all_three}
use Rattle.column.proofs.making.fields_fit.Goals as goal

pub returns : goal.returns
returns c =
    let bytes = c.args.bytes.now in
    let a = cases_from_all _ _ c.all.result (λ j. field_fits bytes 0 j ≡ true) (λ j. field_fits bytes 0 j ≡ false) c.all.ensures.ran (YieldsList-from_range 0 3 3 (cc) (cc)) (λ x q k. search (rules, tests)) (λ x q k. search (rules, tests)) in
    all_three (field_fits bytes 0) c.all.result a
