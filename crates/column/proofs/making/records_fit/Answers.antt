use Rattle.std.proofs.Common.{◌≡◌, ◌/◌, true, false, length, rules, tests}
use Rattle.std.proofs.lemmas.Iterator.{cases_from_all, YieldsList-from_slice}
use Rattle.std.specs.Simd.{first_chunks}
use Rattle.column.specs.Shapes.{record_fits}
use Rattle.column.proofs.Records.{all_records}
use Rattle.column.proofs.making.records_fit.Goals as goal

pub returns : goal.returns
returns c =
    let bytes = c.args.«data».now in
    let n = length bytes / 25 in
    all_records bytes n c.all.result (cases_from_all _ _ c.all.result (λ b. record_fits b 0 ≡ true) (λ b. record_fits b 0 ≡ false) c.all.ensures.ran (YieldsList-from_slice (first_chunks 25 n bytes) (cc)) (λ x q k. search (rules, tests)) (λ x q k. search (rules, tests)))
