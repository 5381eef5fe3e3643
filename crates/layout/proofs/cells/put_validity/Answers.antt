use Rattle.std.proofs.Common.{ap, ◌∙◌, rules}
use Rattle.layout.specs.Layout.{over, packed}
use Rattle.layout.proofs.Sources.{there_rows}
use Rattle.layout.proofs.cells.put_validity.Goals as goal

pub returns : goal.returns
returns g c =
    let shows = g.C.CellSource.shows c.args.cells.now in
    let b = c.put_bits.ensures in
    let t = there_rows shows c.args.rows b.0 b.1 (λ k h. let p = b.2 k h in search (rules, p)) in
    b.3 ∙ ap (λ bs. over (packed bs) c.args.out.now) t
