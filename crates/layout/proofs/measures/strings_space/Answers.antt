use Rattle.std.proofs.Common.{◌≡◌, ◌+◌, ◌/◌, ◌<◌, ◌∙◌, arith}
use Rattle.layout.proofs.Places.{strings_measured, strings_unmeasured}
use Rattle.layout.proofs.measures.strings_space.Goals as goal

pub returns-in_err-offsets : goal.returns-in_err-offsets
returns-in_err-offsets g c =
    let q : c.args.rows + 1 < 18446744073709551616 → ⊥ = c.in_err-offsets.ensures in
    c.from_residual.ensures ∙ strings_unmeasured (g.C.CellSource.shows c.args.cells.now) c.args.rows (omega (arith, q))

pub returns-in-Some : goal.returns-in-Some
returns-in-Some g c =
    let v : c.div_ceil.result ≡ (c.args.rows + 7) / 8 = omega (arith, c.div_ceil.ensures) in
    let o = c.in_ok-offsets.ensures in
    strings_measured (g.C.CellSource.shows c.args.cells.now) c.args.rows _ _ _ v o.0 o.1 c.in-Some.ensures
