use Rattle.std.proofs.Common.{◌≡◌, ◌+◌, ◌*◌, ap, ◌∙◌, of_z, w64, arith}
use Rattle.column.specs.Columns.{little, part}
use Rattle.column.proofs.Little.{bits_in}
use Rattle.column.proofs.making.field_fits.Goals as goal

pub returns-else-bit : goal.returns-else-bit
returns-else-bit c =
    let at = 1 + 8 * c.args.j in
    let n : of_z w64 c.number.result ≡ little (part at 8 c.args.bytes.now) = ap (of_z w64) c.number.ensures ∙ bits_in c.args.bytes.now at (omega arith) c.fits-bytes in
    grind arith
