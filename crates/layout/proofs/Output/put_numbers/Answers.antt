use Rattle.std.proofs.Common.{List, None, not, subst}
use Rattle.column.specs.Cells.{Cell, numbers, number_cell}
use Rattle.column.specs.Checks.{refuse, Settles}
use Rattle.layout.specs.declared.OutputFault.TheVariants.{Space}
use Rattle.layout.specs.Layout.{laid_out, fits, written}
use Rattle.layout.specs.Written.{parts_seen}
use Rattle.layout.proofs.Sources.{rows_made}
use Rattle.layout.proofs.Output.put_numbers.Goals as goal

pub returns : goal.returns
returns c =
    let old = parts_seen c.args.self.now in
    let e = rows_made number_cell c.args.cells.now None in
    subst (λ (cs : List Cell). Settles (refuse (not (fits (laid_out numbers cs) old)) Space) tt (written (laid_out numbers cs) old) old c.put_cells.result (parts_seen c.put_cells.new.self)) e c.put_cells.ensures
