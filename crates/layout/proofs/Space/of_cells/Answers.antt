use Rattle.std.proofs.Common.{sym, ap, ◌∙◌}
use Rattle.column.specs.Seen.{kind_seen}
use Rattle.layout.specs.Written.{measured, rows_laid}
use Rattle.layout.proofs.Places.{numbers_measured, records_measured}
use Rattle.layout.proofs.Space.of_cells.Goals as goal

pub returns-in-Number : goal.returns-in-Number
returns-in-Number g c =
    let shows = g.C.CellSource.shows c.args.cells.now in
    c.wide_space.ensures ∙ numbers_measured shows c.args.rows
    ∙ ap (λ k. measured (rows_laid (kind_seen k) shows c.args.rows)) (sym c.in-Number.is)

pub returns-in-Record : goal.returns-in-Record
returns-in-Record g c =
    let shows = g.C.CellSource.shows c.args.cells.now in
    c.wide_space-in-Record.ensures ∙ records_measured shows c.args.rows
    ∙ ap (λ k. measured (rows_laid (kind_seen k) shows c.args.rows)) (sym c.in-Record.is)
