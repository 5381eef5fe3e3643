use Rattle.std.proofs.Common.{◌≡◌, true, sym, ap, subst}
use Rattle.column.specs.Cells.{Kind}
use Rattle.column.specs.Seen.{kind_seen}
use Rattle.layout.specs.Written.{parts_seen, rows_laid, has_place}
use Rattle.layout.proofs.Places.{validity_place, numbers_place, strings_place, records_place}
use Rattle.layout.proofs.Output.put_cells.Goals as goal

pub put_validity-requires : goal.put_validity-requires
put_validity-requires g c =
    validity_place (g.C.CellSource.shows c.args.cells.now) c.args.rows (kind_seen c.args.kind) (parts_seen c.args.self.now) (sym c.if-not-has_place.ensures)

pub put_numbers-requires : goal.put_numbers-requires
put_numbers-requires g c =
    let shows = g.C.CellSource.shows c.args.cells.now in
    let old = parts_seen c.args.self.now in
    let P : Kind → Type 0 = λ k. has_place k (rows_laid k shows c.args.rows) old ≡ true in
    numbers_place shows c.args.rows old (subst P (ap kind_seen c.in-Number.is) (sym c.if-not-has_place.ensures))

pub put_strings-requires-clause-offsets : goal.put_strings-requires-clause-offsets
put_strings-requires-clause-offsets g c =
    let shows = g.C.CellSource.shows c.args.cells.now in
    let old = parts_seen c.args.self.now in
    let P : Kind → Type 0 = λ k. has_place k (rows_laid k shows c.args.rows) old ≡ true in
    strings_place shows c.args.rows old (subst P (ap kind_seen c.in-Bytes.is) (sym c.if-not-has_place.ensures))

pub put_records-requires : goal.put_records-requires
put_records-requires g c =
    let shows = g.C.CellSource.shows c.args.cells.now in
    let old = parts_seen c.args.self.now in
    let P : Kind → Type 0 = λ k. has_place k (rows_laid k shows c.args.rows) old ≡ true in
    records_place shows c.args.rows old (subst P (ap kind_seen c.in-Record.is) (sym c.if-not-has_place.ensures))
