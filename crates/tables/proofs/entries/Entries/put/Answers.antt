use Rattle.layout.specs.Written.{parts_seen}
use Rattle.column.specs.Seen.{kind_seen}
use Rattle.tables.proofs.Short.{put_answer}
use Rattle.tables.proofs.entries.Entries.put.Goals as goal

pub returns : goal.returns
returns g c = λ h.
    let e = c.as_slice-entries in
    put_answer g.T.HeldCell.shows g.met.T.HeldCell.short (kind_seen c.args.kind) c.args.self.now e.result.now c.args.n (parts_seen c.args.out.now) (parts_seen c.put_cells.new.self) c.put_cells.result e.ensures.held h e.ensures.few c.put_cells.ensures
