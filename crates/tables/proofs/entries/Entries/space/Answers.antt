use Rattle.std.proofs.Common.{◌≡◌, length, None, sym, ap, ◌∙◌, rules}
use Rattle.column.specs.Seen.{kind_seen}
use Rattle.tables.specs.Refusals.{dropping}
use Rattle.tables.proofs.Declining.{passed, drop_within}
use Rattle.tables.proofs.Short.{space_answer}
use Rattle.tables.proofs.entries.Entries.space.Goals as goal

pub unwrap-requires : goal.unwrap-requires
unwrap-requires g c =
    let e = c.as_slice-entries in
    let d : dropping (length c.args.self.now) c.args.n ≡ None = ap (λ xs. dropping (length xs) c.args.n) (sym e.ensures.held) ∙ passed _ _ _ c.in_ok-check_drop.ensures in
    let m = space_answer g.T.HeldCell.shows g.met.T.HeldCell.short (kind_seen c.args.kind) c.args.self.now e.result.now c.args.n c.of_cells.result e.ensures.held (drop_within _ _ d) e.ensures.few c.of_cells.ensures in
    search rules

pub returns : goal.returns
returns g c =
    let e = c.as_slice-entries in
    let d : dropping (length c.args.self.now) c.args.n ≡ None = ap (λ xs. dropping (length xs) c.args.n) (sym e.ensures.held) ∙ passed _ _ _ c.in_ok-check_drop.ensures in
    let m = space_answer g.T.HeldCell.shows g.met.T.HeldCell.short (kind_seen c.args.kind) c.args.self.now e.result.now c.args.n c.of_cells.result e.ensures.held (drop_within _ _ d) e.ensures.few c.of_cells.ensures in
    let u = c.unwrap.ensures in
    search rules
