use Rattle.std.proofs.Common.{arith}
use Rattle.column.specs.Seen.{kind_seen}
use Rattle.layout.specs.Written.{parts_seen}
use Rattle.tables.proofs.Declining.{drop_within, passed}
use Rattle.values.proofs.Kept.{fewer, unput, put}
use Rattle.values.proofs.cells.write_cells.Goals as goal

pub returns-in_err-check_drop : goal.returns-in_err-check_drop
returns-in_err-check_drop g c = λ s e. fewer g.T.HeldCell.shows s c.args.cells.now c.args.n _ c.len.ensures.held (parts_seen c.args.out.now) _ _ c.from_residual.ensures.1 c.in_err-check_drop.ensures

pub returns-in_err-put : goal.returns-in_err-put
returns-in_err-put g c = λ s e.
    let p = c.in_ok-check_drop.ensures in
    let w = drop_within _ _ (passed _ _ _ p) in
    let h = c.len.ensures.held in
    unput g.T.HeldCell.shows s c.args.cells.now c.args.n _ h (parts_seen c.args.out.now) (kind_seen c.args.kind) e p _ _ _ c.from_residual-in_err-put.ensures.1 (c.in_err-put.ensures (omega arith))

pub returns : goal.returns
returns g c = λ s e.
    let p = c.in_ok-check_drop.ensures in
    let w = drop_within _ _ (passed _ _ _ p) in
    let h = c.len.ensures.held in
    put g.T.HeldCell.shows s c.args.cells.now c.args.n _ h (parts_seen c.args.out.now) (kind_seen c.args.kind) e p _ (c.in_ok-put.ensures (omega arith))
