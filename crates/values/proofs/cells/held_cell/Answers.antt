use Rattle.std.proofs.Common.{ap, ◌∙◌, Ok}
use Rattle.values.proofs.Kept.{cell_held, cell_unheld}
use Rattle.values.proofs.cells.held_cell.Goals as goal

pub returns-in-Some : goal.returns-in-Some
returns-in-Some g c = ap Ok c.view.ensures ∙ cell_held g.T.HeldCell.shows c.args.cells.now c.args.group_idx c.in-Some.held.now c.in-Some.ensures

pub returns-in-None : goal.returns-in-None
returns-in-None g c = cell_unheld g.T.HeldCell.shows c.args.cells.now c.args.group_idx c.in-None.ensures
