use Rattle.scenario.proofs.Refusing.{begun, unbegun, marks_by_parts, marks_by_cells}
use Rattle.scenario.proofs.marking.read_marks.Goals as goal

pub returns-then-starts_with : goal.returns-then-starts_with
returns-then-starts_with c =
    marks_by_parts c.args.text.now c.by_parts.result (begun c.args.text.now c.starts_with.result c.starts_with.ensures.cases c.if-starts_with.true) c.by_parts.ensures

pub returns-else-starts_with : goal.returns-else-starts_with
returns-else-starts_with c =
    marks_by_cells c.args.text.now c.by_cells.result
    (unbegun c.args.text.now c.starts_with.result c.starts_with.ensures.cases c.if-starts_with.false) c.by_cells.ensures
