use Rattle.std.proofs.Common.{ℕ, Bool, not, sym, ap, ◌∙◌, arith}
use Rattle.column.specs.Seen.{column_seen}
use Rattle.tables.specs.Reading.{cell_taken}
use Rattle.tables.proofs.Provided.{find_here, find_next}
use Rattle.tables.proofs.state.ValueState.first_untaken.Goals as goal

pub returns-then-not-is_taken : goal.returns-then-not-is_taken
returns-then-not-is_taken g c =
    let untaken : ℕ → Bool = λ r. not (cell_taken (g.Self.GroupTable.settings c.args.self.now) (column_seen c.args.column.now) r) in
    sym (sym c.loop-row.invariant ∙ find_here untaken c.args.column.now.rows c.loop-row.row (omega arith) (ap not (sym c.if-not-is_taken.ensures)))

pub loop-row-preserved : goal.loop-row-preserved
loop-row-preserved g c =
    let untaken : ℕ → Bool = λ r. not (cell_taken (g.Self.GroupTable.settings c.args.self.now) (column_seen c.args.column.now) r) in
    sym (find_next untaken c.args.column.now.rows c.loop-row.row (omega arith) (ap not (sym c.if-not-is_taken.ensures))) ∙ c.loop-row.invariant
