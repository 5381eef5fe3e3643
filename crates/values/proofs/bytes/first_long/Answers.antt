use Rattle.std.proofs.Common.{ℕ, Bool, not, sym, ap, ◌∙◌, arith}
use Rattle.column.specs.Seen.{column_seen}
use Rattle.tables.specs.Delivered.{bytes_state}
use Rattle.tables.specs.Reading.{cell_taken}
use Rattle.tables.proofs.Provided.{find_here, find_next}
use Rattle.values.proofs.bytes.first_long.Goals as goal

pub returns-then-not-is_short : goal.returns-then-not-is_short
returns-then-not-is_short c =
    let untaken : ℕ → Bool = λ r. not (cell_taken bytes_state (column_seen c.args.column.now) r) in
    sym (sym c.loop-row.invariant ∙ find_here untaken c.args.column.now.rows c.loop-row.row (omega arith) (ap not (sym c.if-not-is_short.ensures)))

pub loop-row-preserved : goal.loop-row-preserved
loop-row-preserved c =
    let untaken : ℕ → Bool = λ r. not (cell_taken bytes_state (column_seen c.args.column.now) r) in
    sym (find_next untaken c.args.column.now.rows c.loop-row.row (omega arith) (ap not (sym c.if-not-is_short.ensures))) ∙ c.loop-row.invariant
