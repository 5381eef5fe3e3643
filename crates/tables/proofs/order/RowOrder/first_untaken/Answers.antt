use Rattle.std.proofs.Common.{ℕ, Bool, not, sym, ap, ◌∙◌, arith}
use Rattle.std.proofs.lemmas.Bool.{false≢true}
use Rattle.column.specs.Seen.{column_seen}
use Rattle.tables.specs.Reading.{named_taken}
use Rattle.tables.proofs.Provided.{find_here, find_next}
use Rattle.tables.proofs.order.RowOrder.first_untaken.Goals as goal

pub returns-then-not-is_named_taken-clause-read : goal.returns-then-not-is_named_taken-clause-read
returns-then-not-is_named_taken-clause-read g c = λ h.
    let untaken : ℕ → Bool = λ r. not (named_taken (g.Self.GroupTable.settings c.args.self.now) c.args.named (column_seen c.args.column.now) r) in
    sym (sym (c.loop-row.invariant h) ∙ find_here untaken c.args.column.now.rows c.loop-row.row (omega arith) (ap not (sym (c.if-not-is_named_taken.ensures.read h))))

pub returns-then-not-is_named_taken-clause-unread : goal.returns-then-not-is_named_taken-clause-unread
returns-then-not-is_named_taken-clause-unread g c = λ h. absurd (false≢true (c.if-not-is_named_taken.ensures.unread h))

pub loop-row-preserved : goal.loop-row-preserved
loop-row-preserved g c = λ h.
    let untaken : ℕ → Bool = λ r. not (named_taken (g.Self.GroupTable.settings c.args.self.now) c.args.named (column_seen c.args.column.now) r) in
    sym (find_next untaken c.args.column.now.rows c.loop-row.row (omega arith) (ap not (sym (c.if-not-is_named_taken.ensures.read h)))) ∙ c.loop-row.invariant h
