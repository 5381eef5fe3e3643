use Rattle.std.proofs.Common.{ap, sym, ◌∙◌}
use Rattle.std.proofs.lemmas.Bool.{le-ltb, lt-ltb}
use Rattle.column.specs.Checks.{outcome}
use Rattle.column.specs.Seen.{column_seen}
use Rattle.tables.proofs.Declining.{passed, exits, answer_some, answer_none}
use Rattle.tables.proofs.Provided.{first_stops, named_checks, named_settled}
use Rattle.tables.proofs.order.RowOrder.takes_named.Goals as goal

pub returns-in_err-reads_named : goal.returns-in_err-reads_named
returns-in_err-reads_named g c =
    let k = named_checks (g.Self.GroupTable.settings c.args.self.now) c.args.named (column_seen c.args.column.now) c.args.row in
    exits _ _ _ _ _ c.from_residual.ensures.1 (first_stops _ _ _ _ _ c.in_err-reads_named.ensures ∙ ap (λ o. outcome o (tt {0})) (sym k))

pub returns-then-row-column : goal.returns-then-row-column
returns-then-row-column g c =
    let k = named_checks (g.Self.GroupTable.settings c.args.self.now) c.args.named (column_seen c.args.column.now) c.args.row in
    let u = passed _ _ _ c.in_ok-reads_named.ensures in
    let l = le-ltb c.args.row c.args.column.now.rows c.if-row-column.true in
    answer_some _ _ _ (k ∙ rw (u, l))

pub returns-then-not-is_named_taken : goal.returns-then-not-is_named_taken
returns-then-not-is_named_taken g c =
    let k = named_checks (g.Self.GroupTable.settings c.args.self.now) c.args.named (column_seen c.args.column.now) c.args.row in
    let u = passed _ _ _ c.in_ok-reads_named.ensures in
    let l = lt-ltb c.args.row c.args.column.now.rows c.if-row-column.false in
    let p = named_settled (g.Self.GroupTable.settings c.args.self.now) c.args.named (column_seen c.args.column.now) c.args.row u in
    let t = sym (c.if-not-is_named_taken.ensures.read p.0 ∙ p.1) in
    answer_some _ _ _ (k ∙ rw (u, l, t))

pub returns : goal.returns
returns g c =
    let k = named_checks (g.Self.GroupTable.settings c.args.self.now) c.args.named (column_seen c.args.column.now) c.args.row in
    let u = passed _ _ _ c.in_ok-reads_named.ensures in
    let l = lt-ltb c.args.row c.args.column.now.rows c.if-row-column.false in
    let p = named_settled (g.Self.GroupTable.settings c.args.self.now) c.args.named (column_seen c.args.column.now) c.args.row u in
    let t = sym (c.if-not-is_named_taken.ensures.read p.0 ∙ p.1) in
    answer_none _ _ (k ∙ rw (u, l, t))
