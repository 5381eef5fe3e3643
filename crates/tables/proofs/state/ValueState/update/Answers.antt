use Rattle.std.proofs.Common.{ap, ◌∙◌, length, true, false, ◌≡◌, leb, arith}
use Rattle.std.proofs.lemmas.Bool.{le-leb, lt-leb}
use Rattle.column.specs.Seen.{column_seen}
use Rattle.tables.specs.Refusals.{cell_refused}
use Rattle.tables.proofs.Declining.{passed, answer_some, answer_none, refused_same, passed_new}
use Rattle.tables.proofs.Provided.{cell_outside, cell_settled}
use Rattle.tables.proofs.state.ValueState.update.Goals as goal

pub returns-then-group_idx-groups-clause-settles : goal.returns-then-group_idx-groups-clause-settles
returns-then-group_idx-groups-clause-settles g c =
    let s = g.Self.GroupTable.settings c.args.self.now in
    let es = g.Self.GroupTable.entries c.args.self.now in
    let col = column_seen c.args.column.now in
    let h : leb (length es) c.args.group_idx ≡ true = le-leb (length es) c.args.group_idx (omega arith) in
    let e = ap (λ b. cell_refused s b col c.args.row) h ∙ cell_outside s col c.args.row in
    record { answered = answer_some _ _ _ e; left = refused_same _ _ _ _ e }

pub returns-clause-settles : goal.returns-clause-settles
returns-clause-settles g c =
    let s = g.Self.GroupTable.settings c.args.self.now in
    let es = g.Self.GroupTable.entries c.args.self.now in
    let col = column_seen c.args.column.now in
    let h : leb (length es) c.args.group_idx ≡ false = lt-leb (length es) c.args.group_idx (omega arith) in
    let p = passed _ _ _ c.in_ok-takes.ensures in
    let e = ap (λ b. cell_refused s b col c.args.row) h ∙ p in
    let t = cell_settled s col c.args.row p in
    record { answered = answer_none _ _ e; left = c.put_cell.ensures.after ∙ rw (t.0, t.1) (passed_new _ _ _ e) }
