use Rattle.std.proofs.Common.{ltb, true, false, refl, sym, ◌∙◌}
use Rattle.column.specs.Checks.{refuse}
use Rattle.column.specs.Faults.{SHRUNK, TOTAL}
use Rattle.book.specs.Declines.{batch_declined, own}
use Rattle.keeping.proofs.Checking.{declines, ends_so, groups_same, reads_alike, rows_parts, two_pass, two_stop}
use Rattle.keeping.specs.Seen.{given_seen}
use Rattle.keeping.proofs.calls.check_batch.Goals as goal

pub returns-in_err-check_cols : goal.returns-in_err-check_cols
unfolding batch_declined
returns-in_err-check_cols g c = declines (g.S.GroupTable.settings c.args.state.now) _ _ _ _ _ _ c.from_residual.ensures.1
    (rw (← c.in_err-check_cols.ensures (g.S.GroupTable.settings c.args.state.now) true false) refl)

pub returns-in_err-check_kinds : goal.returns-in_err-check_kinds
unfolding batch_declined
returns-in_err-check_kinds g c = declines (g.S.GroupTable.settings c.args.state.now) _ _ _ _ _ _ c.from_residual-in_err-check_kinds.ensures.1
    (rw (← c.in_ok-check_cols.ensures (g.S.GroupTable.settings c.args.state.now) true false, ← c.in_err-check_kinds.ensures) refl)

pub returns-in_err-check_rows : goal.returns-in_err-check_rows
unfolding batch_declined
returns-in_err-check_rows g c = declines (g.S.GroupTable.settings c.args.state.now) _ _ _ _ _ _ c.from_residual-in_err-check_rows.ensures.1
    (rw (← c.in_ok-check_cols.ensures (g.S.GroupTable.settings c.args.state.now) true false, ← c.in_ok-check_kinds.ensures, ← c.in_err-check_rows.ensures) refl)

pub returns-in_err-same_rows : goal.returns-in_err-same_rows
unfolding batch_declined
returns-in_err-same_rows g c = declines (g.S.GroupTable.settings c.args.state.now) _ _ _ _ _ _ c.from_residual-in_err-same_rows.ensures.1
    (rw (← c.in_ok-check_cols.ensures (g.S.GroupTable.settings c.args.state.now) true false, ← c.in_ok-check_kinds.ensures, ← c.in_ok-check_rows.ensures, ← c.in_err-same_rows.ensures) refl)

pub returns-in_err-check_total : goal.returns-in_err-check_total
unfolding batch_declined
returns-in_err-check_total g c = declines (g.S.GroupTable.settings c.args.state.now) _ _ _ _ _ _ c.from_residual-in_err-check_total.ensures.1
    (rw (← c.in_ok-check_cols.ensures (g.S.GroupTable.settings c.args.state.now) true false, ← c.in_ok-check_kinds.ensures, ← c.in_ok-check_rows.ensures, ← c.in_ok-same_rows.ensures) (two_stop (refuse (ltb 256 c.args.batch.now.total) (own TOTAL)) (refuse (ltb c.args.batch.now.total c.args.held) (own SHRUNK)) _ _ c.in_err-check_total.ensures))

pub returns-in_err-check_groups : goal.returns-in_err-check_groups
unfolding batch_declined
returns-in_err-check_groups g c = declines (g.S.GroupTable.settings c.args.state.now) _ _ _ _ _ _ c.from_residual-in_err-check_groups.ensures.1
    (rw (← c.in_ok-check_cols.ensures (g.S.GroupTable.settings c.args.state.now) true false, ← c.in_ok-check_kinds.ensures, ← c.in_ok-check_rows.ensures, ← c.in_ok-same_rows.ensures, ← (two_pass (refuse (ltb 256 c.args.batch.now.total) (own TOTAL)) (refuse (ltb c.args.batch.now.total c.args.held) (own SHRUNK)) c.in_ok-check_total.ensures).0, ← (two_pass (refuse (ltb 256 c.args.batch.now.total) (own TOTAL)) (refuse (ltb c.args.batch.now.total c.args.held) (own SHRUNK)) c.in_ok-check_total.ensures).1, ← (c.in_err-check_groups.ensures ∙ groups_same _ _ _ c.in_ok-same_rows.ensures)) refl)

pub check_long-requires : goal.check_long-requires
check_long-requires g c = record {
  read = sym (c.in_ok-check_cols.ensures (g.S.GroupTable.settings c.args.state.now) true false);
  kinds = sym c.in_ok-check_kinds.ensures;
  alike = rows_parts (given_seen c.args.batch.now.columns) _ (sym c.in_ok-check_rows.ensures);
}

pub returns : goal.returns
unfolding batch_declined
returns g c = reads_alike (g.S.GroupTable.settings c.args.state.now) _ _ _ _ _
    (rw (← c.in_ok-check_cols.ensures (g.S.GroupTable.settings c.args.state.now) true false, ← c.in_ok-check_kinds.ensures, ← c.in_ok-check_rows.ensures, ← c.in_ok-same_rows.ensures, ← (two_pass (refuse (ltb 256 c.args.batch.now.total) (own TOTAL)) (refuse (ltb c.args.batch.now.total c.args.held) (own SHRUNK)) c.in_ok-check_total.ensures).0, ← (two_pass (refuse (ltb 256 c.args.batch.now.total) (own TOTAL)) (refuse (ltb c.args.batch.now.total c.args.held) (own SHRUNK)) c.in_ok-check_total.ensures).1, ← (c.in_ok-check_groups.ensures ∙ groups_same _ _ _ c.in_ok-same_rows.ensures)) (ends_so _ _ c.check_long.ensures))
