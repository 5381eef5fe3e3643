use Rattle.std.proofs.Common.{true, false, refl, sym}
use Rattle.book.specs.Declines.{ungrouped_declined}
use Rattle.keeping.proofs.Checking.{declines_ungrouped, ends_so, reads_ungrouped, rows_parts}
use Rattle.keeping.specs.Seen.{given_seen}
use Rattle.keeping.proofs.calls.check_ungrouped.Goals as goal

pub returns-in_err-check_cols : goal.returns-in_err-check_cols
unfolding ungrouped_declined
returns-in_err-check_cols g c = declines_ungrouped (g.S.GroupTable.settings c.args.state.now) _ _ _ _ _ c.from_residual.ensures.1
    (rw (← c.in_err-check_cols.ensures (g.S.GroupTable.settings c.args.state.now) true false) refl)

pub returns-in_err-check_kinds : goal.returns-in_err-check_kinds
unfolding ungrouped_declined
returns-in_err-check_kinds g c = declines_ungrouped (g.S.GroupTable.settings c.args.state.now) _ _ _ _ _ c.from_residual-in_err-check_kinds.ensures.1
    (rw (← c.in_ok-check_cols.ensures (g.S.GroupTable.settings c.args.state.now) true false, ← c.in_err-check_kinds.ensures) refl)

pub returns-in_err-check_rows : goal.returns-in_err-check_rows
unfolding ungrouped_declined
returns-in_err-check_rows g c = declines_ungrouped (g.S.GroupTable.settings c.args.state.now) _ _ _ _ _ c.from_residual-in_err-check_rows.ensures.1
    (rw (← c.in_ok-check_cols.ensures (g.S.GroupTable.settings c.args.state.now) true false, ← c.in_ok-check_kinds.ensures, ← c.in_err-check_rows.ensures) refl)

pub returns-in_err-check_flags : goal.returns-in_err-check_flags
unfolding ungrouped_declined
returns-in_err-check_flags g c = declines_ungrouped (g.S.GroupTable.settings c.args.state.now) _ _ _ _ _ c.from_residual-in_err-check_flags.ensures.1
    (rw (← c.in_ok-check_cols.ensures (g.S.GroupTable.settings c.args.state.now) true false, ← c.in_ok-check_kinds.ensures, ← c.in_ok-check_rows.ensures, ← c.in_err-check_flags.ensures) refl)

pub check_long-requires : goal.check_long-requires
check_long-requires g c = record {
  read = sym (c.in_ok-check_cols.ensures (g.S.GroupTable.settings c.args.state.now) true false);
  kinds = sym c.in_ok-check_kinds.ensures;
  alike = rows_parts (given_seen c.args.given.now) _ (sym c.in_ok-check_rows.ensures);
}

pub returns : goal.returns
unfolding ungrouped_declined
returns g c = reads_ungrouped (g.S.GroupTable.settings c.args.state.now) _ _ _ _
    (rw (← c.in_ok-check_cols.ensures (g.S.GroupTable.settings c.args.state.now) true false, ← c.in_ok-check_kinds.ensures, ← c.in_ok-check_rows.ensures, ← c.in_ok-check_flags.ensures) (ends_so _ _ c.check_long.ensures))
