use Rattle.std.proofs.Common.{sym, refl, ◌∙◌}
use Rattle.column.specs.Seen.{marks_seen}
use Rattle.layout.specs.Written.{flag_parts_seen}
use Rattle.book.specs.Calls.{convert}
use Rattle.book.specs.Declines.{cols, rows}
use Rattle.keeping.proofs.Checking.{exits, two_pass}
use Rattle.grouped.proofs.Batching.{seen_refused}
use Rattle.grouped.proofs.Converting.{convert_ends, convert_stops, converts, if_taken, merges_as}
use Rattle.grouped.proofs.Holding.{lawful, obeys_from_held, refuses, unchanged}
use Rattle.tables.proofs.Declining.{done_so}
use Rattle.grouped.specs.Accumulators.{making}
use Rattle.keeping.specs.Replies.{flags_only, given_of}
use Rattle.grouped.proofs.FirstLastGroupsAccumulator.convert_to_state.Goals as goal

pub returns-in_err-check_columns-clause-obeys : goal.returns-in_err-check_columns-clause-obeys
returns-in_err-check_columns-clause-obeys g c =
    let a = c.args.self.now in
    let gs = given_of c.args.values c.args.orderings c.args.count in
    let marks = marks_seen c.args.opt_filter in
    let before = flags_only (flag_parts_seen c.args.out.now) in
    obeys_from_held a (lawful a g.met.S.ValueState.lawful g.met.O.RowOrder.lawful) _ _ _ _ (unchanged a)
    (λ ws h. refuses a ws (convert gs marks) before before _ _ h
    (convert_stops (making a) gs marks before _ (c.in_err-check_columns.ensures (g.S.GroupTable.settings a.kept.state) a.kept.pick_first a.kept.ignore_nulls))
    (seen_refused _ _ (exits c.from_residual.result _ _ c.from_residual.ensures.1 refl)) refl)

pub returns-clause-obeys : goal.returns-clause-obeys
returns-clause-obeys g c =
    let a = c.args.self.now in
    let gs = given_of c.args.values c.args.orderings c.args.count in
    let marks = marks_seen c.args.opt_filter in
    let before = flags_only (flag_parts_seen c.args.out.now) in
    obeys_from_held a (lawful a g.met.S.ValueState.lawful g.met.O.RowOrder.lawful) _ _ _ _ (unchanged a)
    (λ ws h. converts a gs marks before ws h _ _ _
    (convert_ends (making a) gs marks before (c.in_ok-check_columns.ensures (g.S.GroupTable.settings a.kept.state) a.kept.pick_first a.kept.ignore_nulls))
    c.write_flags.ensures.answer c.write_flags.ensures.after)

pub returns-clause-merges : goal.returns-clause-merges
returns-clause-merges g c =
    let a = c.args.self.now in
    let gs = given_of c.args.values c.args.orderings c.args.count in
    let marks = marks_seen c.args.opt_filter in
    let p = two_pass (cols (making a) gs) (rows gs marks) (c.in_ok-check_columns.ensures (g.S.GroupTable.settings a.kept.state) a.kept.pick_first a.kept.ignore_nulls) in
    if_taken _ (λ e. merges_as gs marks (sym p.1) _ (flag_parts_seen c.args.out.now) (done_so _ _ _ _ c.write_flags.ensures.after (sym c.write_flags.ensures.answer ∙ e)))
