use Rattle.std.proofs.Common.{sym, ap, ◌∙◌}
use Rattle.layout.specs.Written.{parts_seen}
use Rattle.tables.proofs.Declining.{done_so, refused_same}
use Rattle.book.specs.Calls.{evaluate, dropped}
use Rattle.keeping.specs.Replies.{values_only}
use Rattle.grouped.proofs.Emitting.{emission_refused, evaluate_is, evaluated}
use Rattle.grouped.proofs.Holding.{lawful, obeys_from_held, refuses, unchanged}
use Rattle.grouped.specs.Seen.{to_seen}
use Rattle.grouped.proofs.FirstLastGroupsAccumulator.evaluate.Goals as goal

pub returns-in_err-write_values-clause-obeys : goal.returns-in_err-write_values-clause-obeys
returns-in_err-write_values-clause-obeys g c =
    let a = c.args.self.now in
    let to = to_seen c.args.emit_to in
    let before = values_only (parts_seen c.args.out.now) in
    obeys_from_held a (lawful a g.met.S.ValueState.lawful g.met.O.RowOrder.lawful) _ _ _ _ (unchanged a)
    (λ ws h. refuses a ws (evaluate to) before _ _ _ h
    (evaluate_is a to c.count-n.result c.count-n.ensures ws h before ∙ sym c.in_err-write_values.ensures.answer)
    (emission_refused _ _ c.from_residual.ensures.1)
    (ap values_only (c.write_values.ensures.after ∙ sym (refused_same _ _ _ _ (sym c.in_err-write_values.ensures.answer)))))

pub returns-clause-obeys : goal.returns-clause-obeys
returns-clause-obeys g c =
    let a = c.args.self.now in
    let to = to_seen c.args.emit_to in
    let n = c.count-n.result in
    let before = values_only (parts_seen c.args.out.now) in
    obeys_from_held a (lawful a g.met.S.ValueState.lawful g.met.O.RowOrder.lawful) _ _ _ _ c.drop_groups.ensures.made
    (λ ws h. evaluated a to n c.count-n.ensures ws h c.drop_groups.new.self c.drop_groups.ensures.made c.drop_groups.ensures.after before _ _
    (sym c.in_ok-write_values.ensures.answer)
    (ap dropped c.drop_groups.ensures.dropped)
    (ap values_only (done_so _ _ _ _ c.write_values.ensures.after (sym c.in_ok-write_values.ensures.answer))))
