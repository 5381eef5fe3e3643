use Rattle.std.proofs.Common.{[], ◌∷◌, sym, refl, ap, ◌∙◌}
use Rattle.column.specs.Checks.{first_of}
use Rattle.tables.proofs.Declining.{done_so, refused_same}
use Rattle.book.specs.Calls.{state, dropped}
use Rattle.keeping.specs.Fronts.{state_declined}
use Rattle.keeping.specs.Seen.{outputs_seen}
use Rattle.keeping.proofs.Checking.{first_then}
use Rattle.grouped.proofs.Emitting.{emission_refused, state_is, state_taken}
use Rattle.grouped.proofs.Holding.{lawful, obeys_from_held, refuses, unchanged}
use Rattle.grouped.specs.Leaving.{front}
use Rattle.grouped.specs.Seen.{to_seen}
use Rattle.grouped.proofs.FirstLastGroupsAccumulator.state.Goals as goal

pub returns-in_err-check_some-clause-obeys : goal.returns-in_err-check_some-clause-obeys
returns-in_err-check_some-clause-obeys g c =
    let a = c.args.self.now in
    let to = to_seen c.args.emit_to in
    let n = c.count-n.result in
    let before = outputs_seen c.args.out.now in
    obeys_from_held a (lawful a g.met.S.ValueState.lawful g.met.O.RowOrder.lawful) _ _ _ _ (unchanged a)
    (λ ws h. refuses a ws (state to) before before _ _ h
    (state_is a to n c.count-n.ensures ws h before ∙ ap (λ x. first_of (x ∷ state_declined (front a) n before ∷ [])) (sym c.in_err-check_some.ensures))
    (emission_refused _ _ c.from_residual.ensures.1) refl)

pub returns-in_err-write_state-clause-obeys : goal.returns-in_err-write_state-clause-obeys
returns-in_err-write_state-clause-obeys g c =
    let a = c.args.self.now in
    let to = to_seen c.args.emit_to in
    let n = c.count-n.result in
    let before = outputs_seen c.args.out.now in
    let x = obeys_from_held a (lawful a g.met.S.ValueState.lawful g.met.O.RowOrder.lawful) _ _ _ _ (unchanged a)
    (λ ws h. refuses a ws (state to) before _ _ _ h
    (state_is a to n c.count-n.ensures ws h before ∙ sym (first_then _ _ _ c.in_ok-check_some.ensures c.in_err-write_state.ensures.answer))
    (emission_refused _ _ c.from_residual-in_err-write_state.ensures.1)
    (c.write_state.ensures.after ∙ sym (refused_same _ _ _ _ (sym c.in_err-write_state.ensures.answer)))) in
    record { same_making = x.same_making; answers_so = x.answers_so; keeps_so = x.keeps_so }

pub returns-clause-obeys : goal.returns-clause-obeys
returns-clause-obeys g c =
    let a = c.args.self.now in
    let to = to_seen c.args.emit_to in
    let n = c.count-n.result in
    let before = outputs_seen c.args.out.now in
    obeys_from_held a (lawful a g.met.S.ValueState.lawful g.met.O.RowOrder.lawful) _ _ _ _ c.drop_groups.ensures.made
    (λ ws h. state_taken a to n c.count-n.ensures ws h c.drop_groups.new.self c.drop_groups.ensures.made c.drop_groups.ensures.after before _ _
    (sym c.in_ok-check_some.ensures) (sym c.in_ok-write_state.ensures.answer)
    (ap dropped c.drop_groups.ensures.dropped)
    (done_so _ _ _ _ c.write_state.ensures.after (sym c.in_ok-write_state.ensures.answer)))
