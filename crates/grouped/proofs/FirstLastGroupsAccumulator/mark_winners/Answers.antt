use Rattle.std.proofs.Common.{◌≡◌, ◌<◌, length, get_or, cond, Some, sym, refl, ap, ◌∙◌, arith}
use Rattle.column.specs.Seen.{marks_seen}
use Rattle.keeping.specs.Seen.{batch_seen}
use Rattle.grouped.specs.Accumulators.{making}
use Rattle.grouped.proofs.Holding.{lawful}
use Rattle.grouped.proofs.Walking.{best_start, best_after}
use Rattle.grouped.proofs.FirstLastGroupsAccumulator.mark_winners.Goals as goal
use Rattle.grouped.proofs.FirstLastGroupsAccumulator.mark_winners.Goals.{then-chooses, else-chooses}

pub loop-row-init : goal.loop-row-init
loop-row-init g c = λ k. best_start _ _ _ k _ (c.requires.none k)

pub loop-row-preserved : goal.loop-row-preserved
loop-row-preserved g c =
    let a = c.args.self.now in
    let b = batch_seen c.args.batch.now in
    let n = c.loop-row.row in
    let best = c.loop-row.best in
    let lt : n < length b.indices = c.loop-row-test.true in
    let old = c.row-marked.ensures in
    let new : c.if-chooses.better ≡ cond c.chooses.result (Some n) c.row-marked.result =
    elim c.if-chooses.branch [
      | then-chooses w ↦ w.better-is ∙ ap (λ t. cond t (Some n) c.row-marked.result) (sym w.if-chooses.true)
      | else-chooses w ↦ w.better-is ∙ ap (λ t. cond t (Some n) c.row-marked.result) (sym w.if-chooses.false)
    ] in
    let is = c.requires.chosen n c.row-marked.result c.chooses.result c.chooses.ensures (c.requires.taken n lt)
    (λ i e. c.requires.taken i (let h : i < n = (c.loop-row.invariant _).among i (sym old ∙ e) in omega arith)) in
    best_after (making a) (lawful a g.met.S.ValueState.lawful g.met.O.RowOrder.lawful) b (marks_seen c.args.batch.now.filter) n
    best.rows c.mark.new.self.rows (get_or b.indices n 0) c.chooses.result c.row-marked.result c.if-chooses.better
    (let f = c.requires.within n lt in omega (arith, f, best.places)) refl old is new c.mark.ensures c.loop-row.invariant
