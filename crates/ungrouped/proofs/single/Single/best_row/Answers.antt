use Rattle.std.proofs.Common.{◌≡◌, ◌+◌, ◌<◌, ◌&&◌, cond, Some, sym, ap, ◌∙◌, subst, arith}
use Rattle.ungrouped.specs.Accumulators.{alone}
use Rattle.ungrouped.specs.Found.{outermost_top, Found}
use Rattle.ungrouped.proofs.Holding.{lawful}
use Rattle.ungrouped.proofs.Walking.{best_first, best_more, best_none}
use Rattle.ungrouped.proofs.single.Single.best_row.Goals as goal
use Rattle.ungrouped.proofs.single.Single.best_row.Goals.{then-taken, else-taken}

pub returns-in_err-best : goal.returns-in_err-best
returns-in_err-best g c = λ p given t r.
    subst (Found (outermost_top (alone c.args.self.now).making) p given c.args.rows) (sym c.from_residual.ensures) (best_none (alone c.args.self.now).making p given c.args.rows (c.in_err-best.ensures.found p t))

pub overflow_step-row : goal.overflow_step-row
overflow_step-row g c = omega (arith, c.in_ok-best.ensures.within, c.ranges.rows.fits)

pub loop-row-init : goal.loop-row-init
loop-row-init g c =
    let s = c.args.self.now in (
      omega arith,
      omega (arith, c.in_ok-best.ensures.within),
      λ p given t r.
          best_first (alone s).making (lawful s g.met.S.ValueState.lawful g.met.O.RowOrder.lawful) p given c.args.rows c.in_ok-best.best (c.in_ok-best.ensures.found p t),
    )

pub loop-row-preserved : goal.loop-row-preserved
loop-row-preserved g c =
    let s = c.args.self.now in
    let m = (alone s).making in
    let i = c.loop-row.invariant in
    let n = c.loop-row.row in
    let k = c.loop-row.best in
    let here : n < c.args.rows = omega (arith, c.loop-row-test.true) in
    let before : k < c.args.rows = omega (arith, i.0) in
    let is : c.if-taken.best ≡ cond (c.test.result && c.is_outdone.result) n k =
    elim c.if-taken.branch [
      | then-taken w ↦ w.best-is ∙ ap (λ b. cond b n k) (sym w.if-taken.true)
      | else-taken w ↦ w.best-is ∙ ap (λ b. cond b n k) (sym w.if-taken.false)
    ] in
    let low : c.if-taken.best < n + 1 =
    elim c.if-taken.branch [
      | then-taken w ↦ omega (arith, w.best-is)
      | else-taken w ↦ omega (arith, w.best-is, i.0)
    ] in (
      low,
      omega arith,
      λ p given t r.
          best_more m (lawful s g.met.S.ValueState.lawful g.met.O.RowOrder.lawful) p given n k c.if-taken.best c.test.result c.is_outdone.result (t _ _ c.test.ensures)
          (c.is_outdone.ensures _ _ (r n k _ here before c.compare.ensures)) is (i.2 p given t r),
    )

pub returns : goal.returns
returns g c = λ p given t r.
    let i = c.loop-row.invariant in
    let e : c.loop-row.row ≡ c.args.rows = omega (arith, i.1, c.loop-row-test.false) in
    subst (λ n. Found (outermost_top (alone c.args.self.now).making) p given n (Some c.loop-row.best)) e (i.2 p given t r)
