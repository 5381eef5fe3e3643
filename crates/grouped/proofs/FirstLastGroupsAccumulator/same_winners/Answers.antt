use Rattle.std.proofs.Common.{length, refl, sym, ◌∙◌, arith}
use Rattle.std.proofs.lemmas.Bool.{false≢true}
use Rattle.grouped.specs.Accumulators.{held}
use Rattle.grouped.specs.Reached.{winner_shown}
use Rattle.grouped.proofs.Holding.{flags_many}
use Rattle.grouped.proofs.HoldingAlike.{holds_all, holds_at, holds_as_many, agrees_next}
use Rattle.grouped.proofs.FirstLastGroupsAccumulator.same_winners.Goals as goal

pub returns-then-groups-other : goal.returns-then-groups-other
returns-then-groups-other g c =
    let a = c.args.self.now in
    let b = c.args.other.now in (
      λ e. absurd (false≢true e),
      λ h. absurd (c.if-groups-other.true (sym (flags_many a) ∙ holds_as_many (winner_shown a) (winner_shown b) (length (held a).flags) (length (held b).flags) h ∙ flags_many b)),
    )

pub loop-group-init : goal.loop-group-init
loop-group-init g c = λ k h. absurd (omega arith)

pub returns-then-not-same_winner : goal.returns-then-not-same_winner
returns-then-not-same_winner g c =
    let a = c.args.self.now in
    let b = c.args.other.now in (
      λ e. absurd (false≢true e),
      λ h. absurd (false≢true (sym c.if-not-same_winner.true ∙ c.same_winner.ensures.1 (holds_at (winner_shown a) (winner_shown b) (length (held a).flags) (length (held b).flags) h c.loop-group.group (let t = c.loop-group-test.true in let n = flags_many a in omega arith)))),
    )

pub loop-group-preserved : goal.loop-group-preserved
loop-group-preserved g c = agrees_next (winner_shown c.args.self.now) (winner_shown c.args.other.now) c.loop-group.group c.loop-group.invariant (c.same_winner.ensures.0 c.if-not-same_winner.false)

pub returns : goal.returns
returns g c =
    let a = c.args.self.now in
    let b = c.args.other.now in (
      λ e. holds_all (winner_shown a) (winner_shown b) (length (held a).flags) (length (held b).flags) (flags_many a ∙ c.if-groups-other.false ∙ sym (flags_many b))
          (λ k h. c.loop-group.invariant k (let t = c.loop-group-test.false in let n = flags_many a in omega arith)),
      λ h. refl,
    )
