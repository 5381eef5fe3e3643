use Rattle.std.proofs.Common.{refl, true, false, not, ◌&&◌, ◌≡◌, ap, ◌∙◌}
use Rattle.ungrouped.specs.Accumulators.{alone}
use Rattle.ungrouped.proofs.Holding.{outdone_beaten, outdone_tie}
use Rattle.ungrouped.proofs.single.Single.is_outdone.Goals as goal
use Rattle.ungrouped.proofs.single.Single.is_outdone.Goals.{else-ties-via-then-ties+else-not-self, else-ties-via-else-ties}

pub returns-then-not-self : goal.returns-then-not-self
returns-then-not-self g c = λ new old h.
    let m = (alone c.args.self.now).making in
    let e : c.args.ties && not m.first ≡ true = rw c.if-ties.true (ap not c.if-not-self.true) in
    c.is_le.ensures ∙ outdone_tie m c.args.ties new old c.args.verdict h e

pub returns-else-ties : goal.returns-else-ties
returns-else-ties g c = λ new old h.
    let m = (alone c.args.self.now).making in
    let e : c.args.ties && not m.first ≡ false =
    elim c.else-ties.branch [
      | else-ties-via-then-ties+else-not-self w ↦ rw w.if-ties.true (ap not w.if-not-self.false)
      | else-ties-via-else-ties w ↦ rw w.if-ties.false refl
    ] in
    c.is_lt.ensures ∙ outdone_beaten m c.args.ties new old c.args.verdict h e
