use Rattle.std.proofs.Common.{ap, ◌∙◌}
use Rattle.faults.proofs.Whole.{placed_own}
use Rattle.faults.specs.Reported.{declined_seen, own_of, placed}
use Rattle.faults.specs.declared.Place.TheVariants.{Call}
use Rattle.faults.specs.declared.Refusal.TheVariants.{Own}
use Rattle.keeping.proofs.Measuring.{fewer_is}
use Rattle.keeping.proofs.fronts.check_held.Goals as goal

pub returns : goal.returns
returns c =
    ap declined_seen (placed_own _ _ _ _ c.located.ensures ∙ ap (λ x. placed (λ f. Own (own_of f)) x Call 0) c.check_drop.ensures)
    ∙ fewer_is c.args.held c.args.n
