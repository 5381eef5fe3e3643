use Rattle.std.proofs.Common.{ap, ◌∙◌}
use Rattle.faults.specs.Reported.{own_of, declined_seen, placed}
use Rattle.faults.specs.declared.Place.TheVariants.{Call}
use Rattle.faults.specs.declared.Refusal.TheVariants.{Own}
use Rattle.faults.proofs.Whole.{placed_own}
use Rattle.keeping.proofs.Checking.{total_is}
use Rattle.keeping.proofs.groups.check_total.Goals as goal

pub returns : goal.returns
returns c = ap declined_seen (placed_own _ _ _ _ c.located.ensures ∙ ap (λ x. placed (λ f. Own (own_of f)) x Call 0) c.check_grow.ensures) ∙ total_is c.args.held c.args.total
