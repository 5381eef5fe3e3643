use Rattle.std.proofs.Common.{ap, ◌∙◌}
use Rattle.faults.specs.Reported.{declined_seen, placed}
use Rattle.faults.specs.declared.Place.TheVariants.{Values}
use Rattle.faults.specs.declared.Refusal.TheVariants.{State}
use Rattle.faults.proofs.Whole.{placed_whole}
use Rattle.layout.specs.Written.{parts_seen}
use Rattle.keeping.proofs.Measuring.{values_answer}
use Rattle.keeping.proofs.room.check_values.Goals as goal

pub returns : goal.returns
returns g c =
    ap declined_seen (placed_whole State _ _ _ _ c.located.ensures ∙ ap (λ x. placed State x Values 0) c.fits.ensures)
    ∙ values_answer (g.S.GroupTable.settings c.args.state.now) (g.S.GroupTable.entries c.args.state.now) c.args.n (parts_seen c.args.out.now) c.requires
