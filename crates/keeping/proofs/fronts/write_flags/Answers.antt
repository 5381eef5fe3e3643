use Rattle.std.proofs.Common.{not, ap, ◌∙◌}
use Rattle.column.specs.Faults.{SPACE, fault, in_accumulator}
use Rattle.layout.specs.Layout.{fits_flags, written_flags}
use Rattle.layout.specs.Written.{flag_parts_seen, flags_laid}
use Rattle.layout.specs.declared.OutputFault.TheVariants as output
use Rattle.faults.proofs.Whole.{placed_whole}
use Rattle.faults.specs.Reported.{declined_seen, placed}
use Rattle.faults.specs.declared.OwnFault.TheVariants as own
use Rattle.faults.specs.declared.Place.TheVariants.{Marks}
use Rattle.faults.specs.declared.Refusal.TheVariants.{Own}
use Rattle.keeping.proofs.Checking.{refused}
use Rattle.keeping.proofs.Measuring.{left_by_room}
use Rattle.keeping.proofs.fronts.write_flags.Goals as goal

pub returns : goal.returns
returns g c =
    let laid = flags_laid (g.F.FlagSource.shows c.args.flags.now) c.args.rows in
    let before = flag_parts_seen c.args.out.now in
    record {
      answer =
          ap declined_seen (placed_whole (λ f. Own own.Space) _ _ _ _ c.located.ensures ∙ ap (λ x. placed (λ f. Own own.Space) x Marks 0) c.put_flags.ensures.answer)
          ∙ refused (λ f. Own own.Space) (not (fits_flags laid before)) output.Space Marks 0;
      after = c.put_flags.ensures.after ∙ left_by_room (fits_flags laid before) (fault SPACE in_accumulator 4 0) (written_flags laid before) before;
    }
