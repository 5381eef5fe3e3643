use Rattle.std.proofs.Common.{ap, ◌∙◌}
use Rattle.layout.specs.Layout.{written}
use Rattle.layout.specs.Written.{parts_seen}
use Rattle.tables.specs.Refusals.{cells_laid}
use Rattle.faults.proofs.Whole.{placed_whole}
use Rattle.faults.specs.Reported.{declined_seen, placed}
use Rattle.faults.specs.declared.Place.TheVariants.{Values}
use Rattle.faults.specs.declared.Refusal.TheVariants.{State}
use Rattle.keeping.proofs.Measuring.{values_answer, values_left}
use Rattle.keeping.proofs.fronts.put_values.Goals as goal

pub returns : goal.returns
returns g c =
    let s = g.S.GroupTable.settings c.args.state.now in
    let es = g.S.GroupTable.entries c.args.state.now in
    let before = parts_seen c.args.out.now in
    record {
      answer = ap declined_seen (placed_whole State _ _ _ _ c.located.ensures ∙ ap (λ x. placed State x Values 0) c.write.ensures.answered) ∙ values_answer s es c.args.n before c.requires;
      after = c.write.ensures.left ∙ values_left s es c.args.n before (written (cells_laid s es c.args.n) before) c.requires;
    }
