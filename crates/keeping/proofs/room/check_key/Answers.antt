use Rattle.std.proofs.Common.{ap, ◌∙◌, arith}
use Rattle.faults.specs.Reported.{declined_seen, placed}
use Rattle.faults.specs.declared.Refusal.TheVariants.{Order}
use Rattle.faults.proofs.Whole.{placed_whole}
use Rattle.layout.specs.Written.{parts_seen}
use Rattle.keeping.proofs.Measuring.{key_answer}
use Rattle.keeping.proofs.room.check_key.Goals as goal

pub returns : goal.returns
returns g c =
    ap declined_seen (placed_whole Order _ _ _ _ c.located.ensures ∙ ap (λ x. placed Order x c.of_key.result 0) c.key_fits.ensures)
    ∙ key_answer (g.O.GroupTable.settings c.args.order.now) (g.O.GroupTable.entries c.args.order.now) c.args.j c.args.n (parts_seen c.args.out.now) c.of_key.result c.of_key.ensures (omega arith) c.requires
