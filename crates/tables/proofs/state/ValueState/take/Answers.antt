use Rattle.layout.specs.Written.{parts_seen}
use Rattle.tables.proofs.Declining.{passed, written_dropped, both_fine, both_new}
use Rattle.tables.proofs.state.ValueState.take.Goals as goal

pub returns : goal.returns
returns g c =
    let w = passed _ _ _ c.in_ok-write.ensures.answered in
    let d = written_dropped (g.Self.GroupTable.settings c.args.self.now) (g.Self.GroupTable.entries c.args.self.now) c.args.n (parts_seen c.args.out.now) w in
    record {
      output = record { answered = both_fine _ _ _ _ d w c.drop_first.ensures.answer; left = c.write.ensures.left };
      after = both_new _ _ _ _ _ d w c.drop_first.ensures.after;
      kept = c.drop_first.ensures.kept;
    }
