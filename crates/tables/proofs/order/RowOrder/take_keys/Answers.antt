use Rattle.layout.specs.Written.{keys_seen}
use Rattle.tables.proofs.Declining.{passed, both_fine, both_new}
use Rattle.tables.proofs.Taking.{taking_within}
use Rattle.tables.proofs.order.RowOrder.take_keys.Goals as goal

pub returns : goal.returns
returns g c =
    let w = passed _ _ _ c.in_ok-write_keys.ensures.answered in
    let d = (taking_within (g.Self.GroupTable.settings c.args.self.now) (g.Self.GroupTable.entries c.args.self.now) c.args.n (keys_seen c.args.out.now) w).0 in
    record {
      output = record { answered = both_fine _ _ _ _ d w c.drop_first.ensures.answer; left = c.write_keys.ensures.left };
      after = both_new _ _ _ _ _ d w c.drop_first.ensures.after;
      kept = c.drop_first.ensures.kept;
    }
