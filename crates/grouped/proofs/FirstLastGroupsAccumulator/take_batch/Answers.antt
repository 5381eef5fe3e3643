use Rattle.std.proofs.Common.{refl, arith}
use Rattle.column.specs.Seen.{marks_seen}
use Rattle.keeping.specs.Replies.{no_outputs}
use Rattle.keeping.specs.Seen.{batch_seen}
use Rattle.keeping.proofs.Checking.{exits}
use Rattle.grouped.proofs.Batching.{declines, finishes, passed_takes, passes, seen_refused}
use Rattle.grouped.proofs.Holding.{lawful, obeys_from_held, unchanged}
use Rattle.grouped.proofs.FirstLastGroupsAccumulator.take_batch.Goals as goal

pub returns-in_err-check_batch : goal.returns-in_err-check_batch
returns-in_err-check_batch g c =
    let a = c.args.self.now in
    let b = batch_seen c.args.batch.now in
    let marks = marks_seen c.args.batch.now.filter in
    obeys_from_held a (lawful a g.met.S.ValueState.lawful g.met.O.RowOrder.lawful) _ _ _ _ (unchanged a)
    (declines a b marks no_outputs _ (c.in_err-check_batch.ensures a.kept.pick_first a.kept.ignore_nulls) _ (seen_refused _ _ (exits c.from_residual.result _ _ c.from_residual.ensures.1 refl)))

pub grow-requires : goal.grow-requires
grow-requires g c =
    let a = c.args.self.now in
    let p = passes a (batch_seen c.args.batch.now) (marks_seen c.args.batch.now.filter) (c.in_ok-check_batch.ensures a.kept.pick_first a.kept.ignore_nulls) in
    record { more = p.room; room = p.few }

pub get_filtered_extreme_of_each_group-requires : goal.get_filtered_extreme_of_each_group-requires
get_filtered_extreme_of_each_group-requires g c =
    let a = c.args.self.now in
    let b = batch_seen c.args.batch.now in
    let marks = marks_seen c.args.batch.now.filter in
    let e = c.in_ok-check_batch.ensures a.kept.pick_first a.kept.ignore_nulls in
    let p = passes a b marks e in
    record {
      taken = passed_takes a b marks e c.grow.new.self c.grow.ensures.made;
      within = λ k h. omega (arith, p.below k h, p.few);
      none = c.none-best.ensures;
    }

pub take_winners-requires : goal.take_winners-requires
take_winners-requires g c =
    let a = c.args.self.now in
    let b = batch_seen c.args.batch.now in
    let marks = marks_seen c.args.batch.now.filter in
    let e = c.in_ok-check_batch.ensures a.kept.pick_first a.kept.ignore_nulls in
    record {
      taken = passed_takes a b marks e c.grow.new.self c.grow.ensures.made;
      within = omega (arith, c.grow.ensures.many);
      best = c.get_filtered_extreme_of_each_group.ensures;
    }

pub returns : goal.returns
returns g c =
    let a = c.args.self.now in
    let b = batch_seen c.args.batch.now in
    let marks = marks_seen c.args.batch.now.filter in
    let e = c.in_ok-check_batch.ensures a.kept.pick_first a.kept.ignore_nulls in
    finishes a b marks e c.grow.new.self c.take_winners.new.self c.grow.ensures.made c.take_winners.ensures.made c.grow.ensures.keeps c.take_winners.ensures.keeps no_outputs _ refl
