use Rattle.std.proofs.Common.{Some, None, refl}
use Rattle.column.specs.Seen.{marks_seen}
use Rattle.keeping.proofs.Checking.{exits}
use Rattle.keeping.specs.Replies.{no_outputs}
use Rattle.keeping.specs.Seen.{given_seen}
use Rattle.ungrouped.proofs.Batching.{declines, finishes, obeys_from, seen_refused, takes_all}
use Rattle.ungrouped.proofs.single.Single.take_batch.Goals as goal

pub returns-in_err-check_ungrouped : goal.returns-in_err-check_ungrouped
returns-in_err-check_ungrouped g c =
    let s = c.args.self.now in
    obeys_from s _ _ _ _ refl
    (declines s (given_seen c.args.given.now) (marks_seen c.args.flags) no_outputs _ (c.in_err-check_ungrouped.ensures s.keeper.pick_first s.keeper.ignore_nulls) _
    (seen_refused _ _ (exits c.from_residual.result _ _ c.from_residual.ensures.1 refl)))

pub find_row-requires : goal.find_row-requires
find_row-requires g c =
    let s = c.args.self.now in
    takes_all s (given_seen c.args.given.now) (marks_seen c.args.flags) (c.in_ok-check_ungrouped.ensures s.keeper.pick_first s.keeper.ignore_nulls)

pub offer-requires : goal.offer-requires
offer-requires g c =
    let s = c.args.self.now in
    takes_all s (given_seen c.args.given.now) (marks_seen c.args.flags) (c.in_ok-check_ungrouped.ensures s.keeper.pick_first s.keeper.ignore_nulls) c.in-Some.row (c.in-Some.ensures.among c.in-Some.row refl)

pub returns-in-Some : goal.returns-in-Some
returns-in-Some g c =
    let s = c.args.self.now in
    obeys_from s _ _ _ _ c.offer.ensures.made
    (finishes s (given_seen c.args.given.now) (marks_seen c.args.flags) no_outputs (c.in_ok-check_ungrouped.ensures s.keeper.pick_first s.keeper.ignore_nulls) (Some c.in-Some.row)
    c.in-Some.ensures _ c.offer.ensures.holds)

pub returns-in_default : goal.returns-in_default
returns-in_default g c =
    let s = c.args.self.now in
    obeys_from s _ _ _ _ refl
    (finishes s (given_seen c.args.given.now) (marks_seen c.args.flags) no_outputs (c.in_ok-check_ungrouped.ensures s.keeper.pick_first s.keeper.ignore_nulls) None
    c.in_default.ensures s (λ held h. h))
