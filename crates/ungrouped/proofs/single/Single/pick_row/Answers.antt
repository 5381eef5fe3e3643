use Rattle.std.proofs.Common.{None}
use Rattle.keeping.specs.Seen.{given_seen}
use Rattle.ungrouped.specs.Accumulators.{alone}
use Rattle.ungrouped.proofs.Walking.{found_best, found_end}
use Rattle.ungrouped.proofs.single.Single.pick_row.Goals as goal

pub returns-then-self : goal.returns-then-self
returns-then-self g c = λ p t. found_end (alone c.args.self.now) None p (given_seen c.args.given.now) _ _ (c.end_row.ensures p (given_seen c.args.given.now) t) c.if-self.true

pub returns-else-self : goal.returns-else-self
returns-else-self g c = λ p t. found_best (alone c.args.self.now) None p (given_seen c.args.given.now) _ _ (c.top_row.ensures p t) c.if-self.false
