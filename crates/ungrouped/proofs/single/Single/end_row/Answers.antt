use Rattle.ungrouped.specs.Accumulators.{alone}
use Rattle.ungrouped.proofs.Walking.{first_found, last_found}
use Rattle.ungrouped.proofs.single.Single.end_row.Goals as goal

pub returns-then-self : goal.returns-then-self
returns-then-self g c = λ p given t. first_found (alone c.args.self.now).making p given c.args.rows _ c.if-self.true (c.first_row.ensures.found p t)

pub returns-else-self : goal.returns-else-self
returns-else-self g c = λ p given t. last_found (alone c.args.self.now).making p given c.args.rows _ c.if-self.false (c.last_row.ensures p t)
