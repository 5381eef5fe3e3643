use Rattle.std.proofs.Common.{rules}
use Rattle.keeping.specs.Seen.{given_seen}
use Rattle.ungrouped.proofs.single.Single.top_row.Goals as goal

pub returns-in-Some : goal.returns-in-Some
returns-in-Some g c = λ p t.
    c.best_row.ensures p (given_seen c.args.given.now) t (λ a b o h k q. let l = c.in-Some.ensures in let x = c.requires.taken a h in let y = c.requires.taken b k in search rules)

pub returns-in-None : goal.returns-in-None
returns-in-None g c = λ p t.
    c.best_row-in-None.ensures p (given_seen c.args.given.now) t (λ a b o h k q. let x = c.requires.taken a h in let y = c.requires.taken b k in search rules)
