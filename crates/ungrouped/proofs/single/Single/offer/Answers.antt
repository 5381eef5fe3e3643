use Rattle.std.proofs.Common.{Some, sym, ap, ◌∙◌}
use Rattle.column.specs.Seen.{marks_seen}
use Rattle.book.specs.Batches.{row_at}
use Rattle.keeping.specs.Seen.{given_seen}
use Rattle.ungrouped.proofs.Holding.{leaves, replaces_so}
use Rattle.ungrouped.proofs.single.Single.offer.Goals as goal

pub returns-then-is_given_way-clause-holds : goal.returns-then-is_given_way-clause-holds
returns-then-is_given_way-clause-holds g c = λ held h.
    replaces_so c.args.self.now _ (marks_seen c.args.flags) (row_at (given_seen c.args.given.now) c.args.row) held h (sym (c.is_given_way.ensures held h) ∙ c.if-is_given_way.true)
    c.put.ensures.made (c.put.ensures.puts c.requires) (ap Some c.origin.ensures)

pub returns-else-is_given_way-clause-holds : goal.returns-else-is_given_way-clause-holds
returns-else-is_given_way-clause-holds g c = λ held h.
    leaves c.args.self.now (marks_seen c.args.flags) (row_at (given_seen c.args.given.now) c.args.row) held h (sym (c.is_given_way.ensures held h) ∙ c.if-is_given_way.false)
