use Rattle.std.proofs.Common.{sym, ◌∙◌, arith}
use Rattle.book.specs.Batches.{row_at}
use Rattle.book.specs.Winners.{winners}
use Rattle.keeping.specs.Seen.{given_seen}
use Rattle.grouped.specs.Accumulators.{held, making}
use Rattle.grouped.proofs.Holding.{lawful, winners_many}
use Rattle.grouped.proofs.Showing.{left_shows}
use Rattle.grouped.proofs.Gaining.{taken_keeps}
use Rattle.grouped.proofs.FirstLastGroupsAccumulator.take_winner.Goals as goal

pub returns-then-outranks_held-clause-gains : goal.returns-then-outranks_held-clause-gains
returns-then-outranks_held-clause-gains g c = λ rows w.
    let a = c.args.self.now in
    taken_keeps a c.put.new.self c.set.new.self c.put.ensures.made (lawful a g.met.S.ValueState.lawful g.met.O.RowOrder.lawful) c.args.group (row_at (given_seen c.args.given.now) c.args.row) rows w c.requires.within
    (sym c.outranks_held.ensures ∙ c.if-outranks_held.true) (c.put.ensures.puts c.requires.taken) c.set.ensures.flags

pub returns-else-outranks_held-clause-gains : goal.returns-else-outranks_held-clause-gains
returns-else-outranks_held-clause-gains g c = λ rows w b h.
    let a = c.args.self.now in
    left_shows (making a) (lawful a g.met.S.ValueState.lawful g.met.O.RowOrder.lawful) (held a) b h c.args.group rows (row_at (given_seen c.args.given.now) c.args.row) w
    (let n = winners_many a (winners (making a) b) h in omega (arith, n, c.requires.within)) (sym c.outranks_held.ensures ∙ c.if-outranks_held.false)
