use Rattle.tables.proofs.Fronts.{held_dropped}
use Rattle.orders.specs.Texts.{text_key}
use Rattle.orders.proofs.text.TextOrderGroupTable.drop_first.Goals as goal

pub returns-clause-after : goal.returns-clause-after
returns-clause-after c = held_dropped text_key c.args.self.now.keys c.drop_first.new.self c.args.n c.drop_first.ensures.after
