use Rattle.std.proofs.Common.{◌∙◌}
use Rattle.orders.proofs.Texts.{verdict_texts}
use Rattle.orders.proofs.text.TextOrderRowOrder.compare.Goals as goal

pub returns : goal.returns
returns c = c.compare_texts.ensures ∙ verdict_texts c.args.self.now.sort _ _ _ _ c.text_in.ensures c.text_in-2.ensures
