use Rattle.std.proofs.Common.{sym, ap, ◌∙◌, arith}
use Rattle.std.proofs.lemmas.List.{length-map}
use Rattle.tables.specs.Refusals.{dropping}
use Rattle.tables.proofs.Declining.{passed, declined, answer_none, answer_some, exits}
use Rattle.tables.proofs.Passing.{measuring_past, measuring_fewer, measuring_fine}
use Rattle.orders.specs.Texts.{order_entries, order_settings}
use Rattle.orders.proofs.text.TextOrder.check_column.Goals as goal

pub returns-then-named-ge1 : goal.returns-then-named-ge1
returns-then-named-ge1 c = answer_some _ _ _ (measuring_past (order_settings c.args.self.now) (order_entries c.args.self.now) c.args.named c.args.n c.if-named-ge1.true)

pub returns-in_err-check_drop : goal.returns-in_err-check_drop
returns-in_err-check_drop c =
    let o = c.args.self.now in
    let e = ap (λ k. dropping k c.args.n) (length-map o.keys _ ∙ sym c.len.ensures.held) ∙ declined _ _ _ c.in_err-check_drop.ensures in
    exits _ _ _ _ _ c.from_residual.ensures.1 (answer_some _ _ (tt {0}) (measuring_fewer (order_settings o) (order_entries o) c.args.named c.args.n (omega arith) e))

pub returns : goal.returns
returns c =
    let o = c.args.self.now in
    let e = ap (λ k. dropping k c.args.n) (length-map o.keys _ ∙ sym c.len.ensures.held) ∙ passed _ _ _ c.in_ok-check_drop.ensures in
    answer_none _ _ (measuring_fine (order_settings o) (order_entries o) c.args.named c.args.n (omega arith) e)
