use Rattle.std.proofs.Common.{sym, ap, ◌∙◌, arith}
use Rattle.std.proofs.lemmas.List.{length-map}
use Rattle.tables.specs.Refusals.{dropping}
use Rattle.tables.proofs.Declining.{passed, declined, answer_none, answer_some, exits}
use Rattle.tables.proofs.Passing.{measuring_past, measuring_fewer, measuring_fine}
use Rattle.orders.specs.Numbers.{order_entries, order_settings}
use Rattle.orders.proofs.Numbers.{kinds_long}
use Rattle.orders.proofs.number.NumberOrder.check_column.Goals as goal

pub returns-then-named-self-clause-answer : goal.returns-then-named-self-clause-answer
returns-then-named-self-clause-answer c =
    let o = c.args.self.now in
    let l = kinds_long o.sorts.table o.sorts.count (omega arith) in
    answer_some _ _ _ (measuring_past (order_settings o) (order_entries o) c.args.named c.args.n (omega arith))

pub returns-in_err-check_drop-clause-answer : goal.returns-in_err-check_drop-clause-answer
returns-in_err-check_drop-clause-answer c =
    let o = c.args.self.now in
    let l = kinds_long o.sorts.table o.sorts.count (omega arith) in
    let e = ap (λ k. dropping k c.args.n) (length-map o.keys _ ∙ sym c.len-held.ensures.held) ∙ declined _ _ _ c.in_err-check_drop.ensures in
    exits _ _ _ _ _ c.from_residual.ensures.1 (answer_some _ _ (tt {0}) (measuring_fewer (order_settings o) (order_entries o) c.args.named c.args.n (omega arith) e))

pub returns-clause-answer : goal.returns-clause-answer
returns-clause-answer c =
    let o = c.args.self.now in
    let l = kinds_long o.sorts.table o.sorts.count (omega arith) in
    let e = ap (λ k. dropping k c.args.n) (length-map o.keys _ ∙ sym c.len-held.ensures.held) ∙ passed _ _ _ c.in_ok-check_drop.ensures in
    answer_none _ _ (measuring_fine (order_settings o) (order_entries o) c.args.named c.args.n (omega arith) e)
