use Rattle.std.proofs.Common.{Ok, is_some, ap, ◌∙◌, arith}
use Rattle.layout.specs.Written.{space_of}
use Rattle.tables.proofs.Declining.{passed, answer_none}
use Rattle.tables.proofs.Short.{numbers_measured}
use Rattle.orders.proofs.Laid.{number_of, order_within, made_laid}
use Rattle.orders.proofs.number.NumberOrderRowOrder.key_space.Goals as goal

pub unwrap-requires : goal.unwrap-requires
unwrap-requires c =
    let k = c.key_column-column.result in
    let w = (order_within c.args.self.now c.args.named c.args.n (passed _ _ _ c.in_ok-check_column.ensures.answer)).1 in
    let h = c.check_column.ensures.few in
    ap is_some (c.of_cells.ensures ∙ numbers_measured (λ r. number_of k.keys.now k.named r) c.args.n (omega arith))

pub returns : goal.returns
returns c =
    let o = c.args.self.now in
    let k = c.key_column-column.result in
    let p = passed _ _ _ c.in_ok-check_column.ensures.answer in
    let w = (order_within o c.args.named c.args.n p).1 in
    let h = c.check_column.ensures.few in
    let m = c.of_cells.ensures ∙ numbers_measured (λ r. number_of k.keys.now k.named r) c.args.n (omega arith) in
    let l = ap space_of (made_laid o c.args.named c.args.n k.keys.now k.named c.key_column-column.ensures.keys c.key_column-column.ensures.named p) in
    let u = c.unwrap.ensures in
    ap Ok (cc) ∙ answer_none _ _ p
