use Rattle.layout.specs.Written.{parts_seen}
use Rattle.tables.proofs.Declining.{passed}
use Rattle.orders.specs.Numbers.{order_entries, order_settings}
use Rattle.orders.proofs.Laid.{made_laid}
use Rattle.orders.proofs.Putting.{unmeasured, unput, put}
use Rattle.orders.proofs.number.NumberOrderRowOrder.write_key.Goals as goal

pub returns-in_err-check_column : goal.returns-in_err-check_column
returns-in_err-check_column c =
    let o = c.args.self.now in
    unmeasured (order_settings o) (order_entries o) c.args.named c.args.n (parts_seen c.args.out.now) _ _ c.from_residual.ensures.1 c.in_err-check_column.ensures.answer

pub returns-in_err-put_cells : goal.returns-in_err-put_cells
returns-in_err-put_cells c =
    let o = c.args.self.now in
    let k = c.key_column-column in
    let p = passed _ _ _ c.in_ok-check_column.ensures.answer in
    let e = c.in_err-put_cells.ensures in
    unput (order_settings o) (order_entries o) c.args.named c.args.n (parts_seen c.args.out.now) _ _ p (made_laid o c.args.named c.args.n k.result.keys.now k.result.named k.ensures.keys k.ensures.named p) e.left _ _ c.from_residual-in_err-put_cells.ensures.1 e.answered

pub returns : goal.returns
returns c =
    let o = c.args.self.now in
    let k = c.key_column-column in
    let p = passed _ _ _ c.in_ok-check_column.ensures.answer in
    let e = c.in_ok-put_cells.ensures in
    put (order_settings o) (order_entries o) c.args.named c.args.n (parts_seen c.args.out.now) _ _ p (made_laid o c.args.named c.args.n k.result.keys.now k.result.named k.ensures.keys k.ensures.named p) e.left e.answered
