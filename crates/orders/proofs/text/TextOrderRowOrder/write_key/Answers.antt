use Rattle.layout.specs.Written.{parts_seen}
use Rattle.tables.proofs.Declining.{passed}
use Rattle.orders.specs.Texts.{order_entries, order_settings}
use Rattle.orders.proofs.Laid.{text_within, texts_laid}
use Rattle.orders.proofs.Putting.{unmeasured, unput, put}
use Rattle.orders.proofs.text.TextOrderRowOrder.write_key.Goals as goal

pub returns-in_err-check_column : goal.returns-in_err-check_column
returns-in_err-check_column c =
    let o = c.args.self.now in
    unmeasured (order_settings o) (order_entries o) c.args.named c.args.n (parts_seen c.args.out.now) _ _ c.from_residual.ensures.1 c.in_err-check_column.ensures

pub returns-in_err-put : goal.returns-in_err-put
returns-in_err-put c =
    let o = c.args.self.now in
    let p = passed _ _ _ c.in_ok-check_column.ensures in
    let e = c.in_err-put.ensures (text_within o c.args.named c.args.n p).1 in
    unput (order_settings o) (order_entries o) c.args.named c.args.n (parts_seen c.args.out.now) _ _ p (texts_laid o c.args.named c.args.n p) e.left _ _ c.from_residual-in_err-put.ensures.1 e.answered

pub returns : goal.returns
returns c =
    let o = c.args.self.now in
    let p = passed _ _ _ c.in_ok-check_column.ensures in
    let e = c.in_ok-put.ensures (text_within o c.args.named c.args.n p).1 in
    put (order_settings o) (order_entries o) c.args.named c.args.n (parts_seen c.args.out.now) _ _ p (texts_laid o c.args.named c.args.n p) e.left e.answered
