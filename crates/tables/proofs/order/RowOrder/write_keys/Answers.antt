use Rattle.std.proofs.Common.{sym, ap, ◌∙◌, arith}
use Rattle.layout.specs.Written.{parts_seen}
use Rattle.column.specs.Checks.{outcome}
use Rattle.tables.proofs.Declining.{passed}
use Rattle.tables.proofs.Taking.{writing_fits, writing_exit, put_written, taken, all_put}
use Rattle.tables.proofs.order.RowOrder.write_keys.Goals as goal

pub returns-in_err-write_key : goal.returns-in_err-write_key
returns-in_err-write_key g c =
    let s = g.Self.GroupTable.settings c.args.self.now in
    let es = g.Self.GroupTable.entries c.args.self.now in
    let a = parts_seen c.args.out.now.first in
    let b = parts_seen c.args.out.now.second in
    let d = parts_seen c.args.out.now.third in
    let w = passed _ _ _ c.in_ok-keys_fit.ensures in
    let t = taken s es c.args.n a b d w in
    absurd (writing_exit s es c.args.n 0 a _ (omega arith) t.held t.first c.in_err-write_key.ensures.answered)

pub returns-in_err-write_key-2 : goal.returns-in_err-write_key-2
returns-in_err-write_key-2 g c =
    let s = g.Self.GroupTable.settings c.args.self.now in
    let es = g.Self.GroupTable.entries c.args.self.now in
    let a = parts_seen c.args.out.now.first in
    let b = parts_seen c.args.out.now.second in
    let d = parts_seen c.args.out.now.third in
    let w = passed _ _ _ c.in_ok-keys_fit.ensures in
    let t = taken s es c.args.n a b d w in
    absurd (writing_exit s es c.args.n 1 b _ (omega arith) t.held t.second c.in_err-write_key-2.ensures.answered)

pub returns : goal.returns
returns g c =
    let s = g.Self.GroupTable.settings c.args.self.now in
    let es = g.Self.GroupTable.entries c.args.self.now in
    let a = parts_seen c.args.out.now.first in
    let b = parts_seen c.args.out.now.second in
    let d = parts_seen c.args.out.now.third in
    let w = passed _ _ _ c.in_ok-keys_fit.ensures in
    let t = taken s es c.args.n a b d w in
    let p = put_written s es c.args.n 0 a _ (omega arith) t.held t.first c.write_key.ensures.left in
    let q = put_written s es c.args.n 1 b _ (omega arith) t.held t.second c.write_key-2.ensures.left in
    let r = put_written s es c.args.n 2 d _ (omega arith) t.held t.third c.write_key-3.ensures.left in
    let x = writing_fits s es c.args.n 2 d (omega arith) t.held t.third in
    record { answered = c.write_key-3.ensures.answered ∙ ap (λ o. outcome o (tt {0})) (x ∙ sym w); left = all_put s es c.args.n a b d _ _ _ w p q r }
