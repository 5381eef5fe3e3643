use Rattle.std.proofs.Common.{ap, ◌∙◌, arith}
use Rattle.layout.specs.Written.{parts_seen}
use Rattle.column.specs.Checks.{outcome}
use Rattle.tables.proofs.Declining.{done_so}
use Rattle.tables.proofs.Taking.{writing_fits, writing_exit, put_written, taken, all_put}
use Rattle.keeping.proofs.fronts.put_keys.Goals as goal

pub returns-in_err-write_key : goal.returns-in_err-write_key
returns-in_err-write_key g c =
    let s = g.O.GroupTable.settings c.args.order.now in
    let es = g.O.GroupTable.entries c.args.order.now in
    let a = parts_seen c.args.out.now.first in
    let t = taken s es c.args.n a (parts_seen c.args.out.now.second) (parts_seen c.args.out.now.third) c.requires in
    absurd (writing_exit s es c.args.n 0 a _ (omega arith) t.held t.first c.in_err-write_key.ensures.answered)

pub returns-in_err-write_key-2 : goal.returns-in_err-write_key-2
returns-in_err-write_key-2 g c =
    let s = g.O.GroupTable.settings c.args.order.now in
    let es = g.O.GroupTable.entries c.args.order.now in
    let b = parts_seen c.args.out.now.second in
    let t = taken s es c.args.n (parts_seen c.args.out.now.first) b (parts_seen c.args.out.now.third) c.requires in
    absurd (writing_exit s es c.args.n 1 b _ (omega arith) t.held t.second c.in_err-write_key-2.ensures.answered)

pub returns : goal.returns
returns g c =
    let s = g.O.GroupTable.settings c.args.order.now in
    let es = g.O.GroupTable.entries c.args.order.now in
    let a = parts_seen c.args.out.now.first in
    let b = parts_seen c.args.out.now.second in
    let d = parts_seen c.args.out.now.third in
    let w = c.requires in
    let t = taken s es c.args.n a b d w in
    let p = put_written s es c.args.n 0 a _ (omega arith) t.held t.first c.write_key.ensures.left in
    let q = put_written s es c.args.n 1 b _ (omega arith) t.held t.second c.write_key-2.ensures.left in
    let r = put_written s es c.args.n 2 d _ (omega arith) t.held t.third c.write_key-3.ensures.left in
    let x = writing_fits s es c.args.n 2 d (omega arith) t.held t.third in
    record { answer = c.write_key-3.ensures.answered ∙ ap (λ o. outcome o (tt {0})) x; after = done_so _ _ _ _ (all_put s es c.args.n a b d _ _ _ w p q r) w }
