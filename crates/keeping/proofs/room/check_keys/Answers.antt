use Rattle.std.proofs.Common.{sym, ◌∙◌, arith}
use Rattle.layout.specs.Written.{parts_seen}
use Rattle.keeping.proofs.Measuring.{keys_past}
use Rattle.keeping.proofs.room.check_keys.Goals as goal

pub returns-then-columns-gt3 : goal.returns-then-columns-gt3
returns-then-columns-gt3 g c =
    let out = c.args.out.now in
    c.no_buffers.ensures
    ∙ sym (keys_past (g.O.GroupTable.settings c.args.order.now).kinds (g.O.GroupTable.entries c.args.order.now) c.args.n (parts_seen out.first) (parts_seen out.second) (parts_seen out.third) (omega arith)
    (sym c.in_ok-check_key.ensures) (sym c.in_ok-check_key-2.ensures) (sym c.in_ok-check_key-3.ensures))
