use Rattle.std.proofs.Common.{◌<◌, length, Some, sym, ap, ◌∙◌, arith}
use Rattle.tables.proofs.Declining.{exits, answer_some}
use Rattle.tables.proofs.Walking.{kind_here, kind_next}
use Rattle.tables.proofs.checks.check_kinds.Goals as goal

pub returns-in_err-reads_named : goal.returns-in_err-reads_named
returns-in_err-reads_named g c =
    let ks = (g.O.GroupTable.settings c.args.order.now).kinds in
    let j = c.loop-named.named in
    let h : j < length ks = omega arith in
    let k = kind_here ks c.args.columns.now j _ _ h c.loop-named-test.true c.in_err-reads_named.ensures in
    let t = sym c.loop-named.invariant ∙ k.0 in
    exits _ _ _ _ _ c.from_residual.ensures.1 (answer_some _ _ (tt {0}) (rw t (ap Some k.1)))

pub loop-named-preserved : goal.loop-named-preserved
loop-named-preserved g c =
    let ks = (g.O.GroupTable.settings c.args.order.now).kinds in
    let j = c.loop-named.named in
    let h : j < length ks = omega arith in
    sym (kind_next ks c.args.columns.now j _ h c.loop-named-test.true c.in_ok-reads_named.ensures) ∙ c.loop-named.invariant
