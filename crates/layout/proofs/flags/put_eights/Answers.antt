use Rattle.std.proofs.Common.{◌≡◌, ◌*◌, ◌/◌, map, refl, ap, ◌∙◌, arith}
use Rattle.column.specs.Columns.{count_up}
use Rattle.layout.specs.Layout.{packed, known, holds, over}
use Rattle.layout.proofs.Eights.{eight_put, last_put}
use Rattle.layout.proofs.flags.put_eights.Goals as goal

pub loop-j-init : goal.loop-j-init
unfolding packed
loop-j-init g c = record { validity = refl; bits = refl }

pub loop-j-preserved : goal.loop-j-preserved
loop-j-preserved g c =
    let shows = g.F.FlagSource.shows c.args.flags.now in
    let j = c.loop-j.j in
    let v = c.loop-j.invariant in record {
      validity = eight_put known shows j c.known_byte.result c.loop-j.validity c.args.validity.now (c.known_byte.ensures (omega arith)) (omega (arith, c.requires.validity)) v.validity;
      bits = eight_put holds shows j c.holds_byte.result c.loop-j.bits c.args.bits.now (c.holds_byte.ensures (omega arith)) (omega (arith, c.requires.bits)) v.bits;
    }

pub returns-then-last-gt0-clause-validity : goal.returns-then-last-gt0-clause-validity
returns-then-last-gt0-clause-validity g c =
    let shows = g.F.FlagSource.shows c.args.flags.now in
    let rows = c.args.rows in
    let before = c.args.validity.now in
    let j : c.loop-j.j ≡ rows / 8 = omega arith in
    let o = c.loop-j.invariant.validity ∙ ap (λ n. over (packed (map known (map shows (count_up 0 (8 * n))))) before) j in
    last_put known shows rows c.known_byte-then-last-gt0.result c.loop-j.validity before (c.known_byte-then-last-gt0.ensures (omega arith)) c.if-last-gt0.true (omega (arith, c.requires.validity)) o

pub returns-then-last-gt0-clause-bits : goal.returns-then-last-gt0-clause-bits
returns-then-last-gt0-clause-bits g c =
    let shows = g.F.FlagSource.shows c.args.flags.now in
    let rows = c.args.rows in
    let before = c.args.bits.now in
    let j : c.loop-j.j ≡ rows / 8 = omega arith in
    let o = c.loop-j.invariant.bits ∙ ap (λ n. over (packed (map holds (map shows (count_up 0 (8 * n))))) before) j in
    last_put holds shows rows c.holds_byte-then-last-gt0.result c.loop-j.bits before (c.holds_byte-then-last-gt0.ensures (omega arith)) c.if-last-gt0.true (omega (arith, c.requires.bits)) o
