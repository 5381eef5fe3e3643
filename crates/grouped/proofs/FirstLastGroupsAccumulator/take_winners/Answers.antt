use Rattle.std.proofs.Common.{◌≡◌, length, sym, subst, arith}
use Rattle.column.specs.Seen.{marks_seen}
use Rattle.keeping.specs.Seen.{batch_seen}
use Rattle.grouped.specs.Accumulators.{making}
use Rattle.grouped.specs.Walk.{Best, row_of, GotBelow}
use Rattle.grouped.proofs.Gaining.{made_keeper, takes_on, took_none, took_more}
use Rattle.grouped.proofs.FirstLastGroupsAccumulator.take_winners.Goals as goal

pub loop-g-init : goal.loop-g-init
loop-g-init g c = took_none c.args.self.now (batch_seen c.args.batch.now) (marks_seen c.args.batch.now.filter)

pub take_group-requires : goal.take_group-requires
take_group-requires g c =
    let a = c.args.self.now in
    let u = c.loop-g.self in
    let b = c.args.batch.now in
    let t = c.loop-g.invariant in
    record {
      taken = λ r h. takes_on a.kept u.kept (batch_seen b).columns r t.same (c.requires.taken r h);
      within = (let l = c.loop-g-test.true in let n = t.many in omega (arith, l, n, c.requires.within));
      best = subst (λ m. Best m (batch_seen b) (marks_seen b.filter) c.loop-g.g (length b.indices.now) (row_of c.args.best.now c.loop-g.g)) (sym (made_keeper a.kept u.kept t.same)) (c.requires.best c.loop-g.g);
    }

pub loop-g-preserved : goal.loop-g-preserved
loop-g-preserved g c =
    took_more c.args.self.now c.loop-g.self c.take_group.new.self (batch_seen c.args.batch.now) (marks_seen c.args.batch.now.filter) c.loop-g.g
    (let l = c.loop-g-test.true in omega (arith, l, c.requires.within)) c.loop-g.invariant c.take_group.ensures.made c.take_group.ensures.many c.take_group.ensures.gains

pub returns-clause-keeps : goal.returns-clause-keeps
returns-clause-keeps g c = λ before after h got.
    let b = c.args.batch.now in
    let e : b.total ≡ c.loop-g.g = (let l = c.loop-g-test.false in omega (arith, l)) in
    c.loop-g.invariant.keeps before after h (subst (λ n. GotBelow (making c.args.self.now) (batch_seen b) (marks_seen b.filter) n before after) e got)
