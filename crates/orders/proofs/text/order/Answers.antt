use Rattle.std.proofs.Common.{ap₂, ◌∙◌, nat_cmp, arith}
use Rattle.std.specs.Cmp.Lexicographic.{slice_cmp}
use Rattle.orders.proofs.Words.{order_apart, order_alike}
use Rattle.orders.proofs.text.order.Goals as goal

pub returns-then-ne : goal.returns-then-ne
returns-then-ne c =
    let a = c.as_octets-a in
    let b = c.as_octets-b in
    let p = c.in-Some-Some.ensures.cases in
    let q = c.in-Some-Some.ensures'.cases in
    let l = p.2 in
    let m = q.2 in
    order_apart a.result.now b.result.now _ _ _ _ _ (omega arith) (omega arith) a.ensures.bytes b.ensures.bytes p.0 q.0 c.from_be_bytes.ensures c.from_be_bytes-in-Some-Some.ensures c.cmp-here.ensures _ c.ne.ensures c.if-ne.true
    ∙ ap₂ (slice_cmp nat_cmp) a.ensures.same b.ensures.same

pub returns-else-ne : goal.returns-else-ne
returns-else-ne c =
    let a = c.as_octets-a in
    let b = c.as_octets-b in
    let p = c.in-Some-Some.ensures.cases in
    let q = c.in-Some-Some.ensures'.cases in
    let l = p.2 in
    let m = q.2 in
    c.cmp.ensures
    ∙ ap₂ (slice_cmp nat_cmp) p.1 q.1
    ∙ order_alike a.result.now b.result.now _ _ _ _ _ (omega arith) (omega arith) a.ensures.bytes b.ensures.bytes p.0 q.0 c.from_be_bytes.ensures c.from_be_bytes-in-Some-Some.ensures c.cmp-here.ensures _ c.ne.ensures c.if-ne.false
    ∙ ap₂ (slice_cmp nat_cmp) a.ensures.same b.ensures.same
