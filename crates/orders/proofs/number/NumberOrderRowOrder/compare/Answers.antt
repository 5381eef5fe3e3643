use Rattle.std.proofs.Common.{map, ap, ◌∙◌}
use Rattle.column.specs.Cells.{numbers}
use Rattle.column.specs.Seen.{column_seen}
use Rattle.tables.specs.Reading.{key_read}
use Rattle.tables.specs.Refusals.{verdict}
use Rattle.tables.specs.Delivered.{number_order}
use Rattle.orders.proofs.Numbers.{past_last, decided, tied, row_number, verdict_from}
use Rattle.orders.proofs.number.NumberOrderRowOrder.compare.Goals as goal

pub loop-j-preserved : goal.loop-j-preserved
loop-j-preserved c =
    let ss = c.as_slice-sorts.result.now in
    let cs = map column_seen c.args.columns.now in
    let j = c.loop-j.j in
    let h = c.if-j-sorts.false in
    let p = c.number_in.ensures ∙ row_number ss cs j c.args.a h in
    let q = c.number_in-in-loop-j.ensures ∙ row_number ss cs j c.args.b h in
    tied ss j _ _ _ _ _ _ h p q c.compare-here.ensures _ c.ne.ensures c.if-ne.false ∙ c.loop-j.invariant

pub returns-then-j-sorts : goal.returns-then-j-sorts
returns-then-j-sorts c =
    let ss = c.as_slice-sorts.result.now in
    let cs = map column_seen c.args.columns.now in
    past_last ss c.loop-j.j _ _ c.if-j-sorts.true
    ∙ c.loop-j.invariant
    ∙ verdict_from ss _ _
    ∙ ap (λ ts. verdict (number_order ts) (key_read (map (λ s. numbers) ts) cs c.args.a) (key_read (map (λ s. numbers) ts) cs c.args.b)) c.as_slice-sorts.ensures

pub returns-then-ne : goal.returns-then-ne
returns-then-ne c =
    let ss = c.as_slice-sorts.result.now in
    let cs = map column_seen c.args.columns.now in
    let j = c.loop-j.j in
    let h = c.if-j-sorts.false in
    let p = c.number_in.ensures ∙ row_number ss cs j c.args.a h in
    let q = c.number_in-in-loop-j.ensures ∙ row_number ss cs j c.args.b h in
    decided ss j _ _ _ _ _ _ h p q c.compare-here.ensures _ c.ne.ensures c.if-ne.true
    ∙ c.loop-j.invariant
    ∙ verdict_from ss _ _
    ∙ ap (λ ts. verdict (number_order ts) (key_read (map (λ s. numbers) ts) cs c.args.a) (key_read (map (λ s. numbers) ts) cs c.args.b)) c.as_slice-sorts.ensures
