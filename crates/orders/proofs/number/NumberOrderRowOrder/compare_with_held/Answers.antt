use Rattle.std.proofs.Common.{map, length, sym, ap, ap₂, ◌∙◌, arith}
use Rattle.std.proofs.lemmas.List.{length-map, length-take-le}
use Rattle.column.specs.Cells.{numbers}
use Rattle.column.specs.Seen.{column_seen}
use Rattle.tables.specs.Delivered.{number_order}
use Rattle.tables.specs.Reading.{key_read}
use Rattle.tables.specs.Refusals.{verdict}
use Rattle.orders.specs.Numbers.{key_cells}
use Rattle.orders.proofs.Asking.{held_within, held_key}
use Rattle.orders.proofs.Numbers.{past_last, decided, tied, row_number, held_number, verdict_from}
use Rattle.orders.proofs.number.NumberOrderRowOrder.compare_with_held.Goals as goal

pub loop-j-preserved : goal.loop-j-preserved
loop-j-preserved c =
    let ss = c.as_slice-sorts.result.now in
    let h = c.if-j-sorts.false in
    let p = c.number_in.ensures ∙ row_number ss (map column_seen c.args.columns.now) c.loop-j.j c.args.row h in
    let q = held_number c.in-Some.held.now (length ss) c.loop-j.j h in
    tied ss c.loop-j.j _ _ _ _ _ _ h p q c.compare-here.ensures _ c.ne.ensures c.if-ne.false ∙ c.loop-j.invariant

pub returns-then-j-sorts-clause-held : goal.returns-then-j-sorts-clause-held
returns-then-j-sorts-clause-held c g =
    let o = c.args.self.now in
    let s = o.sorts in
    let ss = c.as_slice-sorts.result.now in
    let l = ap length c.as_slice-sorts.ensures ∙ length-take-le s.count s.table (omega arith) in
    past_last ss c.loop-j.j _ _ c.if-j-sorts.true
    ∙ c.loop-j.invariant
    ∙ verdict_from ss _ _
    ∙ ap₂ (λ ts b. verdict (number_order ts) (key_read (map (λ s. numbers) ts) (map column_seen c.args.columns.now) c.args.row) b) c.as_slice-sorts.ensures
    (ap (λ n. key_cells n c.in-Some.held.now) l ∙ sym (held_key (key_cells s.count) o.keys c.args.group_idx c.in-Some.held.now c.in-Some.ensures))

pub returns-then-ne-clause-held : goal.returns-then-ne-clause-held
returns-then-ne-clause-held c g =
    let o = c.args.self.now in
    let s = o.sorts in
    let ss = c.as_slice-sorts.result.now in
    let l = ap length c.as_slice-sorts.ensures ∙ length-take-le s.count s.table (omega arith) in
    let h = c.if-j-sorts.false in
    let p = c.number_in.ensures ∙ row_number ss (map column_seen c.args.columns.now) c.loop-j.j c.args.row h in
    let q = held_number c.in-Some.held.now (length ss) c.loop-j.j h in
    decided ss c.loop-j.j _ _ _ _ _ _ h p q c.compare-here.ensures _ c.ne.ensures c.if-ne.true
    ∙ c.loop-j.invariant
    ∙ verdict_from ss _ _
    ∙ ap₂ (λ ts b. verdict (number_order ts) (key_read (map (λ s. numbers) ts) (map column_seen c.args.columns.now) c.args.row) b) c.as_slice-sorts.ensures
    (ap (λ n. key_cells n c.in-Some.held.now) l ∙ sym (held_key (key_cells s.count) o.keys c.args.group_idx c.in-Some.held.now c.in-Some.ensures))

pub returns-then-ne-clause-missing : goal.returns-then-ne-clause-missing
returns-then-ne-clause-missing c g =
    let o = c.args.self.now in
    let m = length-map o.keys (key_cells o.sorts.count) in
    let w = held_within (key_cells o.sorts.count) o.keys c.args.group_idx c.in-Some.held.now c.in-Some.ensures in
    absurd (omega arith)
