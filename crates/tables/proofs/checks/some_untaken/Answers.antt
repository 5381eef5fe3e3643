use Rattle.std.proofs.Common.{sym, ◌∙◌, arith, map, length, ◌≡◌}
use Rattle.std.proofs.lemmas.List.{length-map}
use Rattle.column.specs.Seen.{column_seen}
use Rattle.tables.specs.Refusals.{untaken}
use Rattle.tables.proofs.Walking.{untaken_read, row_here, row_next}
use Rattle.tables.proofs.checks.some_untaken.Goals as goal

pub returns-then-has_untaken : goal.returns-then-has_untaken
returns-then-has_untaken g c =
    let s = g.O.GroupTable.settings c.args.order.now in
    let cs = map column_seen c.args.columns.now in
    let l : length cs ≡ length s.kinds = length-map c.args.columns.now column_seen ∙ c.requires.all in
    let u = c.if-has_untaken.ensures ∙ untaken_read s cs 0 _ (omega arith) c.requires.kinds in
    sym (sym c.loop-row.invariant ∙ row_here (untaken s cs) c.args.rows.now c.loop-row.row-index 0 c.loop-row-test.true (sym u))

pub loop-row-preserved : goal.loop-row-preserved
loop-row-preserved g c =
    let s = g.O.GroupTable.settings c.args.order.now in
    let cs = map column_seen c.args.columns.now in
    let l : length cs ≡ length s.kinds = length-map c.args.columns.now column_seen ∙ c.requires.all in
    let u = c.if-has_untaken.ensures ∙ untaken_read s cs 0 _ (omega arith) c.requires.kinds in
    sym (row_next (untaken s cs) c.args.rows.now c.loop-row.row-index 0 c.loop-row-test.true (sym u)) ∙ c.loop-row.invariant
