use Rattle.std.proofs.Common.{◌||◌, leb, get_or, sym, ap, ◌∙◌, arith}
use Rattle.std.proofs.lemmas.List.Folds.{list_any_more}
use Rattle.keeping.proofs.groups.some_past.Goals as goal

pub loop-row-preserved : goal.loop-row-preserved
loop-row-preserved c = ap (λ b. b || leb c.args.total (get_or c.args.indices.now c.loop-row.row 0)) c.loop-row.invariant
    ∙ sym (list_any_more (leb c.args.total) c.args.indices.now c.loop-row.row 0 (omega arith))
