use Rattle.std.proofs.Common.{sym, ◌∙◌, arith}
use Rattle.keeping.proofs.Checking.{exits}
use Rattle.keeping.proofs.Walking.{column_done, column_here, column_next, keys_seen}
use Rattle.keeping.proofs.walks.at_column.Goals as goal

pub returns-in_err-check : goal.returns-in_err-check
returns-in_err-check g c = λ finds h.
    exits c.from_residual.result _ _ c.from_residual.ensures.1
    (sym (column_here finds c.keys-column-items.result.now c.loop-j.j _ _ (omega arith) (sym (h _ _ _ c.in_err-check.ensures)))
    ∙ c.loop-j.invariant finds h ∙ keys_seen finds c.args.given.now _ c.keys-column-items.ensures)

pub loop-j-preserved : goal.loop-j-preserved
loop-j-preserved g c = λ finds h.
    sym (column_next finds c.keys-column-items.result.now c.loop-j.j _ (omega arith) (sym (h _ _ _ c.in_ok-check.ensures))) ∙ c.loop-j.invariant finds h

pub returns : goal.returns
returns g c = λ finds h.
    sym (column_done finds c.keys-column-items.result.now c.loop-j.j (omega arith)) ∙ c.loop-j.invariant finds h ∙ keys_seen finds c.args.given.now _ c.keys-column-items.ensures
