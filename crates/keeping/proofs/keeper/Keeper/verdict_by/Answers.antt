use Rattle.std.proofs.Common.{◌≡◌, Bool, true, not, Less, Equal, Greater, sym, ap, ◌∙◌, List}
use Rattle.std.specs.Bool.{◌==◌}
use Rattle.std.specs.Ordering.{ordering_index}
use Rattle.std.specs.declared.cmp.Ordering.{Ordering}
use Rattle.column.specs.Columns.{Column}
use Rattle.tables.specs.Reading.{key_read}
use Rattle.tables.specs.Refusals.{verdict}
use Rattle.keeping.proofs.KeptRows.{shown_keys}
use Rattle.keeping.proofs.keeper.Keeper.verdict_by.Goals as goal

unequal : (v : Ordering) (b : Bool) → b ≡ not (ordering_index v == 1) → b ≡ true → v ≡ Equal → ⊥
unequal Less b e t q = cc
unequal Equal b e t q = cc
unequal Greater b e t q = cc

pub returns-then-leading : goal.returns-then-leading
returns-then-leading g c = λ leads. c.compare-verdict.ensures ∙ sym (leads.alone c.if-leading.true c.args.a c.args.b)

pub returns-then-ne : goal.returns-then-ne
returns-then-ne g c = λ leads.
    c.compare-verdict.ensures
    ∙ sym (leads.apart c.args.a c.args.b (λ q. unequal _ _ c.ne.ensures c.if-ne.true (c.compare-verdict.ensures ∙ q)))

pub returns : goal.returns
returns g c = λ leads.
    let s = g.O.GroupTable.settings c.args.self.now.order in
    c.compare.ensures
    ∙ ap (λ (cs : List Column). verdict s (key_read s.kinds cs c.args.a) (key_read s.kinds cs c.args.b)) (shown_keys c.args.given.now _ c.keys.ensures)
