use Rattle.std.proofs.Common.{[], ◌∷◌, sym, ap, ◌∙◌, arith}
use Rattle.std.proofs.lemmas.List.{length-map}
use Rattle.column.specs.Cells.{text_cell}
use Rattle.orders.specs.Texts.{text_key}
use Rattle.orders.proofs.Asking.{held_within, held_key}
use Rattle.orders.proofs.Texts.{verdict_texts}
use Rattle.orders.proofs.text.TextOrderRowOrder.compare_with_held.Goals as goal

pub returns-in-Some-clause-held : goal.returns-in-Some-clause-held
returns-in-Some-clause-held c g =
    let o = c.args.self.now in
    let k = held_key text_key o.keys c.args.group_idx c.in-Some.held.now c.in-Some.ensures in
    c.compare_texts.ensures ∙ verdict_texts o.sort _ _ _ _ c.text_in.ensures (ap (λ x. text_cell x ∷ []) c.held_text.ensures ∙ sym k)

pub returns-in-Some-clause-missing : goal.returns-in-Some-clause-missing
returns-in-Some-clause-missing c g =
    let o = c.args.self.now in
    let m = length-map o.keys text_key in
    let w = held_within text_key o.keys c.args.group_idx c.in-Some.held.now c.in-Some.ensures in
    absurd (omega arith)
