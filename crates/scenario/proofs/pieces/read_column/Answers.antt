use Rattle.std.proofs.Common.{◌≡◌, ◌∷◌, [], ◌++◌, inl, inr, sym, ap, ◌∙◌}
use Rattle.scenario.specs.Cells.{Names}
use Rattle.scenario.specs.Names.{kind_name}
use Rattle.scenario.proofs.Parting.{found_so, refused, bracketed, empty_text}
use Rattle.scenario.proofs.Refusing.{begun, unbegun, column_by_parts, no_column, some_text, unparted_cells, unclosed_cells, nameless_cells, unread_cells}
use Rattle.scenario.proofs.Telling.{found_on, told_found}
use Rattle.scenario.proofs.pieces.read_column.Goals as goal
use Rattle.scenario.proofs.pieces.read_column.Goals.{then-is_empty, else-is_empty+in_ok-kind}

pub returns-then-starts_with : goal.returns-then-starts_with
returns-then-starts_with c =
    column_by_parts c.args.read c.args.text.now c.by_parts.result (begun c.args.text.now c.starts_with.result c.starts_with.ensures.cases c.if-starts_with.true) c.by_parts.ensures

pub returns-in_err-name : goal.returns-in_err-name
returns-in_err-name c =
    refused _ _ _ c.from_residual.result c.from_residual.ensures.1
    (no_column c.args.read c.args.text.now (unbegun c.args.text.now c.starts_with.result c.starts_with.ensures.cases c.if-starts_with.false)
    (unparted_cells c.args.read c.args.text.now c.split_once.result _ c.split_once.ensures.cases c.in_err-name.ensures.value))

pub returns-in_err-items : goal.returns-in_err-items
returns-in_err-items c =
    refused _ _ _ c.from_residual-in_err-items.result c.from_residual-in_err-items.ensures.1
    (no_column c.args.read c.args.text.now (unbegun c.args.text.now c.starts_with.result c.starts_with.ensures.cases c.if-starts_with.false)
    (unclosed_cells c.args.read c.args.text.now c.split_once.result (c.in_ok-name.name, c.in_ok-name.items) c.strip_suffix.result _ c.split_once.ensures.cases c.in_ok-name.ensures.value c.strip_suffix.ensures.cases c.in_err-items.ensures.value))

pub returns-in_err-kind : goal.returns-in_err-kind
returns-in_err-kind c =
    found_on _ _ _ _ _ c.kind_named.result c.from_residual-in_err-kind.result c.in_err-kind.field-0.0 (told_found _ _ c.kind_named.result c.kind_named.ensures) c.in_err-kind.was c.from_residual-in_err-kind.ensures.1 (λ f h. h)
    (λ none. no_column c.args.read c.args.text.now (unbegun c.args.text.now c.starts_with.result c.starts_with.ensures.cases c.if-starts_with.false)
    (nameless_cells c.args.read c.args.text.now c.split_once.result (c.in_ok-name.name, c.in_ok-name.items) c.split_once.ensures.cases c.in_ok-name.ensures.value (some_text c.in_ok-name.name.now (sym c.is_empty.ensures ∙ c.if-is_empty.false)) none))

pub returns : goal.returns
returns c =
    let named : Names c.args.read c.in_ok-name.name.now c.if-is_empty.kind =
    elim c.if-is_empty.branch [
      | then-is_empty w ↦ inl (empty_text c.in_ok-name.name.now (sym c.is_empty.ensures ∙ w.if-is_empty.true), w.kind-is)
      | else-is_empty+in_ok-kind w ↦ inr (w.in_ok-kind.ensures ∙ ap kind_name (sym w.kind-is))
    ] in
    let closed : c.args.text.now ≡ c.in_ok-name.name.now ++ 91 ∷ (c.in_ok-items.items.now ++ 93 ∷ []) =
    bracketed c.args.text.now c.split_once.result (c.in_ok-name.name, c.in_ok-name.items) c.strip_suffix.result c.in_ok-items.items c.split_once.ensures.cases c.in_ok-name.ensures.value c.strip_suffix.ensures.cases c.in_ok-items.ensures.value in
    found_so _ _ _ _ c.cells.result c.cells.ensures (λ p h. inr (c.in_ok-name.name.now, c.in_ok-items.items.now, c.if-is_empty.kind, h.0, closed, named, h.1, h.2))
    (λ none. no_column c.args.read c.args.text.now (unbegun c.args.text.now c.starts_with.result c.starts_with.ensures.cases c.if-starts_with.false)
    (unread_cells c.args.read c.args.text.now c.split_once.result (c.in_ok-name.name, c.in_ok-name.items) c.in_ok-items.items c.if-is_empty.kind c.split_once.ensures.cases c.in_ok-name.ensures.value closed named none))
