use Rattle.std.proofs.Common.{rules, ◌≡◌, ◌∙◌, sym, ap, ◌++◌, ◌∷◌, [], append-nil}
use Rattle.std.specs.Option.{option_map}
use Rattle.column.specs.Cells.{text_cell}
use Rattle.layout.specs.Layout.{string_content}
use Rattle.scenario.proofs.Filling.{string_read, string_there, string_added, cell_refused, no_string}
use Rattle.scenario.proofs.cells.push_bytes.Goals as goal
use Rattle.scenario.proofs.cells.push_bytes.Goals.{in-Some+in_ok-extend_from_slice, in_default}

pub returns : goal.returns
returns c =
    let o = c.in_ok-cell.cell in
    let old = c.args.data.now.items in
    let bytes : c.match-cell-2.data.items ≡ old ++ string_content (text_cell (option_map (λ v. v.items) o)) =
    elim c.match-cell-2.branch [
      | in-Some+in_ok-extend_from_slice w ↦
          ap (λ v. v.items) w.data-is ∙ w.in_ok-extend_from_slice.ensures.items ∙ ap (λ bs. old ++ bs) (w.deref.ensures.value ∙ ap (λ o. string_content (text_cell (option_map (λ v. v.items) o))) (sym w.in-Some.is))
      | in_default w ↦ ap (λ v. v.items) w.data-is ∙ sym (append-nil old) ∙ ap (λ o. old ++ string_content (text_cell (option_map (λ v. v.items) o))) (sym w.in_default.is)
    ] in
    string_added c.end.result c.len.result c.args.item.now c.args.there.now.items c.push.new.self.items old c.match-cell-2.data.items c.end.ensures (c.len.ensures ∙ c.match-cell-2.data.ok.0) (
      text_cell (option_map (λ v. v.items) o),
      string_read (λ v. v.items) c.args.item.now o _ _ c.in_ok-cell.ensures (λ v r. search rules),
      c.in_ok-push.ensures.items ∙ ap (λ b. c.args.there.now.items ++ b ∷ []) (c.is_some.ensures ∙ sym (string_there (λ v. v.items) o)),
      bytes,
    )

pub returns-in_err-cell : goal.returns-in_err-cell
returns-in_err-cell c =
    cell_refused _ _ _ _ _ _ c.cell.result c.from_residual.result c.in_err-cell.field-0.0 c.cell.ensures c.in_err-cell.was c.from_residual.ensures.1 (λ f h. h)
    (λ there h d is. absurd (no_string c.args.item.now there (search rules) d is))
