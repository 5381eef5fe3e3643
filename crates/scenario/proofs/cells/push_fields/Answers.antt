use Rattle.std.proofs.Common.{◌≡◌, ◌∷◌, [], ◌++◌, get_or, take, None, sym, ap, ◌∙◌, append_assoc, append-nil, arith}
use Rattle.std.specs.List.{flat_map}
use Rattle.std.proofs.lemmas.List.{take_more, flat_map_more}
use Rattle.layout.specs.Layout.{field_bytes}
use Rattle.layout.proofs.Contents.{three, three_at}
use Rattle.scenario.proofs.cells.push_fields.Goals as goal

pub loop-field-preserved : goal.loop-field-preserved
loop-field-preserved c =
    let i = c.loop-field.field-index in
    let fs = c.args.fields in
    let front = c.push.new.self.items in
    c.in_ok-extend_from_slice.ensures.items
    ∙ ap (λ bs. c.loop-field.data.items ++ bs) (c.number_bytes.ensures ∙ ap field_bytes (sym (three_at fs i c.loop-field-test.true)))
    ∙ ap (λ bs. bs ++ field_bytes (get_or (three fs) i None)) c.loop-field.invariant
    ∙ flat_map_more field_bytes front (take i (three fs)) (get_or (three fs) i None)
    ∙ ap (λ xs. front ++ flat_map field_bytes xs) (sym (take_more (three fs) i None c.loop-field-test.true))

pub returns : goal.returns
returns c =
    let fs = c.args.fields in
    let old = c.args.data.now.items in
    let rest = field_bytes (get_or fs 0 None) ++ (field_bytes (get_or fs 1 None) ++ field_bytes (get_or fs 2 None)) in
    let end : c.loop-field.field-index ≡ 3 = omega arith in
    c.loop-field.invariant
    ∙ ap (λ i. c.push.new.self.items ++ flat_map field_bytes (take i (three fs))) end
    ∙ ap (λ bs. c.push.new.self.items ++ (field_bytes (get_or fs 0 None) ++ (field_bytes (get_or fs 1 None) ++ bs))) (append-nil (field_bytes (get_or fs 2 None)))
    ∙ ap (λ bs. bs ++ rest) c.in_ok-push.ensures.items
    ∙ append_assoc old (c.presence.result ∷ []) rest
    ∙ ap (λ p. old ++ p ∷ rest) c.presence.ensures
