use Rattle.std.proofs.Common.{◌≡◌, ◌<◌, ◌^◌, ◌∷◌, [], map, length, refl, subst}
use Rattle.std.proofs.lemmas.List.{map-append}
use Rattle.std.proofs.lemmas.Iterator.Consumers.{YieldsList-end, YieldsList-turn, YieldsList-so_far, YieldsList-from_first}
use Rattle.column.specs.Cells.{strings}
use Rattle.layout.specs.Layout.{string_content}
use Rattle.scenario.specs.Words.{words}
use Rattle.scenario.proofs.Filling.{filled_more, ends_more, column_of, string_refused}
use Rattle.scenario.proofs.cells.strings.Goals as goal

pub loop-item-preserved : goal.loop-item-preserved
loop-item-preserved c =
    let added = c.in_ok-push_string.ensures in
    rw (map-append (λ x. x.now) c.loop-item.yielded (c.in-Some.item ∷ []))
    (filled_more strings string_content (map (λ x. x.now) c.loop-item.yielded) c.in-Some.item.now c.loop-item.there.items c.push_string.new.there.items c.loop-item.offsets.items c.push_string.new.offsets.items c.loop-item.data.items c.push_string.new.data.items
    (λ cs. refl) (ends_more c.loop-item.offsets.items c.push_string.new.offsets.items c.loop-item.data.items c.push_string.new.data.items added.3)
    (λ cs is. subst (λ bs. length bs < 2 ^ 32) is added.5) c.loop-item.invariant (added.0, added.1, added.2, added.4))

pub returns : goal.returns
returns c =
    let all : map (λ x. x.now) c.loop-item.yielded ≡ words c.args.items.now =
    (YieldsList-end (YieldsList-from_first (λ x. x.now) (λ s. words s.rest.now) {s = c.into_iter-item-iterator.result} (words c.args.items.now) (cc))
    c.loop-item.yielded c.loop-item.item-iterator c.loop-item.yielded_by c.next.result c.next.new.self c.in-None.is c.next.ensures.steps).0 in
    column_of strings 2 c.column.result _ _ c.loop-item.there.items c.deref.result.now c.loop-item.offsets.items c.loop-item.offsets.items c.loop-item.data.items c.column.ensures c.loop-item.invariant all c.deref.ensures.value refl refl

pub returns-in_err-push_string : goal.returns-in_err-push_string
returns-in_err-push_string c =
    let all = YieldsList-from_first (λ x. x.now) (λ s. words s.rest.now) {s = c.into_iter-item-iterator.result} (words c.args.items.now) (cc) in
    string_refused c.in-Some.item.now c.loop-item.there.items c.push_string.new.there.items c.loop-item.offsets.items c.push_string.new.offsets.items c.loop-item.data.items c.push_string.new.data.items
    _ c.push_string.result c.from_residual-in_err-push_string.result c.in_err-push_string.field-0.0 (words c.args.items.now) (map (λ x. x.now) c.loop-item.yielded) (length c.loop-item.yielded)
    c.push_string.ensures c.in_err-push_string.was c.from_residual-in_err-push_string.ensures.1 (λ f h. h)
    (YieldsList-turn all c.loop-item.yielded c.loop-item.item-iterator c.loop-item.yielded_by c.next.result c.next.new.self c.in-Some.item c.in-Some.is c.next.ensures.steps)
    (YieldsList-so_far all c.loop-item.yielded c.loop-item.item-iterator c.loop-item.yielded_by) c.loop-item.invariant
