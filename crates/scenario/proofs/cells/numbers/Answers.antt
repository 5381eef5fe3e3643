use Rattle.std.proofs.Common.{◌≡◌, ◌∷◌, [], map, length, refl}
use Rattle.std.proofs.lemmas.List.{map-append}
use Rattle.std.proofs.lemmas.Iterator.Consumers.{YieldsList-end, YieldsList-turn, YieldsList-from_first}
use Rattle.column.specs.Cells.{numbers}
use Rattle.layout.specs.Layout.{number_content}
use Rattle.scenario.specs.Words.{words}
use Rattle.scenario.proofs.Filling.{filled_more, column_of, word_refused}
use Rattle.scenario.proofs.cells.numbers.Goals as goal

pub loop-item-preserved : goal.loop-item-preserved
loop-item-preserved c =
    rw (map-append (λ x. x.now) c.loop-item.yielded (c.in-Some.item ∷ []))
    (filled_more numbers number_content (map (λ x. x.now) c.loop-item.yielded) c.in-Some.item.now c.loop-item.there.items c.push_number.new.there.items [] [] c.loop-item.data.items c.push_number.new.data.items
    (λ cs. refl) (λ cs d e f g. refl) (λ cs e. tt) c.loop-item.invariant c.in_ok-push_number.ensures)

pub returns : goal.returns
returns c =
    let all : map (λ x. x.now) c.loop-item.yielded ≡ words c.args.items.now =
    (YieldsList-end (YieldsList-from_first (λ x. x.now) (λ s. words s.rest.now) {s = c.into_iter-item-iterator.result} (words c.args.items.now) (cc))
    c.loop-item.yielded c.loop-item.item-iterator c.loop-item.yielded_by c.next.result c.next.new.self c.in-None.is c.next.ensures.steps).0 in
    column_of numbers 1 c.column.result _ _ c.loop-item.there.items c.deref.result.now [] c.new.result.items c.loop-item.data.items c.column.ensures c.loop-item.invariant all c.deref.ensures.value c.new.ensures.items refl

pub returns-in_err-push_number : goal.returns-in_err-push_number
returns-in_err-push_number c =
    let all = YieldsList-from_first (λ x. x.now) (λ s. words s.rest.now) {s = c.into_iter-item-iterator.result} (words c.args.items.now) (cc) in
    word_refused numbers number_content c.in-Some.item.now c.loop-item.there.items c.push_number.new.there.items c.loop-item.data.items c.push_number.new.data.items _ c.push_number.result c.from_residual.result c.in_err-push_number.field-0.0
    (words c.args.items.now) (length c.loop-item.yielded) c.push_number.ensures c.in_err-push_number.was c.from_residual.ensures.1 (λ f h. h)
    (YieldsList-turn all c.loop-item.yielded c.loop-item.item-iterator c.loop-item.yielded_by c.next.result c.next.new.self c.in-Some.item c.in-Some.is c.next.ensures.steps)
