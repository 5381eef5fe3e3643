use Rattle.std.proofs.Common.{◌≡◌, ◌∷◌, [], map, length, refl}
use Rattle.std.proofs.lemmas.List.{map-append}
use Rattle.std.proofs.lemmas.Iterator.Consumers.{YieldsList-end, YieldsList-turn, YieldsList-from_first}
use Rattle.column.specs.Cells.{records}
use Rattle.layout.specs.Layout.{record_content}
use Rattle.scenario.specs.Words.{words}
use Rattle.scenario.proofs.Filling.{filled_more, column_of, word_refused}
use Rattle.scenario.proofs.cells.records.Goals as goal

pub loop-item-preserved : goal.loop-item-preserved
loop-item-preserved c =
    rw (map-append (λ x. x.now) c.loop-item.yielded (c.in-Some.item ∷ []))
    (filled_more records record_content (map (λ x. x.now) c.loop-item.yielded) c.in-Some.item.now c.loop-item.there.items c.push_record.new.there.items [] [] c.loop-item.data.items c.push_record.new.data.items
    (λ cs. refl) (λ cs d e f g. refl) (λ cs e. tt) c.loop-item.invariant c.in_ok-push_record.ensures)

pub returns : goal.returns
returns c =
    let all : map (λ x. x.now) c.loop-item.yielded ≡ words c.args.items.now =
    (YieldsList-end (YieldsList-from_first (λ x. x.now) (λ s. words s.rest.now) {s = c.into_iter-item-iterator.result} (words c.args.items.now) (cc))
    c.loop-item.yielded c.loop-item.item-iterator c.loop-item.yielded_by c.next.result c.next.new.self c.in-None.is c.next.ensures.steps).0 in
    column_of records 3 c.column.result _ _ c.loop-item.there.items c.deref.result.now [] c.new.result.items c.loop-item.data.items c.column.ensures c.loop-item.invariant all c.deref.ensures.value c.new.ensures.items refl

pub returns-in_err-push_record : goal.returns-in_err-push_record
returns-in_err-push_record c =
    let all = YieldsList-from_first (λ x. x.now) (λ s. words s.rest.now) {s = c.into_iter-item-iterator.result} (words c.args.items.now) (cc) in
    word_refused records record_content c.in-Some.item.now c.loop-item.there.items c.push_record.new.there.items c.loop-item.data.items c.push_record.new.data.items _ c.push_record.result c.from_residual.result c.in_err-push_record.field-0.0
    (words c.args.items.now) (length c.loop-item.yielded) c.push_record.ensures c.in_err-push_record.was c.from_residual.ensures.1 (λ f h. h)
    (YieldsList-turn all c.loop-item.yielded c.loop-item.item-iterator c.loop-item.yielded_by c.next.result c.next.new.self c.in-Some.item c.in-Some.is c.next.ensures.steps)
