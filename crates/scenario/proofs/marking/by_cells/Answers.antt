use Rattle.std.proofs.Common.{◌≡◌, ℕ, Bool, List, [], ◌∷◌, refl, map, sym, ap, ◌∙◌, length, lit<}
use Rattle.std.specs.Prelude.{Result}
use Rattle.std.proofs.lemmas.List.{length-map}
use Rattle.std.proofs.lemmas.Iterator.Consumers.{YieldsList-end, YieldsList-turn, YieldsList-from_first}
use Rattle.layout.specs.Layout.{packed}
use Rattle.scenario.specs.Packing.{validity_bytes}
use Rattle.scenario.specs.Reading.{Found, Finds}
use Rattle.scenario.specs.Texts.{enclosed}
use Rattle.scenario.specs.Words.{words}
use Rattle.scenario.specs.declared.Unread.{Unread}
use Rattle.scenario.specs.declared.marking.Marks.{Marks}
use Rattle.scenario.proofs.Parting.{AreMarks, found_so, marks_more}
use Rattle.scenario.proofs.Refusing.{ByMarks, unbracketed, unmarked}
use Rattle.scenario.proofs.Stripping.{between_ascii}
use Rattle.scenario.proofs.Telling.{found_on, told_found}
use Rattle.scenario.proofs.marking.by_cells.Goals as goal
use denote.Ref.{Bor}

pub loop-item-init : goal.loop-item-init
loop-item-init c = ([], refl, c.new-bits.ensures.items, c.new-there.ensures.items)

pub loop-item-preserved : goal.loop-item-preserved
loop-item-preserved c =
    marks_more c.loop-item.yielded c.in-Some.item c.loop-item.bits.items c.loop-item.there.items _ _ c.in_ok-push_mark.ensures.0 c.in_ok-push_mark.ensures.1
    c.loop-item.invariant c.in_ok-push_mark.ensures.2 c.in_ok-push_mark.ensures.3 c.in_ok-push_mark.ensures.4

-- the column of all cells
marked : (t inner : List ℕ) (ws : List (Bor (List ℕ))) (bits there firsts seconds : List Bool) (r : Result Marks Unread) → t ≡ enclosed (91 ∷ []) (93 ∷ []) inner → map (λ w. w.now) ws ≡ words inner → AreMarks ws bits there
    → firsts ≡ bits → seconds ≡ there → Found r (λ m. (m.rows ≡ length firsts) × (m.validity.items ≡ validity_bytes seconds) × (m.bits.items ≡ packed firsts)) ⊥ → Finds r (ByMarks t)
marked t inner ws bits there firsts seconds r is all (cs, names, b, s) same also h =
    found_so _ _ _ _ r h
    (λ m p. (inner, cs, is, sym all ∙ names, (p.0 ∙ ap length (same ∙ b) ∙ length-map cs (λ c. c.0), p.2 ∙ ap packed (same ∙ b), p.1 ∙ ap validity_bytes (also ∙ s))))
    (λ none. absurd none)

pub returns : goal.returns
returns c =
    marked c.args.text.now c.in_ok-between.field-0.now c.loop-item.yielded c.loop-item.bits.items c.loop-item.there.items c.deref.result.now c.«deref-2».result.now c.of_bits.result
    (c.in_ok-between.ensures ∙ between_ascii 91 93 c.in_ok-between.field-0.now (lit< tt) (lit< tt))
    (YieldsList-end (YieldsList-from_first (λ x. x.now) (λ s. words s.rest.now) {s = c.into_iter-item-iterator.result} (words c.in_ok-between.field-0.now) (cc)) c.loop-item.yielded c.loop-item.item-iterator c.loop-item.yielded_by c.next.result c.next.new.self c.in-None.is c.next.ensures.steps).0
    c.loop-item.invariant c.deref.ensures.value c.«deref-2».ensures.value c.of_bits.ensures

pub returns-in_err-between : goal.returns-in_err-between
returns-in_err-between c =
    found_on _ _ _ _ _ c.between.result c.from_residual.result c.in_err-between.field-0.0 (told_found _ _ c.between.result c.between.ensures) c.in_err-between.was c.from_residual.ensures.1 (λ f h. h)
    (unbracketed c.args.text.now)

pub returns-in_err-push_mark : goal.returns-in_err-push_mark
returns-in_err-push_mark c =
    let turn = YieldsList-turn (YieldsList-from_first (λ x. x.now) (λ s. words s.rest.now) {s = c.into_iter-item-iterator.result} (words c.in_ok-between.field-0.now) (cc))
    c.loop-item.yielded c.loop-item.item-iterator c.loop-item.yielded_by c.next.result c.next.new.self c.in-Some.item c.in-Some.is c.next.ensures.steps in
    found_on _ _ _ _ _ c.push_mark.result c.from_residual-in_err-push_mark.result c.in_err-push_mark.field-0.0 c.push_mark.ensures c.in_err-push_mark.was c.from_residual-in_err-push_mark.ensures.1 (λ f h. h)
    (unmarked c.args.text.now c.in_ok-between.field-0.now (length c.loop-item.yielded) c.in-Some.item.now c.in_ok-between.ensures turn.0 turn.1)
