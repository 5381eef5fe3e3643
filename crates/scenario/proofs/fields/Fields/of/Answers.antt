use Rattle.std.proofs.Common.{◌≡◌, ◌<◌, ℕ, suc, List, length, ap, ◌∙◌, map, take, drop, get_or, [], ◌∷◌, ◌++◌, subst, sym}
use Rattle.std.proofs.lemmas.List.{map-append, take-append-drop}
use Rattle.std.proofs.Math.Seq.{drop-cons}
use Rattle.std.proofs.lemmas.Iterator.Consumers.{YieldsList-turn, YieldsList-end, YieldsList-so_far, YieldsList-from_first}
use Rattle.scenario.specs.Fields.{texts_of, Gathers}
use Rattle.scenario.specs.Words.{words}
use Rattle.scenario.proofs.Gathering.{gathers_none, none_gathered}
use Rattle.scenario.proofs.Telling.{found_on}
use Rattle.scenario.proofs.fields.Fields.of.Goals as goal

pub loop-word-init : goal.loop-word-init
loop-word-init c = gathers_none c.none-fields.result c.none-fields.ensures

pub loop-word-preserved : goal.loop-word-preserved
loop-word-preserved c =
    subst (λ ws. Gathers ws (texts_of c.put.new.self)) (sym (map-append (λ x. x.now) c.loop-word.yielded (c.in-Some.word ∷ [])))
    (c.in_ok-put.ensures (map (λ x. x.now) c.loop-word.yielded) c.loop-word.invariant)

pub returns : goal.returns
returns c =
    let all : map (λ x. x.now) c.loop-word.yielded ≡ words c.args.words.rest.now =
    (YieldsList-end (YieldsList-from_first (λ x. x.now) (λ s. words s.rest.now) {s = c.into_iter-word-iterator.result} (words c.args.words.rest.now) (cc)) c.loop-word.yielded c.loop-word.word-iterator c.loop-word.yielded_by c.next.result c.next.new.self c.in-None.is c.next.ensures.steps).0 in
    let gathered : Gathers (words c.args.words.rest.now) (texts_of c.loop-word.fields) = subst (λ ws. Gathers ws (texts_of c.loop-word.fields)) all c.loop-word.invariant in
    record { none = none_gathered c.loop-word.fields (words c.args.words.rest.now) gathered; some = gathered }

-- the words that came, this one, and those behind it
around : (all ys : List (List ℕ)) (n : ℕ) (w : List ℕ) → ys ≡ take n all → n < length all → w ≡ get_or all n w → all ≡ ys ++ w ∷ drop (suc n) all
around all ys n w so_far short here =
    sym (take-append-drop n all) ∙ ap (λ front. front ++ drop n all) (sym so_far) ∙ ap (λ back. ys ++ back) (drop-cons all n w short) ∙ ap (λ u. ys ++ u ∷ drop (suc n) all) (sym here)

pub returns-in_err-put-clause-some : goal.returns-in_err-put-clause-some
returns-in_err-put-clause-some c =
    let yields = YieldsList-from_first (λ x. x.now) (λ s. words s.rest.now) {s = c.into_iter-word-iterator.result} (words c.args.words.rest.now) (cc) in
    let turn = YieldsList-turn yields c.loop-word.yielded c.loop-word.word-iterator c.loop-word.yielded_by c.next.result c.next.new.self c.in-Some.word c.in-Some.is c.next.ensures.steps in
    let parts = around (words c.args.words.rest.now) (map (λ x. x.now) c.loop-word.yielded) (length c.loop-word.yielded) c.in-Some.word.now (YieldsList-so_far yields c.loop-word.yielded c.loop-word.word-iterator c.loop-word.yielded_by) turn.0 turn.1 in
    found_on _ _ _ _ _ c.put.result c.from_residual.result c.in_err-put.field-0.0 c.put.ensures c.in_err-put.was c.from_residual.ensures.1 (λ f h. h)
    (λ none texts g. none (map (λ x. x.now) c.loop-word.yielded) _ c.loop-word.invariant texts (subst (λ ws. Gathers ws texts) parts g))
