use Rattle.std.proofs.Common.{◌≡◌, length, Ok, List, ℕ, ◌∷◌, [], map, ◌∙◌, sym, subst, lit<}
use Rattle.std.specs.List.{AllZip, Contains}
use Rattle.std.proofs.lemmas.List.{map-append}
use Rattle.std.proofs.lemmas.Iterator.Consumers.{YieldsList-end, YieldsList-turn, YieldsList-from_first}
use Rattle.scenario.specs.Reading.{ReadsNumber}
use Rattle.scenario.specs.Words.{words}
use Rattle.scenario.proofs.Parting.{AllZip-push}
use Rattle.scenario.proofs.Stripping.{between_ascii, same_inner}
use Rattle.scenario.proofs.Telling.{found_on, told_found}
use Rattle.scenario.proofs.lists.numbers.Goals as goal

pub loop-word-preserved : goal.loop-word-preserved
loop-word-preserved g c =
    let R = λ (word : List ℕ) (n : _). ReadsNumber g.T.FromStr.from_str_gives word (Ok n) in
    rw (map-append (λ x. x.now) c.loop-word.yielded (c.in-Some.word ∷ []), c.in_ok-push.ensures.items)
    (AllZip-push R (map (λ x. x.now) c.loop-word.yielded) c.loop-word.list.items c.in-Some.word.now c.in_ok-number.field-0 c.loop-word.invariant c.in_ok-number.ensures)

pub returns : goal.returns
returns g c =
    let all : map (λ x. x.now) c.loop-word.yielded ≡ words c.in_ok-between.field-0.now =
    (YieldsList-end (YieldsList-from_first (λ x. x.now) (λ s. words s.rest.now) {s = c.into_iter-word-iterator.result} (words c.in_ok-between.field-0.now) (cc)) c.loop-word.yielded c.loop-word.word-iterator c.loop-word.yielded_by c.next.result c.next.new.self c.in-None.is c.next.ensures.steps).0 in (
      c.in_ok-between.field-0.now,
      c.in_ok-between.ensures ∙ between_ascii 91 93 c.in_ok-between.field-0.now (lit< tt) (lit< tt),
      subst (λ ws. AllZip (λ word n. ReadsNumber g.T.FromStr.from_str_gives word (Ok n)) ws c.loop-word.list.items) all c.loop-word.invariant,
    )

pub returns-in_err-between : goal.returns-in_err-between
returns-in_err-between g c =
    found_on _ _ _ _ _ c.between.result c.from_residual.result c.in_err-between.field-0.0 (told_found _ _ c.between.result c.between.ensures) c.in_err-between.was c.from_residual.ensures.1 (λ f h. h)
    (λ none inner is. absurd (none inner (is ∙ sym (between_ascii 91 93 inner (lit< tt) (lit< tt)))))

pub returns-in_err-number : goal.returns-in_err-number
returns-in_err-number g c =
    let turn = YieldsList-turn (YieldsList-from_first (λ x. x.now) (λ s. words s.rest.now) {s = c.into_iter-word-iterator.result} (words c.in_ok-between.field-0.now) (cc))
    c.loop-word.yielded c.loop-word.word-iterator c.loop-word.yielded_by c.next.result c.next.new.self c.in-Some.word c.in-Some.is c.next.ensures.steps in
    found_on _ _ _ _ _ c.number.result c.from_residual-in_err-number.result c.in_err-number.field-0.0 (told_found _ _ c.number.result c.number.ensures) c.in_err-number.was c.from_residual-in_err-number.ensures.1 (λ f h. h)
    (λ unread inner is.
    let same : c.in_ok-between.field-0.now ≡ inner = same_inner (91 ∷ []) (93 ∷ []) c.in_ok-between.field-0.now inner (sym (c.in_ok-between.ensures ∙ between_ascii 91 93 c.in_ok-between.field-0.now (lit< tt) (lit< tt)) ∙ is) in
    (c.in-Some.word.now, subst (λ t. Contains (words t) c.in-Some.word.now) same (length c.loop-word.yielded, turn.0, sym turn.1), unread))
