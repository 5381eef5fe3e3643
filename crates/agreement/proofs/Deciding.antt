-- The winners that two accumulators hold decide whether they answer alike from then on.
use Rattle.std.proofs.Common.{◌≡◌, List, [], length, get_or, Some, None, Option, refl, sym, ap, ◌∙◌}
use Rattle.std.proofs.lemmas.List.{ext_get_or}
use Rattle.book.specs.Winners.{Row, Making}
use Rattle.book.specs.Calls.{book_after}
use Rattle.book.proofs.Following.{answers_same}
use Rattle.agreement.specs.Deciding.{MadeAlike, held, drawn, WinnersAgree, HoldAlike, WinnersDecide}
use Rattle.agreement.proofs.Taken.{reached_shown}
use Rattle.agreement.proofs.Telling.{winners_told}

pub alike_is : (m n : Making) → MadeAlike m n → m ≡ n
alike_is m n e = λ i. record {
  state = record { kind = e.kind i; takes = λ c. e.taken c i };
  order = record { kinds = e.key_kinds i; takes = λ j c. e.keys_taken j c i; leq = λ a b. e.relation a b i };
  first = e.first i;
  ignore_nulls = e.ignore_nulls i;
}

pub agree_is : (w v : Option Row) → WinnersAgree w v → w ≡ v
agree_is None None a = refl
agree_is None (Some s) a = absurd a
agree_is (Some r) None a = absurd a
agree_is (Some r) (Some s) a = λ i. Some (record { value = a.value i; key = a.key i })

agree_self : (w : Option Row) → WinnersAgree w w
agree_self None = tt
agree_self (Some r) = record { value = refl; key = refl }

pub agree_from : (w v : Option Row) → w ≡ v → WinnersAgree w v
agree_from w v e = rw (← e) (agree_self w)

pub hold_is : (ws vs : List (Option Row)) → HoldAlike ws vs → ws ≡ vs
hold_is ws vs h = ext_get_or None ws vs h.as_many (λ i l. agree_is (get_or ws i None) (get_or vs i None) (h.winners i l))

pub hold_from : (ws vs : List (Option Row)) → ws ≡ vs → HoldAlike ws vs
hold_from ws vs e = record { as_many = ap length e; winners = λ i l. agree_from (get_or ws i None) (get_or vs i None) (ap (λ us. get_or us i None) e) }

pub winners_decide : WinnersDecide
winners_decide m n laws alike past past' =
    let same = alike_is m n alike in
    let b = book_after m [] past in
    let c = book_after m [] past' in (
      λ h further p.
          answers_same m laws further b c (hold_is (held m past) (held n past') h ∙ ap (λ k. held k past') (sym same)) ∙ ap (λ k. drawn k past' further) same,
      λ h. hold_from (held m past) (held n past')
          (winners_told m b c (reached_shown m laws past) (reached_shown m laws past') (λ further p. h further p ∙ ap (λ k. drawn k past' further) (sym same)) ∙ ap (λ k. held k past') same),
    )
