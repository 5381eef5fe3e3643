-- When a grouped and an ungrouped LAST, made alike and given the same batches, end alike.
use Rattle.std.proofs.Common.{◌≡◌, false, List, [], ◌∷◌, None, sym, refl, ap, ◌∙◌, subst, inr, ⊎_elim}
use Rattle.book.specs.Winners.{Row, Making, Lawful, unbeaten, earliest, winner, top_rows}
use Rattle.book.specs.Batches.{Given}
use Rattle.agreement.specs.Deciding.{WinnersAgree}
use Rattle.agreement.proofs.Deciding.{agree_from}
use Rattle.ungrouped.specs.Rows.{latest}
use Rattle.ungrouped.specs.Held.{shown_row}
use Rattle.ungrouped.specs.Calls.{held_after}
use Rattle.parting.specs.Batches.{alone_of, alone_calls, group, fed_all, brought, of_the_first, deciding_tops, TiesDecide}
use Rattle.parting.proofs.Rounds.{rows_of, grouped_is, alone_is}
use Rattle.parting.proofs.Feeding.{none_yet, group_is, shown_on}

no_tops : (rs : List Row) → earliest rs ≡ None → latest rs ≡ None
no_tops [] e = refl
no_tops (r ∷ rs) e = cc

module _ (m : Making) (laws : Lawful m) (last : m.first ≡ false) (gs : List Given) where
  all_rows : group (fed_all m [] gs) ≡ rows_of (brought m [] gs)
  all_rows = group_is m laws gs [] none_yet

  tops_are : deciding_tops m gs ≡ of_the_first (unbeaten m (rows_of (brought m [] gs))) (brought m [] gs)
  tops_are = ap (λ g. of_the_first (unbeaten m g) (brought m [] gs)) all_rows

  first_top : winner m (group (fed_all m [] gs)) ≡ earliest (deciding_tops m gs)
  first_top = ap (winner m) all_rows ∙ grouped_is m laws (brought m [] gs) ∙ ap earliest (sym tops_are)

  last_top : shown_row (held_after (alone_of m) (alone_calls gs)) ≡ latest (deciding_tops m gs)
  last_top = shown_on m laws last gs [] None none_yet ∙ alone_is m laws (brought m [] gs) ∙ ap latest (sym tops_are)

  none_held : group (fed_all m [] gs) ≡ [] → earliest (deciding_tops m gs) ≡ None
  unfolding winner top_rows
  none_held e = sym first_top ∙ ap (winner m) e

pub ties_decide : TiesDecide
ties_decide m laws last gs = (
  λ h. inr (subst (λ o. WinnersAgree o (latest (deciding_tops m gs))) (first_top m laws last gs) (subst (WinnersAgree (winner m (group (fed_all m [] gs)))) (last_top m laws last gs) h)),
  λ h. ⊎_elim
      (λ e. let n = none_held m laws last gs e in agree_from _ _ (first_top m laws last gs ∙ n ∙ sym (no_tops (deciding_tops m gs) n) ∙ sym (last_top m laws last gs)))
      (λ q. subst (WinnersAgree (winner m (group (fed_all m [] gs)))) (sym (last_top m laws last gs)) (subst (λ o. WinnersAgree o (latest (deciding_tops m gs))) (sym (first_top m laws last gs)) q))
      h,
)
