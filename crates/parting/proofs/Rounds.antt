-- The ungrouped LAST picks as the grouped one would, were each batch turned round.
use Rattle.std.proofs.Common.{◌≡◌, Bool, not, ◌||◌, List, [], ◌∷◌, ◌++◌, reverse, None, filter, Option, sym, refl, ap, ap₂, ◌∙◌}
use mathlib.Core.Path.{fun_ext}
use Rattle.std.specs.List.{flat_map}
use Rattle.std.proofs.lemmas.List.Elements.{filter-append}
use Rattle.tables.specs.Refusals.{some_of}
use Rattle.book.specs.Winners.{Row, Making, Lawful, beats, unbeaten, top_rows, earliest, winner}
use Rattle.book.proofs.Winning.{run, winner_run, some_of_append, first_append, run_append}
use Rattle.book.proofs.ByGroup.{stored, stored_winner}
use Rattle.ungrouped.specs.Rows.{latest}
use Rattle.ungrouped.proofs.Rounding.{some_of_reverse, filter_reverse, earliest_reverse, latest_some, latest_top}
use Rattle.parting.specs.Batches.{or_else, of_the_first}

-- the rows of all batches
abbrev pub rows_of : List (List Row) → List Row
rows_of bs = flat_map (λ b. b) bs

-- the rows of all batches, each batch turned round
abbrev pub turned_rows : List (List Row) → List Row
turned_rows bs = flat_map reverse bs

earliest_round : (qs ys zs : List Row) → earliest ys ≡ latest zs → earliest (reverse qs ++ ys) ≡ latest (or_else qs zs)
earliest_round [] ys zs e = e
earliest_round (q ∷ qs) ys zs e =
    let z = latest_some q qs in first_append (reverse (q ∷ qs)) ys z.0 (earliest_reverse (q ∷ qs) ∙ z.1) ∙ sym z.1

latest_decided : (top : Row → Bool) (bs : List (List Row)) → earliest (filter top (turned_rows bs)) ≡ latest (of_the_first top bs)
latest_decided top [] = refl
latest_decided top (b ∷ bs) =
    ap earliest (filter-append top (reverse b) (turned_rows bs) ∙ ap (λ l. l ++ filter top (turned_rows bs)) (filter_reverse top b))
    ∙ earliest_round (filter top b) (filter top (turned_rows bs)) (of_the_first top bs) (latest_decided top bs)

earliest_flat : (qs ys zs : List Row) → earliest ys ≡ earliest zs → earliest (qs ++ ys) ≡ earliest (or_else qs zs)
earliest_flat [] ys zs e = e
earliest_flat (q ∷ qs) ys zs e = refl

earliest_decided : (top : Row → Bool) (bs : List (List Row)) → earliest (filter top (rows_of bs)) ≡ earliest (of_the_first top bs)
earliest_decided top [] = refl
earliest_decided top (b ∷ bs) =
    ap earliest (filter-append top b (rows_of bs)) ∙ earliest_flat (filter top b) (filter top (rows_of bs)) (of_the_first top bs) (earliest_decided top bs)

some_of_round : (p : Row → Bool) (bs : List (List Row)) → some_of p (turned_rows bs) ≡ some_of p (rows_of bs)
some_of_round p [] = refl
some_of_round p (b ∷ bs) =
    some_of_append p (reverse b) (turned_rows bs) ∙ ap₂ (λ x y. x || y) (some_of_reverse p b) (some_of_round p bs) ∙ sym (some_of_append p b (rows_of bs))

module _ (m : Making) (laws : Lawful m) where
  -- what is held after the latest top row of each batch was stored
  abbrev pub stored_all : Option Row → List (List Row) → Option Row
  stored_all o [] = o
  stored_all o (b ∷ bs) = stored_all (stored m o (latest (top_rows m b))) bs

  stored_all_run : (o : Option Row) (bs : List (List Row)) → stored_all o bs ≡ run m o (turned_rows bs)
  stored_all_run o [] = refl
  stored_all_run o (b ∷ bs) =
      stored_all_run (stored m o (latest (top_rows m b))) bs
      ∙ ap (λ x. run m x (turned_rows bs)) (ap (stored m o) (latest_top m b) ∙ stored_winner m laws o (reverse b))
      ∙ sym (run_append m o (reverse b) (turned_rows bs))

  -- the grouped one ends with the first top row of the deciding batch, the other with the last
  pub grouped_is : (bs : List (List Row)) → winner m (rows_of bs) ≡ earliest (of_the_first (unbeaten m (rows_of bs)) bs)
  unfolding winner top_rows
  grouped_is bs = earliest_decided (unbeaten m (rows_of bs)) bs

  pub alone_is : (bs : List (List Row)) → stored_all None bs ≡ latest (of_the_first (unbeaten m (rows_of bs)) bs)
  unfolding winner top_rows unbeaten
  alone_is bs =
      let same : unbeaten m (turned_rows bs) ≡ unbeaten m (rows_of bs) = fun_ext (λ r. ap not (some_of_round (λ s. beats m s r) bs)) in
      stored_all_run None bs ∙ sym (winner_run m laws (turned_rows bs)) ∙ ap (λ f. earliest (filter f (turned_rows bs))) same
      ∙ latest_decided (unbeaten m (rows_of bs)) bs
