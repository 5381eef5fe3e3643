-- When two held rows show the same.
use Rattle.std.proofs.Common.{◌≡◌, ℕ, zero, suc, ◌+◌, ◌<◌, ◌≤◌, Bool, true, false, leb, ⊎_elim, List, [], ◌∷◌, map, length, get_or, None, Some, Option, Result, sym, refl, subst, ap, ap₂, ◌∙◌, arith}
use Rattle.std.proofs.lemmas.Bool.{leb-false, lt-leb, cases_eq}
use Rattle.std.proofs.lemmas.List.{length-map}
use Rattle.std.specs.Bool.{Decides}
use Rattle.column.specs.Cells.{Kind, Cell, null}
use Rattle.column.specs.Checks.{outcome, refuse, first_of}
use Rattle.column.specs.Columns.{count_up}
use Rattle.tables.specs.Meaning.{column_cells}
use Rattle.tables.specs.Refusals.{asking_key}
use Rattle.tables.specs.declared.OrderFault.{OrderFault}
use Rattle.tables.specs.declared.OrderFault.TheVariants as order
use Rattle.tables.specs.declared.table.GroupTable.{Ghosts}
use Rattle.book.specs.Winners.{Row}
use Rattle.keeping.specs.declared.keeper.Keeper.{Keeper}
use Rattle.keeping.specs.Keepers.{AnsweredAlike, SameValue, SameKey, Agree, keys}

-- Questions for a cell

pub both_answered : {F : Type 0} (o p : Option F) (x y : Cell) → AnsweredAlike (outcome o x) (outcome p y) → (o ≡ None) × (p ≡ None) × (x ≡ y)
both_answered None None x y e = (refl, refl, e)
both_answered None (Some g) x y e = absurd e
both_answered (Some f) None x y e = absurd e
both_answered (Some f) (Some g) x y e = absurd e

pub answered_both : {F : Type 0} (o p : Option F) (x y : Cell) → o ≡ None → p ≡ None → x ≡ y → AnsweredAlike (outcome o x) (outcome p y)
answered_both None None x y h k e = e
answered_both None (Some g) x y h k e = cc
answered_both (Some f) p x y h k e = cc

pub asked : (ks : List Kind) (j h g : ℕ) → asking_key ks j h g ≡ None → (j < length ks) × (g < h)
unfolding asking_key
asked ks j h g e = go (leb (length ks) j) (leb h g) refl refl e
  where
    go : (a b : Bool) → leb (length ks) j ≡ a → leb h g ≡ b → first_of (refuse a order.Cols ∷ refuse b order.Group ∷ []) ≡ None → (j < length ks) × (g < h)
    go true b p q e = cc
    go false true p q e = cc
    go false false p q e = (leb-false (length ks) j p, leb-false h g q)

pub asked_so : (ks : List Kind) (j h g : ℕ) → j < length ks → g < h → asking_key ks j h g ≡ None
unfolding asking_key
asked_so ks j h g p q = rw (lt-leb (length ks) j p, lt-leb h g q)

-- two questions for cells of key column j
pub alike_decides : (ks ks' : List Kind) (j h h' g g' : ℕ) (x y : Cell) (a b : Result Cell OrderFault) (r : Bool)
    → a ≡ outcome (asking_key ks j h g) x → b ≡ outcome (asking_key ks' j h' g') y → Decides r (AnsweredAlike a b)
    → Decides r ((j < length ks) × (j < length ks') × (g < h) × (g' < h') × (x ≡ y))
alike_decides ks ks' j h h' g g' x y a b r e k d =
    let same : AnsweredAlike a b ≡ AnsweredAlike (outcome (asking_key ks j h g) x) (outcome (asking_key ks' j h' g') y) = ap₂ AnsweredAlike e k in (
      λ t.
          let p = both_answered (asking_key ks j h g) (asking_key ks' j h' g') x y (subst (λ T. T) same (d.0 t)) in
          let q = asked ks j h g p.0 in
          let u = asked ks' j h' g' p.1 in
          (q.0, u.0, q.1, u.1, p.2),
      λ p. d.1 (subst (λ T. T) (sym same) (answered_both _ _ x y (asked_so ks j h g p.0 p.2) (asked_so ks' j h' g' p.1 p.3) p.4)),
    )

-- Cells by their numbers

maps_same : (f h : ℕ → Cell) (i n : ℕ) → ((j : ℕ) → i ≤ j → j < i + n → f j ≡ h j) → map f (count_up i n) ≡ map h (count_up i n)
maps_same f h i zero e = refl
maps_same f h i (suc n) e = ap₂ (λ x xs. x ∷ xs) (e i (omega arith) (omega arith)) (maps_same f h (suc i) n (λ j l m. e j (omega arith) (omega arith)))

tail_same : {X : Type 0} {x y : X} {xs ys : List X} → x ∷ xs ≡ y ∷ ys → (x ≡ y) × (xs ≡ ys)
tail_same e = (cc, cc)

same_maps : (f h : ℕ → Cell) (i n : ℕ) → map f (count_up i n) ≡ map h (count_up i n) → (j : ℕ) → i ≤ j → j < i + n → f j ≡ h j
same_maps f h i zero e j l m = absurd (omega arith)
same_maps f h i (suc n) e j l m = ⊎_elim (λ z. ap f z ∙ (tail_same e).0 ∙ ap h (sym z)) (λ z. same_maps f h (suc i) n (tail_same e).1 j (omega (arith, z)) (omega arith)) (cases_eq j i)

length_count : (i n : ℕ) → length (count_up i n) ≡ n
length_count i zero = refl
length_count i (suc n) = ap suc (length_count (suc i) n)

module _ {S O F G : Type 0} {s : Ghosts S F} {o : Ghosts O G} (k k' : Keeper S O F G s o) (g g' : ℕ) where
  pub agree_so : SameValue k g k' g' → SameKey k g k' g' → Agree k g k' g'
  agree_so v w =
      let f : ℕ → Cell = λ j. get_or (column_cells j (keys k)) g null in
      let h : ℕ → Cell = λ j. get_or (column_cells j (keys k')) g' null in
      let ks = maps_same f h 0 (length (o.settings k.order).kinds) (λ j l m. (w.cells j (omega arith)).same) ∙ ap (λ n. map h (count_up 0 n)) w.columns in
      record { held = v.held; held_too = v.held_too; same = λ i. record { value = v.same i; key = ks i } }

  as_many : Agree k g k' g' → length (o.settings k.order).kinds ≡ length (o.settings k'.order).kinds
  as_many a =
      let f : ℕ → Cell = λ j. get_or (column_cells j (keys k)) g null in
      let h : ℕ → Cell = λ j. get_or (column_cells j (keys k')) g' null in
      let n = length (o.settings k.order).kinds in
      let n' = length (o.settings k'.order).kinds in
      sym (length_count 0 n) ∙ sym (length-map (count_up 0 n) f) ∙ ap (λ (r : Row). length r.key) a.same ∙ length-map (count_up 0 n') h ∙ length_count 0 n'

  pub agree_key : Agree k g k' g' → SameKey k g k' g'
  agree_key a =
      let f : ℕ → Cell = λ j. get_or (column_cells j (keys k)) g null in
      let h : ℕ → Cell = λ j. get_or (column_cells j (keys k')) g' null in
      let n = length (o.settings k.order).kinds in
      let e = as_many a in
      let ks : map f (count_up 0 n) ≡ map h (count_up 0 n) = ap (λ (r : Row). r.key) a.same ∙ ap (λ i. map h (count_up 0 i)) (sym e) in
      record {
        columns = e;
        cells = λ j l. record {
          read = l;
          read_too = omega (arith, e);
          held = omega (arith, k.level, a.held);
          held_too = omega (arith, k'.level, a.held_too);
          same = same_maps f h 0 n ks j (omega arith) (omega arith);
        };
      }
