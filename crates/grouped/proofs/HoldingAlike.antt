-- Two lists of winners, made group by group, hold alike where they are as long and the winners of each group agree.
use Rattle.std.proofs.Common.{◌≡◌, ℕ, ◌+◌, ◌<◌, map, length, get_or, None, Option, sym, ap, ◌∙◌, subst, inl, inr, arith}
use Rattle.std.proofs.lemmas.Bool.{cases_lt}
use Rattle.std.proofs.lemmas.List.FromFn.{length-map-range_with_len, get_or-map-range_with_len}
use Rattle.std.specs.List.{range_with_len}
use Rattle.column.specs.Columns.{count_up}
use Rattle.layout.proofs.Packing.{count_up_counting}
use Rattle.book.specs.Winners.{Row}
use Rattle.agreement.specs.Deciding.{WinnersAgree, HoldAlike}

module _ (f : ℕ → Option Row) (n : ℕ) where
  counted : map f (count_up 0 n) ≡ map f (range_with_len 0 n)
  counted = ap (map f) (count_up_counting 0 n)

  pub shown_many : length (map f (count_up 0 n)) ≡ n
  shown_many = ap length counted ∙ length-map-range_with_len f 0 n

  pub shown_at : (k : ℕ) → k < n → get_or (map f (count_up 0 n)) k None ≡ f k
  shown_at k h = ap (λ ws. get_or ws k None) counted ∙ get_or-map-range_with_len f 0 n k k None h (omega arith)

module _ (f g : ℕ → Option Row) (m n : ℕ) where
  pub holds_all : m ≡ n → ((k : ℕ) → k < m → WinnersAgree (f k) (g k)) → HoldAlike (map f (count_up 0 m)) (map g (count_up 0 n))
  holds_all e h = record {
    as_many = shown_many f m ∙ e ∙ sym (shown_many g n);
    winners = λ k l.
        let i : k < m = subst (λ x. k < x) (shown_many f m) l in
        let j : k < n = subst (λ x. k < x) e i in
        subst (λ w. WinnersAgree w (get_or (map g (count_up 0 n)) k None)) (sym (shown_at f m k i)) (subst (WinnersAgree (f k)) (sym (shown_at g n k j)) (h k i));
  }

  pub holds_as_many : HoldAlike (map f (count_up 0 m)) (map g (count_up 0 n)) → m ≡ n
  holds_as_many h = sym (shown_many f m) ∙ h.as_many ∙ shown_many g n

  pub holds_at : HoldAlike (map f (count_up 0 m)) (map g (count_up 0 n)) → (k : ℕ) → k < m → WinnersAgree (f k) (g k)
  holds_at h k i =
      let j : k < n = subst (λ x. k < x) (holds_as_many h) i in
      subst (λ w. WinnersAgree w (g k)) (shown_at f m k i)
      (subst (WinnersAgree (get_or (map f (count_up 0 m)) k None)) (shown_at g n k j) (h.winners k (subst (λ x. k < x) (sym (shown_many f m)) i)))

-- one group more
pub agrees_next : (f g : ℕ → Option Row) (n : ℕ) → ((k : ℕ) → k < n → WinnersAgree (f k) (g k)) → WinnersAgree (f n) (g n) → (k : ℕ) → k < n + 1 → WinnersAgree (f k) (g k)
agrees_next f g n h a k l =
    elim (cases_lt k n) [
      | inl i ↦ h k i
      | inr i ↦ subst (λ m. WinnersAgree (f m) (g m)) (let z : n ≡ k = omega arith in z) a
    ]
