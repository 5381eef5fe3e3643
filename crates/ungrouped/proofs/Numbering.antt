-- The numbers of a batch's rows, from the front and from the back.
use Rattle.std.proofs.Common.{◌≡◌, ℕ, zero, suc, ◌+◌, ◌-◌, ◌<◌, ◌≤◌, MatchOption, IfSome, List, [], ◌∷◌, ◌++◌, reverse, length, Some, None, Option, sym, refl, ap, ◌∙◌, subst, arith, add-one}
use Rattle.std.proofs.lemmas.List.{reverse-append, length-reverse}
use Rattle.std.specs.Option.{option_map}
use Rattle.std.specs.List.{range_with_len}
use Rattle.std.specs.Iterator.Adapters.{rev_source, rev_steps}
use Rattle.std.specs.declared.ops.Range.{Range}
use Rattle.std.proofs.lemmas.Iterator.{YieldsList}
use Rattle.std.proofs.lemmas.Iterator.Consumers.{YieldsList-from_shown}
use Rattle.std.specs.Range.{range_steps_back}
use Rattle.column.specs.Columns.{count_up}

pub itself : {X : Type 0} (o : Option X) → option_map (λ x. x) o ≡ o
itself None = refl
itself (Some x) = refl

pub same_ranges : (s n : ℕ) → range_with_len s n ≡ count_up s n
same_ranges s zero = refl
same_ranges s (suc n) = ap (λ l. s ∷ l) (ap (λ k. range_with_len k n) (add-one s) ∙ same_ranges (suc s) n)

pub some_within : (A : Type 0) (n : ℕ) (o : Option ℕ) → MatchOption o A (λ i. (0 ≤ i) × (i < n) × Unit {0} × ((k : ℕ) → 0 ≤ k → k < i → Unit {0})) → IfSome o (λ i. i < n)
some_within A n None h = tt
some_within A n (Some i) h = h.1

pub count_push : (s n : ℕ) → count_up s (suc n) ≡ count_up s n ++ (s + n) ∷ []
count_push s zero = ap (λ k. k ∷ []) (let z : s ≡ s + 0 = omega arith in z)
count_push s (suc n) = ap (λ l. s ∷ l) (count_push (suc s) n ∙ ap (λ k. count_up (suc s) n ++ k ∷ []) (let z : suc s + n ≡ s + suc n = omega arith in z))

length_count : (s n : ℕ) → length (count_up s n) ≡ n
length_count s zero = refl
length_count s (suc n) = let l = length_count (suc s) n in omega arith

-- the numbers of a range, the last first
abbrev numbers_back : Range ℕ → List ℕ
numbers_back r = reverse (count_up r.start (r.end - r.start))

none_left : (r : Range ℕ) → r.end - r.start ≡ 0 → length (numbers_back r) ≡ 0
none_left r e = length-reverse (count_up r.start (r.end - r.start)) ∙ length_count r.start (r.end - r.start) ∙ e

one_less : (r t : Range ℕ) (x : ℕ) → t.start ≡ r.start → 0 < r.end - r.start → x ≡ t.end → r.end ≡ t.end + 1 → numbers_back r ≡ x ∷ numbers_back t
one_less r t x a b c d =
    let n : r.end - r.start ≡ suc (t.end - t.start) = omega (arith, a, b, d) in
    let z : r.start + (t.end - t.start) ≡ x = omega (arith, a, b, c, d) in
    ap (λ k. reverse (count_up r.start k)) n ∙ ap reverse (count_push r.start (t.end - t.start)) ∙ reverse-append (count_up r.start (t.end - t.start)) ((r.start + (t.end - t.start)) ∷ [])
    ∙ ap (λ k. k ∷ reverse (count_up r.start (t.end - t.start))) z ∙ ap (λ k. x ∷ reverse (count_up k (t.end - t.start))) (sym a)

-- how `next_back` goes through it
abbrev pub goes_back : Range ℕ → Option ℕ → Range ℕ → Type 0
goes_back = range_steps_back (λ a b. b - a) (λ a b. b ≡ a + 1)

pub yields_back : {s : _} (n : ℕ) → rev_source {I = Range ℕ} s ≡ record { start = 0; end = n } → YieldsList (rev_steps goes_back) (λ x. x) s (reverse (count_up 0 n))
yields_back {s} n e =
    let z : n - 0 ≡ n = omega arith in
    subst (λ k. YieldsList (rev_steps goes_back) (λ x. x) s (reverse (count_up 0 k))) z (subst (λ r. YieldsList (rev_steps goes_back) (λ x. x) s (numbers_back r)) e
    (YieldsList-from_shown (rev_steps goes_back) (λ x. x) (λ u. numbers_back (rev_source u)) (λ u t p. none_left (rev_source u) p.1.0)
    (λ u x t p. one_less (rev_source u) (rev_source t) x p.0 p.1.0 p.1.1 p.1.2) s))
