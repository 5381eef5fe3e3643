-- Eight bytes compare as the number that they spell, the greatest first.
use Rattle.std.proofs.Common.{◌≡◌, ℕ, zero, suc, Bool, true, false, not, ◌+◌, ◌*◌, ◌%◌, ◌<◌, ◌≤◌, List, [], ◌∷◌, length, take, drop, Ordering, Less, Equal, Greater, w64, sym, refl, ap, ap₂, ◌∙◌, arith}
use Rattle.std.specs.Bool.{◌==◌}
use Rattle.std.specs.Cmp.Lexicographic.{slice_cmp}
use Rattle.std.specs.Int.{from_be_bytes}
use Rattle.std.specs.Ordering.{nat_cmp, ordering_then, ordering_index}
use Rattle.std.specs.Slice.Scan.{big_endian}
use Rattle.column.specs.Columns.{octets}
use Rattle.std.proofs.lemmas.Bool.{false≢true}
use Rattle.std.proofs.lemmas.List.{length-take-le}
use Rattle.std.proofs.lemmas.Bool.Decides.{nat_tests}

byte_more : (a b u v : ℕ) → u < 256 → v < 256 → nat_cmp (a * 256 + u) (b * 256 + v) ≡ ordering_then (nat_cmp a b) (nat_cmp u v)
byte_more a b u v h k = grind (arith, nat_tests)

then_then : (o p q : Ordering) → ordering_then (ordering_then o p) q ≡ ordering_then o (ordering_then p q)
then_then Less p q = refl
then_then Equal p q = refl
then_then Greater p q = refl

pub front_spelt : (n : ℕ) (xs ys : List ℕ) (a b : ℕ) → n ≤ length xs → n ≤ length ys → octets xs ≡ xs → octets ys ≡ ys
    → ordering_then (nat_cmp (big_endian a (take n xs)) (big_endian b (take n ys))) (slice_cmp nat_cmp (drop n xs) (drop n ys)) ≡ ordering_then (nat_cmp a b) (slice_cmp nat_cmp xs ys)
front_spelt zero xs ys a b h k f g = refl
front_spelt (suc n) [] ys a b h k f g = absurd (omega arith)
front_spelt (suc n) (x ∷ xs) [] a b h k f g = absurd (omega arith)
front_spelt (suc n) (x ∷ xs) (y ∷ ys) a b h k f g =
    let u : x % 256 ≡ x = cc in
    let v : y % 256 ≡ y = cc in
    front_spelt n xs ys (a * 256 + x) (b * 256 + y) (omega arith) (omega arith) (cc) (cc)
    ∙ ap (λ o. ordering_then o (slice_cmp nat_cmp xs ys)) (byte_more a b x y (omega arith) (omega arith))
    ∙ then_then (nat_cmp a b) (nat_cmp x y) (slice_cmp nat_cmp xs ys)

pub eight_spelt : (xs : List ℕ) → length xs ≡ 8 → from_be_bytes w64 xs ≡ big_endian 0 xs
eight_spelt [] h = absurd (omega arith)
eight_spelt (a ∷ []) h = absurd (omega arith)
eight_spelt (a ∷ b ∷ []) h = absurd (omega arith)
eight_spelt (a ∷ b ∷ c ∷ []) h = absurd (omega arith)
eight_spelt (a ∷ b ∷ c ∷ d ∷ []) h = absurd (omega arith)
eight_spelt (a ∷ b ∷ c ∷ d ∷ e ∷ []) h = absurd (omega arith)
eight_spelt (a ∷ b ∷ c ∷ d ∷ e ∷ f ∷ []) h = absurd (omega arith)
eight_spelt (a ∷ b ∷ c ∷ d ∷ e ∷ f ∷ g ∷ []) h = absurd (omega arith)
eight_spelt (a ∷ b ∷ c ∷ d ∷ e ∷ f ∷ g ∷ i ∷ []) h = omega arith
eight_spelt (a ∷ b ∷ c ∷ d ∷ e ∷ f ∷ g ∷ i ∷ j ∷ xs) h = absurd (omega arith)

-- what the code's comparison of the first eight bytes says, and of the others where these are the same
module _ (xs ys fs gs : List ℕ) (x y : ℕ) (here : Ordering) (h : 8 ≤ length xs) (k : 8 ≤ length ys) (o : octets xs ≡ xs) (q : octets ys ≡ ys)
    (f : fs ≡ take 8 xs) (g : gs ≡ take 8 ys) (m : x ≡ from_be_bytes w64 fs) (n : y ≡ from_be_bytes w64 gs) (e : here ≡ nat_cmp x y) where
  spelt : ordering_then here (slice_cmp nat_cmp (drop 8 xs) (drop 8 ys)) ≡ slice_cmp nat_cmp xs ys
  spelt =
      let a = ap length f ∙ length-take-le 8 xs h in
      let b = ap length g ∙ length-take-le 8 ys k in
      ap (λ p. ordering_then p (slice_cmp nat_cmp (drop 8 xs) (drop 8 ys))) (e ∙ ap₂ nat_cmp (m ∙ eight_spelt fs a ∙ ap (big_endian 0) f) (n ∙ eight_spelt gs b ∙ ap (big_endian 0) g))
      ∙ front_spelt 8 xs ys 0 0 h k o q

  pub order_apart : (t : Bool) → t ≡ not (ordering_index here == 1) → t ≡ true → here ≡ slice_cmp nat_cmp xs ys
  order_apart t d c = go here (sym d ∙ c) ∙ spelt
    where
      go : (p : Ordering) → not (ordering_index p == 1) ≡ true → p ≡ ordering_then p (slice_cmp nat_cmp (drop 8 xs) (drop 8 ys))
      go Less w = refl
      go Equal w = absurd (false≢true w)
      go Greater w = refl

  pub order_alike : (t : Bool) → t ≡ not (ordering_index here == 1) → t ≡ false → slice_cmp nat_cmp (drop 8 xs) (drop 8 ys) ≡ slice_cmp nat_cmp xs ys
  order_alike t d c = go here (sym d ∙ c) ∙ spelt
    where
      go : (p : Ordering) → not (ordering_index p == 1) ≡ false → slice_cmp nat_cmp (drop 8 xs) (drop 8 ys) ≡ ordering_then p (slice_cmp nat_cmp (drop 8 xs) (drop 8 ys))
      go Less w = absurd (false≢true (sym w))
      go Equal w = refl
      go Greater w = absurd (false≢true (sym w))
