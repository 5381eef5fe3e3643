-- Truth values, eight by eight.
use Rattle.std.proofs.Common.{◌≡◌, ℕ, zero, suc, ◌+◌, ◌*◌, ◌/◌, ◌<◌, ◌≤◌, min, Bool, List, [], ◌∷◌, ◌++◌, map, length, take, drop, sym, refl, ap, ◌∙◌, arith, length-append, append-nil, subst}
use Rattle.std.proofs.lemmas.List.{take-append-le, take_all}
use Rattle.std.specs.List.{range_with_len as counting}
use Rattle.std.specs.Slice.Iter.{chunks_steps, chunks_rest, chunks_size}
use Rattle.std.specs.declared.slice.Chunks.{Chunks}
use Rattle.std.proofs.Math.Seq.{drop-append-add}
use Rattle.std.proofs.lemmas.Iterator.{YieldsList}
use Rattle.std.proofs.lemmas.Iterator.Splits.{YieldsList-from_shown_while}
use Rattle.std.proofs.lemmas.List.FromFn.{length-map-range_with_len}
use Rattle.column.specs.Columns.{part}
use Rattle.layout.specs.Layout.{binary, packed}
use Rattle.layout.proofs.Packing.{packed_counting}

-- the truth values, eight by eight
abbrev pub eights : List Bool → List (List Bool)
eights bs = map (λ j. part (8 * j) 8 bs) (counting 0 ((length bs + 7) / 8))

-- what lies behind the first eight is counted one later
later : (x t : List Bool) (a n : ℕ) → length x ≡ 8 → map (λ j. part (8 * j) 8 (x ++ t)) (counting (a + 1) n) ≡ map (λ j. part (8 * j) 8 t) (counting a n)
later x t a zero e = refl
later x t a (suc n) e =
    let at : 8 * (a + 1) ≡ length x + 8 * a = omega arith in
    let here : part (8 * (a + 1)) 8 (x ++ t) ≡ part (8 * a) 8 t = ap (λ k. take 8 (drop k (x ++ t))) at ∙ ap (take 8) (drop-append-add x t (8 * a)) in
    ap (λ p. p ∷ map (λ j. part (8 * j) 8 (x ++ t)) (counting (a + 1 + 1) n)) here ∙ ap (λ ps. part (8 * a) 8 t ∷ ps) (later x t (a + 1) n e)

-- the first up to eight, and then the others
split : (x t : List Bool) → length x ≤ 8 → (0 < length t → length x ≡ 8) → part 0 8 (x ++ t) ∷ map (λ j. part (8 * j) 8 (x ++ t)) (counting 1 ((length t + 7) / 8)) ≡ x ∷ eights t
split x [] short full = ap (λ p. p ∷ []) (ap (take 8) (append-nil x) ∙ take_all 8 x short)
split x (y ∷ ys) short full =
    let e : length x ≡ 8 = full (omega arith) in
    let first : part 0 8 (x ++ y ∷ ys) ≡ x = take-append-le 8 x (y ∷ ys) (omega arith) ∙ take_all 8 x short in
    ap (λ p. p ∷ map (λ j. part (8 * j) 8 (x ++ y ∷ ys)) (counting 1 ((length (y ∷ ys) + 7) / 8))) first ∙ ap (λ ps. x ∷ ps) (later x (y ∷ ys) 0 ((length (y ∷ ys) + 7) / 8) e)

first_eight : (bs x t : List Bool) → bs ≡ x ++ t → length x ≡ min 8 (length bs) → 0 < length bs → eights bs ≡ x ∷ eights t
first_eight bs x t is size some =
    let long : length bs ≡ length x + length t = ap length is ∙ length-append x t in
    let one_more : (length bs + 7) / 8 ≡ suc ((length t + 7) / 8) = omega arith in
    ap (λ n. map (λ j. part (8 * j) 8 bs) (counting 0 n)) one_more
    ∙ ap (λ b. part 0 8 b ∷ map (λ j. part (8 * j) 8 b) (counting 1 ((length t + 7) / 8))) is
    ∙ split x t (omega arith) (λ more. omega arith)

-- chunks of eight come so
pub eights-from_chunks : {s : Chunks Bool} (bs : List Bool) → chunks_rest s ≡ bs → chunks_size s ≡ 8 → YieldsList (chunks_steps {A = Bool}) (λ x. x.now) s (eights bs)
eights-from_chunks {s} bs rest size =
    subst (λ b. YieldsList (chunks_steps {A = Bool}) (λ x. x.now) s (eights b)) rest
    (YieldsList-from_shown_while (chunks_steps {A = Bool}) (λ x. x.now) (λ s. eights (chunks_rest s)) (λ s. chunks_size s ≡ 8)
    (λ s t eight h. length-map-range_with_len (λ j. part (8 * j) 8 (chunks_rest s)) 0 ((length (chunks_rest s) + 7) / 8) ∙ ap (λ n. (n + 7) / 8) h.1.0)
    (λ s x t eight h. (h.0 ∙ eight, first_eight (chunks_rest s) x.now (chunks_rest t) h.1.0 (h.1.1 ∙ ap (λ n. min n (length (chunks_rest s))) eight) h.1.2))
    s size)

-- a byte for each eight
pub packed-eights : (bs : List Bool) → map binary (eights bs) ≡ packed bs
packed-eights bs = go (counting 0 ((length bs + 7) / 8)) ∙ sym (packed_counting bs)
  where
    go : (js : List ℕ) → map binary (map (λ j. part (8 * j) 8 bs) js) ≡ map (λ j. binary (part (8 * j) 8 bs)) js
    go [] = refl
    go (j ∷ js) = ap (λ rest. binary (part (8 * j) 8 bs) ∷ rest) (go js)
