-- A list of numbers as text, one more at a time.
use Rattle.std.proofs.Common.{◌≡◌, ℕ, ◌+◌, ◌<◌, false, cond, eqb, List, [], ◌∷◌, ◌++◌, length, get_or, take, sym, ap, ◌∙◌, append_assoc, append-nil, arith}
use Rattle.std.specs.List.{flat_map, join_by}
use Rattle.std.proofs.lemmas.Bool.Decides.{nat_tests}
use Rattle.std.proofs.lemmas.List.{take_more, flat_map_more, length-take-le}

-- what stands in front of a list's number i
abbrev pub lead : List ℕ → ℕ → List ℕ
lead sep i = cond (eqb i 0) [] sep

-- one more text behind those of a list
joined_more : (f : ℕ → List ℕ) (sep xs : List ℕ) (x : ℕ) → join_by f sep (xs ++ x ∷ []) ≡ join_by f sep xs ++ (lead sep (length xs) ++ f x)
joined_more f sep [] x = append-nil (f x)
joined_more f sep (y ∷ ys) x =
    let behind : eqb (length (y ∷ ys)) 0 ≡ false = grind (arith, nat_tests) in
    rw behind (sym (flat_map_more (λ z. sep ++ f z) (f y) ys x))

-- the step of a loop that writes a list
pub grown : (f : ℕ → List ℕ) (sep xs : List ℕ) (i : ℕ) (start : List ℕ) {was space then now : List ℕ} → i < length xs → was ≡ start ++ join_by f sep (take i xs)
    → space ≡ lead sep i → then ≡ was ++ space → now ≡ then ++ f (get_or xs i 0) → now ≡ start ++ join_by f sep (take (i + 1) xs)
grown f sep xs i start h is leads behind ends =
    let x = get_or xs i 0 in
    let j = join_by f sep (take i xs) in
    let n = length-take-le i xs (omega arith) in
    let more = ap (join_by f sep) (take_more xs i 0 h) ∙ joined_more f sep (take i xs) x ∙ ap (λ k. j ++ (lead sep k ++ f x)) n in
    cc (more, append_assoc start j (lead sep i ++ f x), append_assoc (start ++ j) (lead sep i) (f x))

-- the step of a loop that writes something for each item
pub spread : (f : ℕ → List ℕ) (xs : List ℕ) (i : ℕ) (start : List ℕ) {was now : List ℕ} → i < length xs → was ≡ start ++ flat_map f (take i xs)
    → now ≡ was ++ f (get_or xs i 0) → now ≡ start ++ flat_map f (take (i + 1) xs)
spread f xs i start h is ends =
    let more = ap (λ ys. start ++ flat_map f ys) (take_more xs i 0 h) in
    cc (more, flat_map_more f start (take i xs) (get_or xs i 0))
