-- The middle of a fixed table, of which so many elements from a place on count, after a drop, a growth, a move and a set.
use Rattle.std.proofs.Common.{◌≡◌, ℕ, zero, suc, ◌+◌, ◌-◌, ◌<◌, ◌≤◌, List, [], ◌∷◌, ◌++◌, map, length, get_or, take, drop, set, replicate, Option, Some, None, sym, refl, ap, ◌∙◌, ap₂, arith}
use Rattle.std.proofs.lemmas.List.{length-take-le, length-drop, drop-take, length-replicate, length-map, map-append, drop-map, append_assoc, take_more, set-append_right, drop-drop, drop-append-le, drop-set-add}
use Rattle.std.proofs.lemmas.Slice.{take-put_mid}
use borrow.Rule.Slice.PartMut.{put_mid}
use Rattle.column.specs.Cells.{Kind, Cell, null}
use Rattle.column.specs.Checks.{unless_refused}
use Rattle.tables.specs.Refusals.{growing, grown_entries, dropping}

-- the middle without its first n
pub middle_dropped : {X : Type 0} (xs : List X) (start len n : ℕ) → n ≤ len → take (len - n) (drop (start + n) xs) ≡ drop n (take len (drop start xs))
middle_dropped xs start len n h =
    ap (take (len - n)) (sym (drop-drop n start xs))
    ∙ sym (drop-take n (len - n) (drop start xs))
    ∙ ap (λ k. drop n (take k (drop start xs))) (let z : n + (len - n) ≡ len = omega arith in z)

-- the places behind the middle up to a total, written over by x
pub middle_filled : {X : Type 0} (xs ys : List X) (x : X) (start len total : ℕ) → len ≤ total → start + total ≤ length xs → ys ≡ replicate (length (take ((start + total) - (start + len)) (drop (start + len) xs))) x
    → take total (drop start (put_mid (start + len) ((start + total) - (start + len)) xs ys)) ≡ take len (drop start xs) ++ replicate (total - len) x
middle_filled xs ys x start len total h l e =
    let d = length-drop (start + len) xs in
    let f = length-take-le (start + len) xs (omega arith) in
    let z : (start + total) - (start + len) ≡ total - len = omega arith in
    let q = e ∙ ap (λ k. replicate k x) (length-take-le ((start + total) - (start + len)) (drop (start + len) xs) (omega arith) ∙ z) in
    let m = ap length q ∙ length-replicate (total - len) x in
    sym (drop-take start total (put_mid (start + len) ((start + total) - (start + len)) xs ys))
    ∙ ap (drop start) (take-put_mid (start + len) ((start + total) - (start + len)) xs ys (start + total) (omega arith) (omega arith))
    ∙ drop-append-le start (take (start + len) xs) ys (omega arith)
    ∙ ap₂ (λ a b. a ++ b) (drop-take start len xs) q

pub front_set : {X : Type 0} (xs : List X) (len g : ℕ) (x : X) → g < len → take len (set xs g x) ≡ set (take len xs) g x
front_set [] zero g x h = refl
front_set [] (suc len) g x h = refl
front_set (y ∷ xs) zero g x h = absurd (omega arith)
front_set (y ∷ xs) (suc len) zero x h = refl
front_set (y ∷ xs) (suc len) (suc g) x h = ap (λ l. y ∷ l) (front_set xs len g x (omega arith))

pub middle_set : {X : Type 0} (xs : List X) (start len g : ℕ) (x : X) → g < len → take len (drop start (set xs (start + g) x)) ≡ set (take len (drop start xs)) g x
middle_set xs start len g x h = ap (take len) (drop-set-add start xs g x) ∙ front_set (drop start xs) len g x h

mapped : {F X Y : Type 0} (f : X → Y) (o : Option F) (new old : List X) → map f (unless_refused o new old) ≡ unless_refused o (map f new) (map f old)
mapped f None new old = refl
mapped f (Some r) new old = refl

-- The entries of a table whose elements stand for an entry each, after the table's own calls

pub held_dropped : {X Y : Type 0} (f : X → Y) (xs ys : List X) (n : ℕ) → ys ≡ unless_refused (dropping (length xs) n) (drop n xs) xs
    → map f ys ≡ unless_refused (dropping (length (map f xs)) n) (drop n (map f xs)) (map f xs)
held_dropped f xs ys n e =
    ap (map f) e
    ∙ mapped f (dropping (length xs) n) (drop n xs) xs
    ∙ ap₂ (λ k zs. unless_refused (dropping k n) zs (map f xs)) (sym (length-map xs f)) (sym (drop-map f n xs))

pub held_grown : {X : Type 0} (f : X → List Cell) (ks : List Kind) (xs ys : List X) (x : X) (total : ℕ) → f x ≡ map (λ k. null) ks → ys ≡ unless_refused (growing (length xs) total) (xs ++ replicate (total - length xs) x) xs
    → map f ys ≡ unless_refused (growing (length (map f xs)) total) (grown_entries ks (map f xs) total) (map f xs)
held_grown {X = X} f ks xs ys x total e g =
    ap (map f) g
    ∙ mapped f (growing (length xs) total) (xs ++ replicate (total - length xs) x) xs
    ∙ ap (λ zs. unless_refused (growing (length xs) total) zs (map f xs)) (map-append f xs (replicate (total - length xs) x) ∙ ap (λ r. map f xs ++ r) (each (total - length xs) ∙ ap (replicate (total - length xs)) e))
    ∙ ap (λ k. unless_refused (growing k total) (map f xs ++ replicate (total - k) (map (λ k. null) ks)) (map f xs)) (sym (length-map xs f))
  where
    each : (n : ℕ) → map f (replicate n x) ≡ replicate n (f x)
    each zero = refl
    each (suc n) = ap (λ r. f x ∷ r) (each n)

-- An array of x that is filled front to back with the elements of a list

pub gather_next : {X : Type 0} (xs ys : List X) (x d : X) (m i : ℕ) → i < length xs → i < m → ys ≡ take i xs ++ replicate (m - i) x → set ys i (get_or xs i d) ≡ take (i + 1) xs ++ replicate (m - (i + 1)) x
gather_next xs ys x d m i h l e =
    let y = get_or xs i d in
    let r = replicate (m - (i + 1)) x in
    ap (λ z. set z i y) e
    ∙ set-append_right (take i xs) (replicate (m - i) x) i i y (length-take-le i xs (omega arith)) (omega arith)
    ∙ ap₂ (λ n k. take i xs ++ set (replicate n x) k y) (let z : m - i ≡ suc (m - (i + 1)) = omega arith in z) (let z : i - i ≡ 0 = omega arith in z)
    ∙ sym (append_assoc (take i xs) (y ∷ []) r)
    ∙ ap (λ z. z ++ r) (sym (take_more xs i d h))
