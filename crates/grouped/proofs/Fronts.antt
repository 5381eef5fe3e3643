-- The front of a fixed table, of which the first so many elements count, after a drop and a growth.
use Rattle.std.proofs.Common.{◌≡◌, ℕ, ◌+◌, ◌-◌, ◌≤◌, List, ◌++◌, length, take, drop, replicate, sym, ap, ◌∙◌, arith}
use Rattle.std.proofs.lemmas.List.{length-take-le, length-drop, take_at, drop-take, length-replicate}
use Rattle.std.proofs.lemmas.Slice.{take-put_mid}
use Rattle.std.specs.List.{copy_within}
use borrow.Rule.Slice.PartMut.{put_mid}

-- the front without its first n, moved to the start
pub front_moved : {X : Type 0} (xs : List X) (len n : ℕ) → n ≤ len → len ≤ length xs → take (len - n) (copy_within xs n len 0) ≡ drop n (take len xs)
front_moved xs len n h l =
    let d = length-drop n xs in
    take_at (take (len - n) (drop n xs)) (drop (0 + (len - n)) xs) (len - n) (length-take-le (len - n) (drop n xs) (omega arith))
    ∙ sym (drop-take n (len - n) xs)
    ∙ ap (λ k. drop n (take k xs)) (let z : n + (len - n) ≡ len = omega arith in z)

-- the places from len up to the total, written over by x
pub front_filled : {X : Type 0} (xs ys : List X) (x : X) (len total : ℕ) → len ≤ total → total ≤ length xs → ys ≡ replicate (length (take (total - len) (drop len xs))) x
    → take total (put_mid len (total - len) xs ys) ≡ take len xs ++ replicate (total - len) x
front_filled xs ys x len total h l e =
    let d = length-drop len xs in
    let q = e ∙ ap (λ k. replicate k x) (length-take-le (total - len) (drop len xs) (omega arith)) in
    let m = ap length q ∙ length-replicate (total - len) x in
    take-put_mid len (total - len) xs ys total (omega arith) (omega arith) ∙ ap (λ r. take len xs ++ r) q
