-- One more element or part written where the front of a buffer ends.
use Rattle.std.proofs.Common.{◌≡◌, ℕ, ◌+◌, ◌*◌, ◌<◌, List, [], ◌∷◌, ◌++◌, length, get_or, take, drop, set, sym, ap, ◌∙◌, append_assoc, arith, length-append}
use borrow.Rule.Slice.PartMut.{put_mid}
use Rattle.std.specs.List.{flat_map}
use Rattle.std.proofs.lemmas.List.{length-take-le, take_more, flat_map_more, set_at, take_at, drop_at, drop-drop, drop_more, length_push}
use Rattle.layout.specs.Layout.{over}

pub over_push : (p xs : List ℕ) (i y : ℕ) → length p ≡ i → i < length xs → set (over p xs) i y ≡ over (p ++ y ∷ []) xs
over_push p xs i y e h =
    rw (drop_more xs (length p) y (rw e h), set_at p (get_or xs (length p) y) (drop (length p + 1) xs) y i e, append_assoc, length_push)

pub over_part : (p q xs : List ℕ) (i k : ℕ) → length p ≡ i → length q ≡ k → put_mid i k (over p xs) q ≡ over (p ++ q) xs
over_part p q xs i k e f =
    rw (take_at p (drop (length p) xs) i e, drop_at p (drop (length p) xs) i e, drop-drop, ← f, append_assoc, length-append)

-- parts of one length, joined
pub joined_length : {X A : Type 0} (f : X → List A) (w : ℕ) → ((x : X) → length (f x) ≡ w) → (xs : List X) → length (flat_map f xs) ≡ w * length xs
joined_length f w h [] = omega arith
joined_length f w h (x ∷ xs) = let ih = joined_length f w h xs in let e = h x in simp length-append (omega arith)

-- the parts that a function gives by the element, one more of them
pub joined_more : {X A : Type 0} (f : X → List A) (cs : List X) (d : X) (i : ℕ) → i < length cs → flat_map f (take (i + 1) cs) ≡ flat_map f (take i cs) ++ f (get_or cs i d)
joined_more f cs d i h = ap (flat_map f) (take_more cs i d h) ∙ sym (flat_map_more f [] (take i cs) (get_or cs i d))

-- one more of the parts of one length that a function gives by the element, behind something of a length of its own
pub over_joined : {X : Type 0} (f : X → List ℕ) (w : ℕ) → ((c : X) → length (f c) ≡ w) → (h : List ℕ) (cs : List X) (d : X) (xs ys : List ℕ) (at i k : ℕ)
    → i < length cs → at ≡ length h + w * i → k ≡ w → ys ≡ f (get_or cs i d) → put_mid at k (over (h ++ flat_map f (take i cs)) xs) ys ≡ over (h ++ flat_map f (take (i + 1) cs)) xs
over_joined f w all h cs d xs ys at i k l a e y =
    over_part (h ++ flat_map f (take i cs)) ys xs at k
    (length-append h (flat_map f (take i cs)) ∙ ap (λ n. length h + n) (joined_length f w all (take i cs) ∙ ap (λ n. w * n) (length-take-le i cs (omega arith))) ∙ sym a)
    (ap length y ∙ all (get_or cs i d) ∙ sym e)
    ∙ ap (λ p. over p xs)
    (append_assoc h (flat_map f (take i cs)) ys
    ∙ ap (λ p. h ++ p) (ap (λ z. flat_map f (take i cs) ++ z) y ∙ sym (joined_more f cs d i l)))
