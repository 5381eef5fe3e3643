-- The words of a text, one after another.
use Rattle.std.proofs.Common.{◌≡◌, ◌≢◌, ℕ, suc, ◌+◌, Bool, true, false, ◌⊎◌, inl, inr, List, [], ◌∷◌, ◌++◌, length, take, drop, Option, Some, None, sym, refl, ap, ◌∙◌, arith, lit<, append_assoc, append-nil}
use Rattle.std.specs.Prelude.{if◌then◌else◌, ◌==◌, MatchOption, unwrap_or}
use Rattle.std.specs.Str.Pattern.{FindsCharPrefix, CutsPrefixes, IsFullyTrimmed, IsTrimStartMatches, StripsPrefix}
use Rattle.std.proofs.lemmas.Bool.{eqb-true}
use Rattle.std.proofs.lemmas.Str.Pattern.{strip_prefix_char}
use Rattle.std.proofs.lemmas.Str.{encode_ascii}
use Rattle.scenario.specs.Words.{parts, deeper, word_length, finished, words_from, words}
use denote.Ref.{Bor}

-- where a byte is read: either it ends the word, or it is the word's next
read_byte : (v : Bool) (w : List ℕ) (b : ℕ) (bs : List ℕ) (n : ℕ) (more : List (List ℕ)) → more ≡ finished ((w ++ b ∷ []) ++ take n bs) (words (drop (n + 1) bs))
    → (if v then finished w (words bs) else more) ≡ finished (w ++ take (if v then 0 else suc n) (b ∷ bs)) (words (drop ((if v then 0 else suc n) + 1) (b ∷ bs)))
read_byte true w b bs n more h = ap (λ u. finished u (words bs)) (sym (append-nil w))
read_byte false w b bs n more h =
    let e : suc (n + 1) ≡ suc n + 1 = omega arith in
    h ∙ ap (λ u. finished u (words (drop (n + 1) bs))) (append_assoc w (b ∷ []) (take n bs)) ∙ ap (λ k. finished (w ++ (b ∷ take n bs)) (words (drop k (b ∷ bs)))) e

-- the word that has begun, up to where it ends, and then the words of what follows the space behind it
pub words_from-is : (w : List ℕ) (d : ℕ) (t : List ℕ) → words_from w d t ≡ finished (w ++ take (word_length d t) t) (words (drop (word_length d t + 1) t))
words_from-is w d [] = ap (λ u. finished u []) (sym (append-nil w))
words_from-is w d (b ∷ bs) = read_byte (parts d b) w b bs (word_length (deeper d b) bs) _ (words_from-is (w ++ b ∷ []) (deeper d b) bs)

-- a space stands where a byte parts words
space : (d b : ℕ) → parts d b ≡ true → b ≡ 32
space d b h = grind arith

-- a word ends where the text does, or at a space
Ends : ℕ → List ℕ → Type 0
Ends n t = ((drop n t ≡ []) × (drop (n + 1) t ≡ [])) ⊎ (drop n t ≡ 32 ∷ drop (n + 1) t)

ends_behind : (v : Bool) (d b : ℕ) (bs : List ℕ) (n : ℕ) → parts d b ≡ v → Ends n bs → Ends (if v then 0 else suc n) (b ∷ bs)
unfolding Ends
ends_behind true d b bs n is h = inr (ap (λ x. x ∷ bs) (space d b is))
ends_behind false d b bs n is h = let e : suc n + 1 ≡ suc (n + 1) = omega arith in rw e h

ends : (d : ℕ) (t : List ℕ) → Ends (word_length d t) t
unfolding Ends
ends d [] = inl (refl, refl)
ends d (b ∷ bs) = ends_behind (parts d b) d b bs (word_length (deeper d b) bs) refl (ends (deeper d b) bs)

-- what follows a word without the space in front, if there is one
pub stripped : (d : ℕ) (t bs : List ℕ) (r : Option (Bor (List ℕ))) (none : Bor (List ℕ)) → bs ≡ drop (word_length d t) t
    → MatchOption r (FindsCharPrefix 32 bs None) (λ x. StripsPrefix (FindsCharPrefix 32) bs x.now) → none.now ≡ [] → (unwrap_or r none).now ≡ drop (word_length d t + 1) t
unfolding Ends
stripped d t bs r none is h e = go (word_length d t) r is (strip_prefix_char 32 bs r h (lit< tt)) (ends d t)
  where
    go : (n : ℕ) (r : Option (Bor (List ℕ))) → bs ≡ drop n t → MatchOption r ((rest : List ℕ) → bs ≢ 32 ∷ rest) (λ x. bs ≡ 32 ∷ x.now) → Ends n t
        → (unwrap_or r none).now ≡ drop (n + 1) t
    go n None is h (inl p) = e ∙ sym p.1
    go n None is h (inr p) = absurd (h _ (is ∙ p))
    go n (Some x) is h (inl p) = cc
    go n (Some x) is h (inr p) = cc

-- a text without the spaces in front of it has the same words
cut_spaces : (ns s r : List ℕ) → CutsPrefixes (FindsCharPrefix 32) s ns r → words r ≡ words s
cut_spaces [] s r h = ap words h
cut_spaces (n ∷ ns) s r (m, before, at, is) =
    let begins : m ≡ 32 ∷ drop n m = at.split ∙ ap (λ c. c ++ drop n m) (encode_ascii 32 (lit< tt)) in
    ap words is ∙ sym (ap words begins) ∙ cut_spaces ns s m before

pub trimmed : (s r : List ℕ) → IsTrimStartMatches (FindsCharPrefix 32) s r → words s ≡ words r
trimmed s r h = sym (cut_spaces h.0.0 s r h.0.1)

-- no space stands in front of what is left
no_space : (r : List ℕ) → IsFullyTrimmed (FindsCharPrefix 32) r → (rest : List ℕ) → r ≢ 32 ∷ rest
no_space r (None, h, e) rest is = h rest (is ∙ sym (ap (λ c. c ++ rest) (encode_ascii 32 (lit< tt))))
no_space r (Some n, h, e) rest is = omega (arith, h.ends, e)

-- a text with no byte has no word
pub no_words : (t : List ℕ) → (length t == 0) ≡ true → words t ≡ []
no_words [] h = refl
no_words (b ∷ bs) h = absurd (grind (arith, eqb-true (length (b ∷ bs)) 0 h))

-- a text that begins with no space begins with a word
begins : (t : List ℕ) → (length t == 0) ≡ false → IsFullyTrimmed (FindsCharPrefix 32) t → words t ≡ take (word_length 0 t) t ∷ words (drop (word_length 0 t + 1) t)
begins [] some h = cc
begins (b ∷ bs) some h = words_from-is [] 0 (b ∷ bs) ∙ go (parts 0 b) refl
  where
    go : (v : Bool) → parts 0 b ≡ v → finished (take (if v then 0 else suc (word_length (deeper 0 b) bs)) (b ∷ bs)) (words (drop ((if v then 0 else suc (word_length (deeper 0 b) bs)) + 1) (b ∷ bs)))
        ≡ take (if v then 0 else suc (word_length (deeper 0 b) bs)) (b ∷ bs) ∷ words (drop ((if v then 0 else suc (word_length (deeper 0 b) bs)) + 1) (b ∷ bs))
    go true is = absurd (no_space (b ∷ bs) h bs (ap (λ x. x ∷ bs) (space 0 b is)))
    go false is = refl

-- the first word of a text that may begin with spaces, and the words behind it
pub first_word : (s t word rest : List ℕ) → IsTrimStartMatches (FindsCharPrefix 32) s t → (length t == 0) ≡ false → word ≡ take (word_length 0 t) t → rest ≡ drop (word_length 0 t + 1) t
    → words s ≡ word ∷ words rest
first_word s t word rest h some is follows =
    trimmed s t h ∙ begins t some h.1 ∙ sym (ap (λ w. w ∷ words rest) is ∙ ap (λ r. take (word_length 0 t) t ∷ words r) follows)
