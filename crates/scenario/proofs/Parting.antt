-- Fields and cells, one after another, and what they are read as.
use Rattle.std.proofs.Common.{◌≡◌, ◌≢◌, ℕ, ◌+◌, ◌<◌, Bool, true, false, List, [], ◌∷◌, ◌++◌, map, length, take, get_or, Ok, Err, Some, None, Option, inl, inr, sym, refl, ap, ◌∙◌, subst, append-nil, arith, lit<}
use Rattle.std.specs.Prelude.{Result, IsErr, IsErrAnd, IsOkAnd, MatchOption, codes, ◌==◌}
use Rattle.std.specs.List.{AllZip}
use Rattle.std.specs.Option.{ok_or}
use Rattle.std.specs.Str.{bytes_eq}
use Rattle.std.specs.Str.Pattern.{FindsCharSuffix, StripsSuffix}
use Rattle.std.proofs.lemmas.Bool.{eqb-true}
use Rattle.std.proofs.lemmas.List.{map-append, take_more}
use Rattle.std.proofs.lemmas.Slice.Eq.{bytes_eq-Decides}
use Rattle.std.proofs.lemmas.Str.Pattern.{IsSplitOnceResult, split_parts, strip_suffix_char}
use Rattle.scenario.specs.declared.Unread.{Unread}
use Rattle.scenario.specs.declared.Unread.TheVariants.{Malformed, OutOfMemory}
use Rattle.scenario.specs.Names.{mark_name}
use Rattle.scenario.specs.Reading.{Found, ReadsBytes}
use Rattle.scenario.specs.Texts.{IsBytes, IsBytesOrNone}
use denote.Ref.{Bor}

-- what is read so is also read as what follows from it
pub found_so : {X : Type 0} (P R : X → Type 0) (Q S : Type 0) (r : Result X Unread) → Found r P Q → ((x : X) → P x → R x) → (Q → S) → Found r R S
found_so P R Q S (Ok x) h so also = so x h
found_so P R Q S (Err Malformed) h so also = also h
found_so P R Q S (Err OutOfMemory) h so also = tt

-- a refusal, where there is a reason for it
pub refused : {Y : Type 0} (R : Y → Type 0) (S : Type 0) (G : Unread → Type 0) (q : Result Y Unread) → IsErrAnd q G → S → Found q R S
refused R S G (Ok y) passed why = absurd passed
refused R S G (Err Malformed) passed why = why
refused R S G (Err OutOfMemory) passed why = tt

-- where bytes are malformed, there are none
not_bytes : {V : Type 0} (items : V → List ℕ) (t : List ℕ) → ReadsBytes items t (Err Malformed) → (bs : List ℕ) → IsBytes t bs → ⊥
not_bytes items t h bs (digits, is, all) = let none : false ≡ true = subst IsErr all (h digits is) in cc

pub bytes_found : {V : Type 0} (items : V → List ℕ) (t : List ℕ) (r : Result V Unread) → ReadsBytes items t r → Found r (λ v. IsBytes t (items v)) ((bs : List ℕ) → IsBytes t bs → ⊥)
bytes_found items t (Ok v) h = h
bytes_found items t (Err Malformed) h = not_bytes items t h
bytes_found items t (Err OutOfMemory) h = tt

neither : (t bs : List ℕ) → bytes_eq t (codes "none") ≡ false → (IsBytes t bs → ⊥) → IsBytesOrNone t bs → ⊥
neither t bs is none (inl (same, empty)) = let also = (bytes_eq-Decides t (codes "none")).1 same in cc
neither t bs is none (inr so) = none so

-- bytes, or none for `none`
pub bytes_or_none_found : {V : Type 0} (items : V → List ℕ) (t : List ℕ) (r : Result V Unread) → (t ≡ codes "none" → IsOkAnd r (λ v. items v ≡ [])) → (t ≢ codes "none" → ReadsBytes items t r)
    → Found r (λ v. IsBytesOrNone t (items v)) ((bs : List ℕ) → IsBytesOrNone t bs → ⊥)
bytes_or_none_found {V} items t r none some = go (bytes_eq t (codes "none")) r refl none some
  where
    go : (b : Bool) (r : Result V Unread) → bytes_eq t (codes "none") ≡ b → (t ≡ codes "none" → IsOkAnd r (λ v. items v ≡ [])) → (t ≢ codes "none" → ReadsBytes items t r) → Found r (λ v. IsBytesOrNone t (items v)) ((bs : List ℕ) → IsBytesOrNone t bs → ⊥)
    go true (Ok v) is none some = let same : t ≡ codes "none" = (bytes_eq-Decides t (codes "none")).0 is in inl (same, none same)
    go true (Err e) is none some = absurd (none ((bytes_eq-Decides t (codes "none")).0 is))
    go false (Ok v) is none some = inr (some (λ same. let also = (bytes_eq-Decides t (codes "none")).1 same in cc))
    go false (Err Malformed) is none some = λ bs. neither t bs is (not_bytes items t (some (λ same. let also = (bytes_eq-Decides t (codes "none")).1 same in cc)) bs)
    go false (Err OutOfMemory) is none some = tt

-- words, of which the first are known
pub three : (a b c : List ℕ) (v w x y : List (List ℕ)) → v ≡ a ∷ w → w ≡ b ∷ x → x ≡ c ∷ y → v ≡ a ∷ b ∷ c ∷ y
three a b c v w x y first second third = cc

pub five : (a b c d e : List ℕ) (u v w x y z : List (List ℕ)) → u ≡ a ∷ v → v ≡ b ∷ w → w ≡ c ∷ x → x ≡ d ∷ y → y ≡ e ∷ z → u ≡ a ∷ b ∷ c ∷ d ∷ e ∷ z
five a b c d e u v w x y z first second third fourth fifth = cc

-- where no word is left, the words that were taken are all
pub all_taken : (P : List (List ℕ) → Type 0) (ws taken rest : List (List ℕ)) → ws ≡ taken ++ rest → rest ≡ [] → P taken → P ws
all_taken P ws taken rest is none h = subst P (sym (is ∙ ap (λ r. taken ++ r) none ∙ append-nil taken)) h

-- one place more in two lists
pub AllZip-push : {A B : Type 0} (R : A → B → Type 0) (xs : List A) (ys : List B) (x : A) (y : B) → AllZip R xs ys → R x y → AllZip R (xs ++ x ∷ []) (ys ++ y ∷ [])
AllZip-push R [] [] x y h r = (r, tt)
AllZip-push R [] (b ∷ ys) x y h r = absurd h
AllZip-push R (a ∷ xs) [] x y h r = absurd h
AllZip-push R (a ∷ xs) (b ∷ ys) x y h r = (h.0, AllZip-push R xs ys x y h.1 r)

-- one text more is read
pub texts_more : {B : Type 0} (R : List ℕ → B → Type 0) (texts : List (Bor (List ℕ))) (i : ℕ) (d : Bor (List ℕ)) (ys more : List B) (y : B) → i < length texts → AllZip R (map (λ t. t.now) (take i texts)) ys
    → R (get_or texts i d).now y → more ≡ ys ++ y ∷ [] → AllZip R (map (λ t. t.now) (take (i + 1) texts)) more
texts_more R texts i d ys more y some so_far next is =
    let taken : map (λ t. t.now) (take (i + 1) texts) ≡ map (λ t. t.now) (take i texts) ++ (get_or texts i d).now ∷ [] = ap (map (λ t. t.now)) (take_more texts i d some) ∙ map-append (λ t. t.now) (take i texts) (get_or texts i d ∷ []) in
    rw (taken, is) (AllZip-push R (map (λ t. t.now) (take i texts)) ys (get_or texts i d).now y so_far next)

-- the words are the names of these cells, of which the bits and whether they are known are these
abbrev pub AreMarks : List (Bor (List ℕ)) → List Bool → List Bool → Type 0
AreMarks ws bits there = (cs : List (Bool × Bool)) × (map (λ w. w.now) ws ≡ map (λ c. mark_name c.0 c.1) cs) × (bits ≡ map (λ c. c.0) cs) × (there ≡ map (λ c. c.1) cs)

pub marks_more : (ws : List (Bor (List ℕ))) (w : Bor (List ℕ)) (bits there more_bits more_there : List Bool) (bit known : Bool) → AreMarks ws bits there
    → w.now ≡ mark_name bit known → more_bits ≡ bits ++ bit ∷ [] → more_there ≡ there ++ known ∷ [] → AreMarks (ws ++ w ∷ []) more_bits more_there
marks_more ws w bits there more_bits more_there bit known (cs, names, firsts, seconds) is b t = (
  cs ++ (bit, known) ∷ [],
  map-append (λ w. w.now) ws (w ∷ []) ∙ ap (λ ns. ns ++ w.now ∷ []) names ∙ ap (λ n. map (λ c. mark_name c.0 c.1) cs ++ n ∷ []) is ∙ sym (map-append (λ c. mark_name c.0 c.1) cs ((bit, known) ∷ [])),
  b ∙ ap (λ bs. bs ++ bit ∷ []) firsts ∙ sym (map-append (λ c. c.0) cs ((bit, known) ∷ [])),
  t ∙ ap (λ bs. bs ++ known ∷ []) seconds ∙ sym (map-append (λ c. c.1) cs ((bit, known) ∷ [])),
)

-- a text that is parted at a bracket and ends with another
pub bracketed : (t : List ℕ) (r : Option (Bor (List ℕ) × Bor (List ℕ))) (x : Bor (List ℕ) × Bor (List ℕ)) (s : Option (Bor (List ℕ))) (y : Bor (List ℕ)) → IsSplitOnceResult 91 t r → Ok x ≡ ok_or r Malformed
    → MatchOption s (FindsCharSuffix 93 x.1.now None) (λ y. StripsSuffix (FindsCharSuffix 93) x.1.now y.now) → Ok y ≡ ok_or s Malformed → t ≡ x.0.now ++ 91 ∷ (y.now ++ 93 ∷ [])
bracketed t None x s y h is g also = cc
bracketed t (Some z) x None y h is g also = cc
bracketed t (Some z) x (Some u) y h is g also =
    let first = (split_parts 91 t (Some z) h (lit< tt)).0 in
    let last = strip_suffix_char 93 x.1.now (Some u) g (lit< tt) in
    cc

-- a text of no byte
pub empty_text : (t : List ℕ) → (length t == 0) ≡ true → t ≡ []
empty_text [] h = refl
empty_text (b ∷ bs) h = absurd (omega (arith, eqb-true (length (b ∷ bs)) 0 h))
