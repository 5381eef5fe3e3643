-- Texts without a character at an end.
use Rattle.std.proofs.Common.{◌≡◌, ◌≢◌, ℕ, ◌-◌, ◌<◌, List, [], ◌∷◌, ◌++◌, length, drop, Some, None, Option, sym, ap, ◌∙◌, append-nil, Ok, Err, lit<}
use Rattle.std.specs.Prelude.{MatchOption, encode_utf8}
use Rattle.std.specs.Str.Pattern.{FindsCharPrefix, FindsCharSuffix, StripsPrefix, StripsSuffix}
use Rattle.std.proofs.Math.Seq.{drop-length}
use Rattle.std.proofs.lemmas.List.{take-append-drop, append_cancel_left, append_cancel_right}
use Rattle.std.specs.Option.{ok_or}
use Rattle.std.proofs.lemmas.Str.{encode_ascii}
use Rattle.std.proofs.lemmas.Str.Pattern.{strip_prefix_char}
use Rattle.scenario.specs.declared.Unread.{Unread}
use Rattle.scenario.specs.declared.Unread.TheVariants.{Malformed, OutOfMemory}
use Rattle.scenario.specs.Reading.{Told, ReadsBytes}
use Rattle.scenario.specs.Texts.{enclosed}
use denote.Ref.{Bor}

pub without_first : (c : ℕ) (t : List ℕ) (r : Option (Bor (List ℕ))) → MatchOption r (FindsCharPrefix c t None) (λ x. StripsPrefix (FindsCharPrefix c) t x.now)
    → MatchOption r ((rest : List ℕ) → t ≢ encode_utf8 c ++ rest) (λ x. t ≡ encode_utf8 c ++ x.now)
without_first c t None h = h
without_first c t (Some x) (n, at, is, size) = at.split ∙ ap (λ rest. encode_utf8 c ++ rest) (sym is)

pub without_last : (c : ℕ) (t : List ℕ) (r : Option (Bor (List ℕ))) → MatchOption r (FindsCharSuffix c t None) (λ x. StripsSuffix (FindsCharSuffix c) t x.now)
    → MatchOption r ((front : List ℕ) → t ≢ front ++ encode_utf8 c) (λ x. t ≡ x.now ++ encode_utf8 c)
without_last c t None h = h
without_last c t (Some x) (n, at, is, size) =
    sym (take-append-drop (length t - n) t) ∙ ap (λ front. front ++ drop (length t - n) t) (sym is) ∙ ap (λ back. x.now ++ back) (at.1.split ∙ ap (λ rest. encode_utf8 c ++ rest) (drop-length t) ∙ append-nil (encode_utf8 c))

-- what follows the first character, where a text begins with it
pub rest_text : (c : ℕ) (t : List ℕ) (r : Option (Bor (List ℕ))) (x : Bor (List ℕ)) → Ok x ≡ ok_or r Malformed → MatchOption r (FindsCharPrefix c t None) (λ x. StripsPrefix (FindsCharPrefix c) t x.now)
    → t ≡ encode_utf8 c ++ x.now
rest_text c t r x is h = go r is (without_first c t r h)
  where
    go : (r : Option (Bor (List ℕ))) → Ok x ≡ ok_or r Malformed → MatchOption r ((rest : List ℕ) → t ≢ encode_utf8 c ++ rest) (λ x. t ≡ encode_utf8 c ++ x.now) → t ≡ encode_utf8 c ++ x.now
    go None is h = cc
    go (Some y) is h = cc

-- what stands between two characters, or that no text does
pub inner_text : (first last : ℕ) (t rest : List ℕ) (r : Option (Bor (List ℕ))) → t ≡ encode_utf8 first ++ rest → MatchOption r (FindsCharSuffix last rest None) (λ x. StripsSuffix (FindsCharSuffix last) rest x.now)
    → Told (ok_or r Malformed) (λ inner. t ≡ enclosed (encode_utf8 first) (encode_utf8 last) inner.now) ((inner : List ℕ) → t ≢ enclosed (encode_utf8 first) (encode_utf8 last) inner)
inner_text first last t rest r is h = go r (without_last last rest r h)
  where
    go : (r : Option (Bor (List ℕ))) → MatchOption r ((front : List ℕ) → rest ≢ front ++ encode_utf8 last) (λ x. rest ≡ x.now ++ encode_utf8 last)
        → Told (ok_or r Malformed) (λ inner. t ≡ enclosed (encode_utf8 first) (encode_utf8 last) inner.now) ((inner : List ℕ) → t ≢ enclosed (encode_utf8 first) (encode_utf8 last) inner)
    go None none = λ inner same. none inner (append_cancel_left (encode_utf8 first) _ _ (sym is ∙ same))
    go (Some x) some = is ∙ ap (λ back. encode_utf8 first ++ back) some

-- without an `x` in front there are no bytes
pub no_bytes : {V : Type 0} (items : V → List ℕ) (t : List ℕ) (r : Option (Bor (List ℕ))) (e : Unread) → MatchOption r (FindsCharPrefix 120 t None) (λ x. StripsPrefix (FindsCharPrefix 120) t x.now)
    → Err e ≡ ok_or r Malformed → ReadsBytes items t (Err e)
no_bytes items t r e h is = go r e (strip_prefix_char 120 t r h (lit< tt)) is
  where
    go : (r : Option (Bor (List ℕ))) (e : Unread) → MatchOption r ((rest : List ℕ) → t ≢ 120 ∷ rest) (λ x. t ≡ 120 ∷ x.now) → Err e ≡ ok_or r Malformed → ReadsBytes items t (Err e)
    go None Malformed none is = λ digits same. absurd (none digits same)
    go None OutOfMemory none is = tt
    go (Some x) e some is = cc

-- a text between two brackets
pub between_ascii : (first last : ℕ) (inner : List ℕ) → first < 128 → last < 128 → enclosed (encode_utf8 first) (encode_utf8 last) inner ≡ enclosed (first ∷ []) (last ∷ []) inner
between_ascii first last inner f l = ap (λ front. enclosed front (encode_utf8 last) inner) (encode_ascii first f) ∙ ap (λ back. enclosed (first ∷ []) back inner) (encode_ascii last l)

-- what stands between two texts is one text
pub same_inner : (front back a b : List ℕ) → enclosed front back a ≡ enclosed front back b → a ≡ b
same_inner front back a b is = append_cancel_right a b back (append_cancel_left front (a ++ back) (b ++ back) is)
