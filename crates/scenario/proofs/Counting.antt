-- Numbers without a sign, as the library reads them.
use Rattle.std.proofs.Common.{◌≡◌, ◌≢◌, ℕ, zero, suc, ◌^◌, ◌<◌, List, [], ◌∷◌, length, Ok, Err, Result, inl, inr, ◌⊎◌, sym, ap, subst, ◌∙◌, arith}
use Rattle.std.specs.Prelude.{slice_index, slice_index_or, Option, Some, None}
use Rattle.std.specs.Option.{option_copied, ok_or}
use Rattle.std.specs.Char.{digit_value}
use Rattle.std.specs.List.{AllZip, Contains}
use Rattle.std.specs.Str.Parse.{IsNumeral, digits_value, without_leading_plus}
use Rattle.std.proofs.lemmas.Str.Parse.{without_leading_plus_none}
use Rattle.scenario.specs.Reading.{Told, Found, Finds, Tells}
use Rattle.scenario.specs.Texts.{IsCount, IsCounts, enclosed}
use Rattle.scenario.specs.Words.{words}
use Rattle.scenario.specs.declared.Unread.{Unread}
use Rattle.scenario.specs.declared.Unread.TheVariants.{Malformed, OutOfMemory}
use denote.Ref.{Bor}

-- digits have no plus in front
no_plus : (t : List ℕ) → IsNumeral 10 t → slice_index t 0 ≢ 43
no_plus [] h is = omega (arith, h.0)
no_plus (b ∷ bs) h is = let digit : digit_value 43 < 10 = subst (λ c. digit_value c < 10) is h.1.0 in omega (arith, digit)

-- what the library says of a number, where it reads one and where it does not
abbrev pub Parsed : ℕ → List ℕ → ℕ → Type 0
Parsed bits t n = (IsNumeral 10 (without_leading_plus t) × (digits_value 10 (without_leading_plus t) < 2 ^ bits)) × (n ≡ digits_value 10 (without_leading_plus t))

abbrev pub Unparsed : ℕ → List ℕ → Type 0
Unparsed bits t = ¬ (IsNumeral 10 (without_leading_plus t) × (digits_value 10 (without_leading_plus t) < 2 ^ bits))

counted : (bits : ℕ) (t : List ℕ) (n : ℕ) → (slice_index t 0 ≢ 43) × Parsed bits t n → IsCount bits t n
counted bits t n (plain, is) =
    let same = without_leading_plus_none t plain in
    (subst (IsNumeral 10) same is.0.0, subst (λ u. digits_value 10 u < 2 ^ bits) same is.0.1, is.1 ∙ ap (digits_value 10) same)

uncounted : (bits : ℕ) (t : List ℕ) (n : ℕ) → (slice_index t 0 ≡ 43) ⊎ Unparsed bits t → IsCount bits t n → ⊥
uncounted bits t n (inl plus) is = no_plus t is.0 plus
uncounted bits t n (inr unread) is =
    let same = sym (without_leading_plus_none t (no_plus t is.0)) in
    unread (subst (IsNumeral 10) same is.0, subst (λ u. digits_value 10 u < 2 ^ bits) same is.1)

unread : {E : Type 0} (K : E → Type 0) (bits : ℕ) (t : List ℕ) → (slice_index t 0 ≡ 43) ⊎ ((why : E) × K why) → ((why : E) → K why → Unparsed bits t) → (slice_index t 0 ≡ 43) ⊎ Unparsed bits t
unread K bits t (inl plus) so = inl plus
unread K bits t (inr (why, h)) so = inr (so why h)

pub number_told : {E : Type 0} (R : ℕ → Type 0) (K : E → Type 0) (bits : ℕ) (t : List ℕ) (r : Result ℕ Unread) → Told r R ((slice_index t 0 ≡ 43) ⊎ ((why : E) × K why))
    → ((n : ℕ) → R n → (slice_index t 0 ≢ 43) × Parsed bits t n) → ((why : E) → K why → Unparsed bits t) → Tells r (IsCount bits t)
number_told R K bits t (Ok n) h read so = counted bits t n (read n h)
number_told R K bits t (Err Malformed) h read so = λ n is. uncounted bits t n (unread K bits t h so) is
number_told R K bits t (Err OutOfMemory) h read so = absurd h

all_counted : (R : List ℕ → ℕ → Type 0) (bits : ℕ) → ((t : List ℕ) (n : ℕ) → R t n → (slice_index t 0 ≢ 43) × Parsed bits t n) → (ts : List (List ℕ)) (ns : List ℕ) → AllZip R ts ns → AllZip (IsCount bits) ts ns
all_counted R bits read [] [] h = tt
all_counted R bits read [] (n ∷ ns) h = absurd h
all_counted R bits read (t ∷ ts) [] h = absurd h
all_counted R bits read (t ∷ ts) (n ∷ ns) h = (counted bits t n (read t n h.0), all_counted R bits read ts ns h.1)

-- each of the words is some number
some_count : (bits : ℕ) (ts : List (List ℕ)) (ns : List ℕ) (at : ℕ) (t : List ℕ) → at < length ts → slice_index_or ts at t ≡ t → AllZip (IsCount bits) ts ns → (n : ℕ) × IsCount bits t n
some_count bits [] ns at t short is all = absurd (omega (arith, short))
some_count bits (u ∷ us) [] at t short is all = absurd all
some_count bits (u ∷ us) (n ∷ ns) zero t short is all = (n, subst (λ v. IsCount bits v n) is all.0)
some_count bits (u ∷ us) (n ∷ ns) (suc at) t short is all = some_count bits us ns at t (omega (arith, short)) is all.1

pub numbers_found : {V E : Type 0} (items : V → List ℕ) (R : List ℕ → ℕ → Type 0) (K : List ℕ → E → Type 0) (bits : ℕ) (t : List ℕ) (r : Result V Unread)
    → Found r (λ v. (inner : List ℕ) × (t ≡ enclosed (91 ∷ []) (93 ∷ []) inner) × AllZip R (words inner) (items v))
    ((inner : List ℕ) → t ≡ enclosed (91 ∷ []) (93 ∷ []) inner → (word : List ℕ) × Contains (words inner) word × ((slice_index word 0 ≡ 43) ⊎ ((why : E) × K word why)))
    → ((u : List ℕ) (n : ℕ) → R u n → (slice_index u 0 ≢ 43) × Parsed bits u n) → ((u : List ℕ) (why : E) → K u why → Unparsed bits u) → Finds r (λ v. IsCounts bits t (items v))
numbers_found items R K bits t (Ok v) h read so = (h.0, h.1, all_counted R bits read (words h.0) (items v) h.2)
numbers_found items R K bits t (Err Malformed) h read so = λ v is.
    let some = h is.0 is.1 in
    let count = some_count bits (words is.0) (items v) some.1.0 some.0 some.1.1 some.1.2 is.2 in
    uncounted bits some.0 count.0 (unread (K some.0) bits some.0 some.2 (so some.0)) count.1
numbers_found items R K bits t (Err OutOfMemory) h read so = tt

-- a text that has to be there
pub there : (o : Option (Bor (List ℕ))) (x : Bor (List ℕ)) (e : Unread) → Ok x ≡ ok_or o e → option_copied o ≡ Some x.now
there None x e is = cc
there (Some y) x e is = cc

-- it is one text
pub one_text : (o : Option (List ℕ)) (t u : List ℕ) → o ≡ Some t → o ≡ Some u → u ≡ t
one_text o t u is also = cc
