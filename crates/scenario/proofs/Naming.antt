-- Fields by their names, and what stands behind a name.
use Rattle.std.proofs.Common.{◌≡◌, ◌≢◌, ℕ, ◌<◌, true, false, not, List, [], ◌∷◌, length, get_or, Ok, Err, Some, None, Option, Result, refl, subst, lit<}
use Rattle.std.specs.Prelude.{MatchOption, slice_index, ◌==◌}
use Rattle.std.specs.Str.{bytes_eq}
use Rattle.std.proofs.lemmas.List.{append_cancel_left}
use Rattle.std.proofs.lemmas.List.Sums.{AllPass-from_list_all}
use Rattle.std.proofs.lemmas.Slice.Eq.{bytes_eq-Decides}
use Rattle.std.proofs.lemmas.Str.Pattern.{IsSplitOnceResult, split_after}
use Rattle.scenario.specs.declared.Unread.{Unread}
use Rattle.scenario.specs.declared.Unread.TheVariants.{Malformed, OutOfMemory}
use Rattle.scenario.specs.Reading.{Told, Found}
use Rattle.scenario.specs.Texts.{IsCount, IsName, field}
use Rattle.scenario.proofs.Counting.{Parsed, number_told}
use denote.Ref.{Bor}

-- a byte that passes a test for another
pub other_byte : (c x : ℕ) → (c == c) ≡ true → not (x == c) ≡ true → x ≢ c
other_byte c x one h is = let same : not (c == c) ≡ true = subst (λ y. not (y == c) ≡ true) is h in cc

-- no byte of a name is an equals sign
pub no_sign : (name : List ℕ) → IsName name → (i : ℕ) → i < length name → get_or name i 0 ≢ 61
no_sign name h i short = other_byte 61 (get_or name i 0) refl (AllPass-from_list_all (λ b. not (b == 61)) name h i 0 short)

-- a field is parted behind its name
field_parted : (name text word : List ℕ) (r : Option (Bor (List ℕ) × Bor (List ℕ))) → IsSplitOnceResult 61 word r → IsName name → word ≡ field name text → MatchOption r ⊥ (λ x. (x.0.now ≡ name) × (x.1.now ≡ text))
field_parted name text word r h named is = split_after 61 word name text r h (lit< tt) is (no_sign name named)

-- a word without an equals sign is no field
pub unparted : (name text word : List ℕ) (r : Option (Bor (List ℕ) × Bor (List ℕ))) → IsSplitOnceResult 61 word r → r ≡ None → IsName name → word ≢ field name text
unparted name text word r h none named is = subst (λ o. MatchOption o ⊥ (λ x. (x.0.now ≡ name) × (x.1.now ≡ text))) none (field_parted name text word r h named is)

-- nor is a word the field of another name than the one that was found
pub other_name : (name text word : List ℕ) (r : Option (Bor (List ℕ) × Bor (List ℕ))) (x : Bor (List ℕ) × Bor (List ℕ)) → IsSplitOnceResult 61 word r → r ≡ Some x → bytes_eq x.0.now name ≡ false → IsName name → word ≢ field name text
other_name name text word r x h some other named is =
    let found = subst (λ o. MatchOption o ⊥ (λ x. (x.0.now ≡ name) × (x.1.now ≡ text))) some (field_parted name text word r h named is) in
    let same = (bytes_eq-Decides x.0.now name).1 found.0 in
    cc

-- words that begin with one word have one rest
pub behind : (a b : List ℕ) (ws us vs : List (List ℕ)) → ws ≡ a ∷ us → ws ≡ b ∷ vs → us ≡ vs
behind a b ws us vs is also = cc

pub first_same : (a b : List ℕ) (ws us vs : List (List ℕ)) → ws ≡ a ∷ us → ws ≡ b ∷ vs → a ≡ b
first_same a b ws us vs is also = cc

-- a field of a name has one text
pub same_text : (name a b : List ℕ) (ws rest more : List (List ℕ)) → ws ≡ field name a ∷ rest → ws ≡ field name b ∷ more → a ≡ b
same_text name a b ws rest more is also = append_cancel_left (61 ∷ []) a b (append_cancel_left name (61 ∷ a) (61 ∷ b) (first_same (field name a) (field name b) ws rest more is also))

-- what is read of a field's text
pub field_told : {V : Type 0} (R : List ℕ → V → Type 0) (Q : List ℕ → Type 0) (N : Type 0) (name text : List ℕ) (ws rest : List (List ℕ)) (r : Result V Unread) → ws ≡ field name text ∷ rest → Told r (R text) (Q text)
    → Told r (λ v. (text : List ℕ) × (ws ≡ field name text ∷ rest) × R text v) (N → (text : List ℕ) → (more : List (List ℕ)) → ws ≡ field name text ∷ more → Q text)
field_told R Q N name text ws rest (Ok v) is h = (text, is, h)
field_told R Q N name text ws rest (Err Malformed) is h = λ n other more also. subst Q (same_text name text other ws rest more is also) h
field_told R Q N name text ws rest (Err OutOfMemory) is h = absurd h

pub field_found : {V : Type 0} (R : List ℕ → V → Type 0) (Q : List ℕ → Type 0) (N : Type 0) (name text : List ℕ) (ws rest : List (List ℕ)) (r : Result V Unread) → ws ≡ field name text ∷ rest → Found r (R text) (Q text)
    → Found r (λ v. (text : List ℕ) × (ws ≡ field name text ∷ rest) × R text v) (N → (text : List ℕ) → (more : List (List ℕ)) → ws ≡ field name text ∷ more → Q text)
field_found R Q N name text ws rest (Ok v) is h = (text, is, h)
field_found R Q N name text ws rest (Err Malformed) is h = λ n other more also. subst Q (same_text name text other ws rest more is also) h
field_found R Q N name text ws rest (Err OutOfMemory) is h = tt

-- a number that is read is one of so many bits
pub count_read : (bits : ℕ) (t : List ℕ) (n : ℕ) → slice_index t 0 ≢ 43 → Parsed bits t n → IsCount bits t n
count_read bits t n plain is = number_told (λ n. (slice_index t 0 ≢ 43) × Parsed bits t n) (λ (why : ℕ). ⊥) bits t (Ok n) (plain, is) (λ n h. h) (λ why h. absurd h)
