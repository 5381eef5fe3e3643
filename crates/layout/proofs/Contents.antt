-- The bytes of cells: how many there are, those of a number and those of a record.
use Rattle.std.proofs.Common.{◌≡◌, ℕ, zero, suc, ◌+◌, ◌*◌, ◌/◌, ◌%◌, ◌<◌, Bool, true, false, cond, not, ltb, ◌≤◌, List, [], ◌∷◌, ◌++◌, map, length, get_or, drop, ℤ, Some, None, Option, Ok, Err, Result, sym, refl, ap, ◌∙◌, append-nil, arith, length-append, w64, of_z}
use native.Mathlib.Nat.{div-div-eq-div-mul}
use Rattle.std.specs.List.{flat_map}
use Rattle.std.proofs.lemmas.List.{length-map, drop_all}
use Rattle.std.proofs.lemmas.Bool.{le-ltb, lt-ltb, cond-true, cond-false}
use Rattle.column.specs.Cells.{Cell, null, number, text, fields, is_null, fields_cell}
use Rattle.column.specs.Checks.{outcome, refuse}
use Rattle.layout.specs.declared.OutputFault.{OutputFault}
use Rattle.layout.specs.declared.OutputFault.TheVariants.{Space}
use Rattle.layout.specs.Layout.{bytes_of, bit, has_field, number_bytes, field_bytes, number_content, record_content, validity_of, over}
use Rattle.layout.proofs.Overs.{joined_length}
use Rattle.layout.proofs.Packing.{packed_length}

pub bytes_length : (k n : ℕ) → length (bytes_of k n) ≡ k
bytes_length zero n = refl
bytes_length (suc k) n = ap suc (bytes_length k (n / 256))

pub number_length : (z : ℤ) → length (number_bytes z) ≡ 8
unfolding number_bytes
number_length z = bytes_length 8 (of_z w64 z)

pub content_length : (c : Cell) → length (number_content c) ≡ 8
content_length null = refl
content_length (number z) = number_length z
content_length (text bs) = refl
content_length (fields a b c) = refl

pub field_length : (o : Option ℤ) → length (field_bytes o) ≡ 8
field_length None = refl
field_length (Some z) = number_length z

pub record_length : (c : Cell) → length (record_content c) ≡ 25
record_length null = refl
record_length (number z) = refl
record_length (text bs) = refl
record_length (fields a b c) =
    let x = field_length a in let y = field_length b in let z = field_length c in simp length-append (omega arith)

pub validity_length : (cs : List Cell) → length (validity_of cs) ≡ (length cs + 7) / 8
validity_length cs = packed_length (map (λ c. not (is_null c)) cs) ∙ ap (λ n. (n + 7) / 8) (length-map cs (λ c. not (is_null c)))

-- the bytes of a word, the lowest first
pub word_bytes : (n : ℕ)
    → (n % 256) ∷ (n / 256 % 256) ∷ (n / 65536 % 256) ∷ (n / 16777216 % 256) ∷ (n / 4294967296 % 256) ∷ (n / 1099511627776 % 256) ∷ (n / 281474976710656 % 256) ∷ (n / 72057594037927936 % 256) ∷ [] ≡ bytes_of 8 n
word_bytes n = simp div-div-eq-div-mul

-- the three fields of a record, and its bytes as they are written one field after another behind the presence byte
abbrev pub three : List (Option ℤ) → List (Option ℤ)
three fs = get_or fs 0 None ∷ get_or fs 1 None ∷ get_or fs 2 None ∷ []

pub three_at : (fs : List (Option ℤ)) (j : ℕ) → j < 3 → get_or (three fs) j None ≡ get_or fs j None
three_at fs zero h = refl
three_at fs (suc zero) h = refl
three_at fs (suc (suc zero)) h = refl
three_at fs (suc (suc (suc j))) h = absurd (omega arith)

pub record_whole : (fs : List (Option ℤ)) (p : ℕ) (xs : List ℕ) → length xs ≡ 25
    → p ≡ bit (has_field (get_or fs 0 None)) + 2 * bit (has_field (get_or fs 1 None)) + 4 * bit (has_field (get_or fs 2 None))
    → over (p ∷ flat_map field_bytes (three fs)) xs ≡ record_content (fields_cell (Some fs))
record_whole fs p xs h e =
    let n : length (p ∷ flat_map field_bytes (three fs)) ≡ 25 = ap suc (joined_length field_bytes 8 field_length (three fs)) in
    let d : drop (length (p ∷ flat_map field_bytes (three fs))) xs ≡ [] = drop_all (length (p ∷ flat_map field_bytes (three fs))) xs (omega arith) in
    ap (λ ys. (p ∷ flat_map field_bytes (three fs)) ++ ys) d
    ∙ append-nil (p ∷ flat_map field_bytes (three fs))
    ∙ ap (λ ys. p ∷ (field_bytes (get_or fs 0 None) ++ (field_bytes (get_or fs 1 None) ++ ys))) (append-nil (field_bytes (get_or fs 2 None)))
    ∙ ap (λ q. q ∷ (field_bytes (get_or fs 0 None) ++ (field_bytes (get_or fs 1 None) ++ field_bytes (get_or fs 2 None)))) e

-- what a call answers, and what it leaves, as a test holds or not
pub refused : (b : Bool) → b ≡ false → ◌≡◌ {A = Result (Unit {0}) OutputFault} (Err Space) (outcome (refuse (not b) Space) tt)
refused b h = sym (ap (λ t. outcome (refuse (not t) Space) tt) h)

pub taken : (b : Bool) → b ≡ true → ◌≡◌ {A = Result (Unit {0}) OutputFault} (Ok tt) (outcome (refuse (not b) Space) tt)
taken b h = sym (ap (λ t. outcome (refuse (not t) Space) tt) h)

pub kept : {A : Type 0} (b : Bool) (x y : A) → b ≡ false → y ≡ cond b x y
kept b x y h = sym (cond-false b x y h)

pub picked : {A : Type 0} (b : Bool) (x y z : A) → b ≡ true → z ≡ x → z ≡ cond b x y
picked b x y z h e = e ∙ sym (cond-true b x y h)

-- a number below a bound, or none
pub told_some : (n k m : ℕ) → k ≡ n → n < m → Some k ≡ cond (ltb n m) (Some n) None
told_some n k m e h = ap Some e ∙ sym (ap (λ b. cond b (Some n) None) (lt-ltb n m h))

pub told_none : {X : Type 0} (n m : ℕ) (x : X) → m ≤ n → None ≡ cond (ltb n m) (Some x) None
told_none n m x h = sym (ap (λ b. cond b (Some x) None) (le-ltb n m h))
