-- A cell can be read off the column of one row that shows it.
use Rattle.std.proofs.Common.{◌≡◌, ℕ, zero, suc, ◌+◌, ◌*◌, ◌/◌, ◌^◌, ◌<◌, ◌≤◌, Bool, true, false, not, List, [], ◌∷◌, ◌++◌, length, take, drop, ℤ, Some, None, Option, refl, sym, ap, ◌∙◌, arith, w64, FitsSigned, of_z, to_z, append-nil, length-append}
use Rattle.std.proofs.lemmas.List.{take_at, drop_at}
use Rattle.std.proofs.lemmas.Int.{to_z-of_z}
use Rattle.std.proofs.lemmas.Nat.{div_below}
use Rattle.std.proofs.Math.Nat.{pow-suc}
use Rattle.std.proofs.Math.Facts.{Fits-of_z}
use Rattle.column.specs.Cells.{Kind, numbers, strings, records, Cell, null, number, text, fields, is_null, FieldFits, Proper}
use Rattle.column.specs.Columns.{little}
use Rattle.layout.specs.Layout.{Parts, bytes_of, number_bytes, bit, has_field, field_bytes, record_content, packed, laid_out, over, written}
use Rattle.layout.proofs.Contents.{number_length}

-- fronts of one length
fronts : {X : Type 0} (xs ys us vs : List X) → length xs ≡ length ys → xs ++ us ≡ ys ++ vs → (xs ≡ ys) × (us ≡ vs)
fronts xs ys us vs n e = (
  sym (take_at xs us (length xs) refl) ∙ ap (take (length xs)) e ∙ take_at ys vs (length xs) (sym n),
  sym (drop_at xs us (length xs) refl) ∙ ap (drop (length xs)) e ∙ drop_at ys vs (length xs) (sym n),
)

over_same : (xs ys before : List ℕ) → length xs ≡ length ys → over xs before ≡ over ys before → xs ≡ ys
over_same xs ys before n e = (fronts xs ys (drop (length xs) before) (drop (length ys) before) n e).0

-- Numbers

little_bytes : (k n : ℕ) → n < 256 ^ k → little (bytes_of k n) ≡ n
little_bytes zero n h = omega arith
little_bytes (suc k) n h =
    let s = pow-suc 256 k in
    let d : n / 256 < 256 ^ k = div_below n 256 (256 ^ k) (omega arith) (omega arith) in
    let ih = little_bytes k (n / 256) d in
    omega arith

number_read : (z : ℤ) → FitsSigned w64 z → to_z w64 (little (number_bytes z)) ≡ z
unfolding number_bytes
number_read z f = ap (to_z w64) (little_bytes 8 (of_z w64 z) (Fits-of_z f).fits) ∙ to_z-of_z w64 z f

number_same : (y z : ℤ) → FitsSigned w64 y → FitsSigned w64 z → number_bytes y ≡ number_bytes z → y ≡ z
number_same y z f g e = sym (number_read y f) ∙ ap (λ bs. to_z w64 (little bs)) e ∙ number_read z g

-- Records

field_length : (a : Option ℤ) → length (field_bytes a) ≡ 8
field_length None = refl
field_length (Some z) = number_length z

field_same : (a b : Option ℤ) → FieldFits a → FieldFits b → has_field a ≡ has_field b → field_bytes a ≡ field_bytes b → a ≡ b
field_same None None f g h e = refl
field_same None (Some z) f g h e = cc
field_same (Some y) None f g h e = cc
field_same (Some y) (Some z) f g h e = ap Some (number_same y z f g e)

bit_small : (b : Bool) → bit b ≤ 1
bit_small true = omega arith
bit_small false = omega arith

bit_same : (a b : Bool) → bit a ≡ bit b → a ≡ b
bit_same true true e = refl
bit_same true false e = absurd (omega arith)
bit_same false true e = absurd (omega arith)
bit_same false false e = refl

bits_same : (a b c x y z : Bool) → bit a + 2 * bit b + 4 * bit c ≡ bit x + 2 * bit y + 4 * bit z → (a ≡ x) × (b ≡ y) × (c ≡ z)
bits_same a b c x y z e =
    let p = bit_small a in
    let q = bit_small b in
    let r = bit_small c in
    let s = bit_small x in
    let t = bit_small y in
    let u = bit_small z in
    (bit_same a x (omega arith), bit_same b y (omega arith), bit_same c z (omega arith))

pub record_length : (a b c : Option ℤ) → length (record_content (fields a b c)) ≡ 25
record_length a b c =
    let p = field_length a in
    let q = field_length b in
    let r = field_length c in
    simp length-append (omega arith)

record_same : (a b c x y z : Option ℤ) → FieldFits a → FieldFits b → FieldFits c → FieldFits x → FieldFits y → FieldFits z
    → record_content (fields a b c) ≡ record_content (fields x y z) → fields a b c ≡ fields x y z
record_same a b c x y z fa fb fc fx fy fz e =
    let n : bit (has_field a) + 2 * bit (has_field b) + 4 * bit (has_field c) ≡ bit (has_field x) + 2 * bit (has_field y) + 4 * bit (has_field z) = cc in
    let h : field_bytes a ++ (field_bytes b ++ field_bytes c) ≡ field_bytes x ++ (field_bytes y ++ field_bytes z) = cc in
    let t = bits_same (has_field a) (has_field b) (has_field c) (has_field x) (has_field y) (has_field z) n in
    let s = fronts (field_bytes a) (field_bytes x) _ _ (field_length a ∙ sym (field_length x)) h in
    let u = fronts (field_bytes b) (field_bytes y) _ _ (field_length b ∙ sym (field_length y)) s.1 in
    let p = field_same a x fa fx t.0 s.0 in
    let q = field_same b y fb fy t.1 u.0 in
    let r = field_same c z fc fz t.2 u.1 in
    cc

-- Cells

pub validity_same : (a b : Bool) (before : List ℕ) → over (packed (a ∷ [])) before ≡ over (packed (b ∷ [])) before → a ≡ b
unfolding packed
validity_same a b before e = let h : bit a + 0 ≡ bit b + 0 = cc in bit_same a b (omega arith)

null_same : (k : Kind) (c d : Cell) (before : Parts) → written (laid_out k (c ∷ [])) before ≡ written (laid_out k (d ∷ [])) before → not (is_null c) ≡ not (is_null d)
null_same numbers c d before e = validity_same _ _ before.validity (ap (λ (p : Parts). p.validity) e)
null_same strings c d before e = validity_same _ _ before.validity (ap (λ (p : Parts). p.validity) e)
null_same records c d before e = validity_same _ _ before.validity (ap (λ (p : Parts). p.validity) e)

-- one cell's bytes, which stand in the content alone
alone_same : (xs ys before : List ℕ) → length xs ≡ length ys → over (xs ++ []) before ≡ over (ys ++ []) before → xs ≡ ys
alone_same xs ys before n e = over_same xs ys before n (simp append-nil at e)

pub cell_same : (k : Kind) (c d : Cell) → Proper k c → Proper k d → (before : Parts) → written (laid_out k (c ∷ [])) before ≡ written (laid_out k (d ∷ [])) before → c ≡ d
cell_same k null null f g before e = refl
cell_same k null (number z) f g before e = let n = null_same k null (number z) before e in cc
cell_same k null (text ds) f g before e = let n = null_same k null (text ds) before e in cc
cell_same k null (fields x y z) f g before e = let n = null_same k null (fields x y z) before e in cc
cell_same k (number w) null f g before e = let n = null_same k (number w) null before e in cc
cell_same k (number w) (number z) f g before e =
    ap number (number_same w z f.1 g.1 (alone_same _ _ before.content (number_length w ∙ sym (number_length z)) (ap (λ (p : Parts). p.content) (rw f.0 at e))))
cell_same k (number w) (text ds) f g before e = cc
cell_same k (number w) (fields x y z) f g before e = cc
cell_same k (text bs) null f g before e = let n = null_same k (text bs) null before e in cc
cell_same k (text bs) (number z) f g before e = cc
cell_same k (text bs) (text ds) f g before e =
    let h : written (laid_out strings (text bs ∷ [])) before ≡ written (laid_out strings (text ds ∷ [])) before = rw f.0 at e in
    let o = ap (λ (p : Parts). p.offsets) h in
    let n : 0 + length bs ≡ 0 + length ds = cc in
    ap text (alone_same bs ds before.content (omega arith) (ap (λ (p : Parts). p.content) h))
cell_same k (text bs) (fields x y z) f g before e = cc
cell_same k (fields a b c) null f g before e = let n = null_same k (fields a b c) null before e in cc
cell_same k (fields a b c) (number z) f g before e = cc
cell_same k (fields a b c) (text ds) f g before e = cc
cell_same k (fields a b c) (fields x y z) f g before e =
    let h : written (laid_out records (fields a b c ∷ [])) before ≡ written (laid_out records (fields x y z ∷ [])) before = rw f.0 at e in
    record_same a b c x y z f.1 f.2 f.3 g.1 g.2 g.3 (alone_same _ _ before.content (record_length a b c ∙ sym (record_length x y z)) (ap (λ (p : Parts). p.content) h))
