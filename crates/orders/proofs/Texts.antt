-- What a text order reads in a row, which strings it takes, and how its keys stand to one another.
use Rattle.std.proofs.Common.{◌≡◌, ℕ, zero, suc, ◌+◌, ◌-◌, ◌<◌, ◌≤◌, Bool, true, false, cond, not, ◌&&◌, leb, List, [], ◌∷◌, length, get_or, drop, Some, None, Option, sym, refl, ap, ap₂, ◌∙◌, arith, add-one}
use Rattle.std.specs.Cmp.Lexicographic.{slice_cmp}
use Rattle.std.specs.List.{find}
use Rattle.std.specs.Option.{option_map}
use Rattle.std.specs.Ordering.{nat_cmp}
use Rattle.std.proofs.lemmas.Bool.{le-leb, and_parts, ltb-true}
use Rattle.std.proofs.lemmas.List.{length-take}
use Rattle.column.specs.Cells.{Cell, strings, null, text, text_cell}
use Rattle.column.specs.Columns.{Column, octets, part, present, shown, text_at, text_there, count_up}
use Rattle.tables.specs.declared.Sorting.{Sorting}
use Rattle.tables.specs.Delivered.{as_text, takes_text, takes_one_text, text_order}
use Rattle.tables.specs.Missing.{sorted_verdict}
use Rattle.tables.specs.Reading.{named_taken, key_read, takes_all}
use Rattle.tables.specs.Refusals.{verdict}
use Rattle.tables.proofs.Ordering.{verdict_is}
use Rattle.tables.proofs.Strings.{octets_taken, texts_total}

-- Keys

as_shown : (x : Option (List ℕ)) → as_text (text_cell x) ≡ x
as_shown None = refl
as_shown (Some bs) = refl

pub verdict_texts : (s : Sorting) (x y : Option (List ℕ)) (a b : List Cell) → text_cell x ∷ [] ≡ a → text_cell y ∷ [] ≡ b → sorted_verdict (slice_cmp nat_cmp) s x y ≡ verdict (text_order s) a b
verdict_texts s x y a b e f =
    ap₂ (sorted_verdict (slice_cmp nat_cmp) s) (sym (as_shown x)) (sym (as_shown y))
    ∙ sym (verdict_is (texts_total s) (strings ∷ []) takes_one_text (text_cell x ∷ []) (text_cell y ∷ []))
    ∙ ap₂ (verdict (text_order s)) e f

octets_twice : (bs : List ℕ) → octets (octets bs) ≡ octets bs
octets_twice [] = refl
octets_twice (b ∷ bs) = ap₂ ◌∷◌ (omega arith) (octets_twice bs)

-- a string that is read is one of bytes
pub read_octets : (cs : List Column) (r : ℕ) (bs : List ℕ) → text bs ∷ [] ≡ key_read (strings ∷ []) cs r → octets bs ≡ bs
read_octets [] r bs e = cc
read_octets (c ∷ cs) r bs e = go (text_at c r) e
  where
    go : (o : Option (List ℕ)) → text bs ∷ [] ≡ text_cell (option_map octets o) ∷ [] → octets bs ≡ bs
    go None e = cc
    go (Some ds) e = let f : bs ≡ octets ds = cc in ap octets f ∙ octets_twice ds ∙ sym f

pub read_taken : (cs : List Column) (r : ℕ) (bs : List ℕ) → text bs ∷ [] ≡ key_read (strings ∷ []) cs r → takes_all takes_one_text 0 (key_read (strings ∷ []) cs r) ≡ leb (length bs) 32
read_taken cs r bs e =
    ap (takes_all takes_one_text 0) (sym e) ∙ right (takes_text (text bs)) ∙ ap (λ ds. takes_text (text ds)) (sym (read_octets cs r bs e)) ∙ octets_taken bs
  where
    right : (t : Bool) → (t && true) ≡ t
    right true = refl
    right false = refl

-- a string that is held is short, and its bytes are the string's
pub kept : (bs ds : List ℕ) → Some ds ≡ cond (leb (length bs) 32) (Some (octets bs)) None → (leb (length bs) 32 ≡ true) × (ds ≡ octets bs)
kept bs ds e = go (leb (length bs) 32) e
  where
    go : (t : Bool) → Some ds ≡ cond t (Some (octets bs)) None → (t ≡ true) × (ds ≡ octets bs)
    go true e = (refl, cc)
    go false e = cc

pub only : (x : Cell) (j : ℕ) → j < 1 → get_or (x ∷ []) j null ≡ x
only x zero h = refl
only x (suc j) h = absurd (omega arith)

-- Strings that are taken

pub short_taken : (c : Column) (r : ℕ) (bs : List ℕ) → Some bs ≡ text_at c r → leb (length bs) 32 ≡ takes_text (shown strings c r)
short_taken c r bs e = sym (octets_taken bs) ∙ ap (λ o. takes_text (text_cell (option_map octets o))) e

pub named_first : (s : Sorting) (j : ℕ) (c : Column) (rs : List ℕ) → j < 1 → find (λ r. not (takes_text (shown strings c r))) rs ≡ find (λ r. not (named_taken (text_order s) j c r)) rs
named_first s zero c rs h = refl
named_first s (suc j) c rs h = absurd (omega arith)

-- no string is longer than the offsets are apart
all_short : (c : Column) (m : ℕ) → ((i : ℕ) → i + 1 < length c.offsets → get_or c.offsets (i + 1) 0 - get_or c.offsets i 0 ≤ m) → m ≤ 32 → (r : ℕ) → takes_text (shown strings c r) ≡ true
all_short c m f h r = go (present c.validity r) (text_there c r) refl
  where
    d : ℕ
    d = get_or c.offsets (r + 1) 0 - get_or c.offsets r 0

    go : (p t : Bool) → text_there c r ≡ t → takes_text (text_cell (option_map octets (cond (p && t) (Some (part (get_or c.offsets r 0) d c.content)) None))) ≡ true
    go false t e = refl
    go true false e = refl
    go true true e =
        let w = f r (ltb-true _ _ (and_parts _ _ e).0) in
        let l = length-take d (drop (get_or c.offsets r 0) c.content) in
        octets_taken (part (get_or c.offsets r 0) d c.content) ∙ le-leb _ 32 (omega arith)

pub none_long : (c : Column) (m : ℕ) → ((i : ℕ) → i + 1 < length c.offsets → get_or c.offsets (i + 1) 0 - get_or c.offsets i 0 ≤ m) → m ≤ 32 → (rs : List ℕ) → None ≡ find (λ r. not (takes_text (shown strings c r))) rs
none_long c m f h [] = refl
none_long c m f h (r ∷ rs) = rw (all_short c m f h r) (none_long c m f h rs)

-- Looking for a row

module _ (p : ℕ → Bool) (row rows : ℕ) (h : row < rows) where
  count_next : count_up row (rows - row) ≡ row ∷ count_up (row + 1) (rows - (row + 1))
  count_next = ap (count_up row) (let z : rows - row ≡ suc (rows - (row + 1)) = omega arith in z) ∙ ap (λ n. row ∷ count_up n (rows - (row + 1))) (sym (add-one row))

  pub found_here : p row ≡ true → Some row ≡ find p (count_up row (rows - row))
  found_here e = sym (ap (find p) count_next ∙ ap (λ b. cond b (Some row) (find p (count_up (row + 1) (rows - (row + 1))))) e)

  pub found_later : p row ≡ false → find p (count_up (row + 1) (rows - (row + 1))) ≡ find p (count_up row (rows - row))
  found_later e = sym (ap (find p) count_next ∙ ap (λ b. cond b (Some row) (find p (count_up (row + 1) (rows - (row + 1))))) e)

pub found_none : (p : ℕ → Bool) (row rows : ℕ) → rows ≤ row → None ≡ find p (count_up row (rows - row))
found_none p row rows h = ap (λ n. find p (count_up row n)) (let z : 0 ≡ rows - row = omega arith in z)
