-- What no column is written by.
use Rattle.std.proofs.Common.{◌≡◌, ◌≢◌, ℕ, zero, suc, ◌<◌, Bool, true, false, not, List, [], ◌∷◌, ◌++◌, map, length, get_or, Ok, Err, Some, None, Option, Result, ◌⊎◌, inl, inr, refl, sym, ap, ◌∙◌, subst, append-nil, arith, lit<}
use Rattle.std.specs.Prelude.{MatchBool, MatchOption, slice_index, codes, encode_utf8, ◌==◌}
use Rattle.std.specs.List.{AllZip, list_all}
use Rattle.std.specs.Option.{option_copied, ok_or}
use Rattle.std.specs.Bool.{IsTrue}
use Rattle.std.specs.Str.{IsCharBoundary, bytes_eq}
use Rattle.std.specs.Str.Pattern.{FindsCharPrefix, FindsCharSuffix, StripsSuffix}
use Rattle.std.proofs.lemmas.List.{append_cancel_left}
use Rattle.std.proofs.lemmas.List.Sums.{AllPass-from_list_all}
use Rattle.std.proofs.lemmas.Slice.Eq.{bytes_eq-Decides}
use Rattle.std.proofs.lemmas.Str.Pattern.{IsSplitOnceResult, split_after, starts_char, strip_suffix_char}
use Rattle.column.specs.Cells as cells
use Rattle.column.specs.Seen.{kind_seen}
use Rattle.column.specs.declared.Kind.{Kind}
use Rattle.column.specs.declared.Kind.TheVariants as kind
use Rattle.scenario.specs.Calls.{Shows}
use Rattle.scenario.specs.Cells.{ColumnText, Holds, IsCell, Marked, MarkParts, MarksText, Names, PartsText}
use Rattle.scenario.specs.Names.{kind_name, mark_name}
use Rattle.scenario.specs.Reading.{Finds}
use Rattle.scenario.specs.Texts.{IsBytes, IsBytesOrNone, IsCount, IsCounts, IsCountsOrNone, IsName, enclosed, field}
use Rattle.scenario.specs.Words.{words}
use Rattle.scenario.specs.declared.Unread.{Unread}
use Rattle.scenario.specs.declared.Unread.TheVariants.{Malformed}
use Rattle.scenario.specs.declared.marking.Marks.{Marks}
use Rattle.scenario.specs.declared.pieces.Parts.{Parts}
use Rattle.scenario.proofs.Counting.{Unparsed, number_told}
use Rattle.scenario.proofs.Naming.{behind, other_byte, same_text}
use Rattle.scenario.proofs.Parting.{found_so}
use Rattle.scenario.proofs.Stripping.{between_ascii, same_inner}
use denote.Ref.{Bor}

-- a field that is no number
no_count : {E : Type 0} (K : List ℕ → E → Type 0) (bits : ℕ) (name text : List ℕ) (ws more : List (List ℕ)) (n : ℕ) → IsName name
    → (IsName name → (text : List ℕ) → (more : List (List ℕ)) → ws ≡ field name text ∷ more → (slice_index text 0 ≡ 43) ⊎ ((why : E) × K text why))
    → ((u : List ℕ) (why : E) → K u why → Unparsed bits u) → ws ≡ field name text ∷ more → IsCount bits text n → ⊥
no_count K bits name text ws more n named why unread is count = number_told (λ n. ⊥) (K text) bits text (Err Malformed) (why named text more is) (λ n h. absurd h) (unread text) n count

-- no fields in front of the words are the parts of a column
abbrev pub NoParts : List (List ℕ) → Type 0
NoParts ws = (parts : Parts) → (fields more : List (List ℕ)) → ws ≡ fields ++ more → PartsText fields parts → ⊥

pub no_kind : {E : Type 0} (K : List ℕ → E → Type 0) (ws : List (List ℕ))
    → (IsName (codes "kind") → (text : List ℕ) → (more : List (List ℕ)) → ws ≡ field (codes "kind") text ∷ more → (slice_index text 0 ≡ 43) ⊎ ((why : E) × K text why))
    → ((u : List ℕ) (why : E) → K u why → Unparsed 32 u) → NoParts ws
no_kind K ws why unread parts fields more is h =
    no_count K 32 (codes "kind") h.0 ws _ parts.kind refl why unread (is ∙ ap (λ fs. fs ++ more) h.5) h.6

pub no_rows : {E : Type 0} (K : List ℕ → E → Type 0) (first : List ℕ) (ws us : List (List ℕ)) → ws ≡ first ∷ us
    → (IsName (codes "rows") → (text : List ℕ) → (more : List (List ℕ)) → us ≡ field (codes "rows") text ∷ more → (slice_index text 0 ≡ 43) ⊎ ((why : E) × K text why))
    → ((u : List ℕ) (why : E) → K u why → Unparsed 64 u) → NoParts ws
no_rows K first ws us one why unread parts fields more is h =
    no_count K 64 (codes "rows") h.1 us _ parts.rows refl why unread (behind _ _ _ _ _ one (is ∙ ap (λ fs. fs ++ more) h.5)) h.7

pub no_validity : (first second : List ℕ) (ws us vs : List (List ℕ)) → ws ≡ first ∷ us → us ≡ second ∷ vs
    → ((text : List ℕ) → (more : List (List ℕ)) → vs ≡ field (codes "validity") text ∷ more → (bs : List ℕ) → IsBytesOrNone text bs → ⊥) → NoParts ws
no_validity first second ws us vs one two why parts fields more is h =
    why h.2 _ (behind _ _ _ _ _ two (behind _ _ _ _ _ one (is ∙ ap (λ fs. fs ++ more) h.5))) parts.validity.items h.8

pub unnamed_offsets : (first second third : List ℕ) (ws us vs xs : List (List ℕ)) → ws ≡ first ∷ us → us ≡ second ∷ vs → vs ≡ third ∷ xs
    → (IsName (codes "offsets") → (text : List ℕ) → (more : List (List ℕ)) → xs ≢ field (codes "offsets") text ∷ more) → NoParts ws
unnamed_offsets first second third ws us vs xs one two three why parts fields more is h =
    why refl h.3 _ (behind _ _ _ _ _ three (behind _ _ _ _ _ two (behind _ _ _ _ _ one (is ∙ ap (λ fs. fs ++ more) h.5))))

pub no_offsets : (first second third text : List ℕ) (ws us vs xs ys : List (List ℕ)) → ws ≡ first ∷ us → us ≡ second ∷ vs → vs ≡ third ∷ xs → xs ≡ field (codes "offsets") text ∷ ys
    → ((parts : Parts) → IsCountsOrNone 32 text parts.offsets.items → ⊥) → NoParts ws
no_offsets first second third text ws us vs xs ys one two three four why parts fields more is h =
    why parts (subst (λ t. IsCountsOrNone 32 t parts.offsets.items)
    (sym (same_text (codes "offsets") text h.3 xs ys _ four (behind _ _ _ _ _ three (behind _ _ _ _ _ two (behind _ _ _ _ _ one (is ∙ ap (λ fs. fs ++ more) h.5)))))) h.9)

pub no_data : (first second third fourth : List ℕ) (ws us vs xs ys : List (List ℕ)) → ws ≡ first ∷ us → us ≡ second ∷ vs → vs ≡ third ∷ xs → xs ≡ fourth ∷ ys
    → (IsName (codes "data") → (text : List ℕ) → (more : List (List ℕ)) → ys ≡ field (codes "data") text ∷ more → (bs : List ℕ) → IsBytes text bs → ⊥) → NoParts ws
no_data first second third fourth ws us vs xs ys one two three four why parts fields more is h =
    why refl h.4 _ (behind _ _ _ _ _ four (behind _ _ _ _ _ three (behind _ _ _ _ _ two (behind _ _ _ _ _ one (is ∙ ap (λ fs. fs ++ more) h.5))))) parts.«data».items h.10

-- no fields in front of the words are the parts of a column of truth values
abbrev pub NoMarks : List (List ℕ) → Type 0
NoMarks ws = (marks : Marks) → (fields more : List (List ℕ)) → ws ≡ fields ++ more → MarkParts fields marks → ⊥

pub no_mark_rows : {E : Type 0} (K : List ℕ → E → Type 0) (ws : List (List ℕ))
    → (IsName (codes "rows") → (text : List ℕ) → (more : List (List ℕ)) → ws ≡ field (codes "rows") text ∷ more → (slice_index text 0 ≡ 43) ⊎ ((why : E) × K text why))
    → ((u : List ℕ) (why : E) → K u why → Unparsed 64 u) → NoMarks ws
no_mark_rows K ws why unread marks fields more is h =
    no_count K 64 (codes "rows") h.0 ws _ marks.rows refl why unread (is ∙ ap (λ fs. fs ++ more) h.3) h.4

pub no_mark_bits : (first : List ℕ) (ws us : List (List ℕ)) → ws ≡ first ∷ us
    → (IsName (codes "bits") → (text : List ℕ) → (more : List (List ℕ)) → us ≡ field (codes "bits") text ∷ more → (bs : List ℕ) → IsBytes text bs → ⊥) → NoMarks ws
no_mark_bits first ws us one why marks fields more is h = why refl h.1 _ (behind _ _ _ _ _ one (is ∙ ap (λ fs. fs ++ more) h.3)) marks.bits.items h.5

pub no_mark_validity : (first second : List ℕ) (ws us vs : List (List ℕ)) → ws ≡ first ∷ us → us ≡ second ∷ vs
    → ((text : List ℕ) → (more : List (List ℕ)) → vs ≡ field (codes "validity") text ∷ more → (bs : List ℕ) → IsBytesOrNone text bs → ⊥) → NoMarks ws
no_mark_validity first second ws us vs one two why marks fields more is h =
    why h.2 _ (behind _ _ _ _ _ two (behind _ _ _ _ _ one (is ∙ ap (λ fs. fs ++ more) h.3))) marks.validity.items h.6

-- a text that is enclosed in nothing is written by nothing that is enclosed
pub not_enclosed : {X : Type 0} (P : List ℕ → X → Type 0) (first last : ℕ) (t : List ℕ) → first < 128 → last < 128 → ((inner : List ℕ) → t ≢ enclosed (encode_utf8 first) (encode_utf8 last) inner)
    → (x : X) → ((inner : List ℕ) × (t ≡ enclosed (first ∷ []) (last ∷ []) inner) × P inner x) → ⊥
not_enclosed P first last t f l none x (inner, is, h) = none inner (is ∙ sym (between_ascii first last inner f l))

-- what is enclosed in a text is what was read
enclosed_one : (first last : ℕ) (t inner other : List ℕ) → first < 128 → last < 128 → t ≡ enclosed (encode_utf8 first) (encode_utf8 last) inner → t ≡ enclosed (first ∷ []) (last ∷ []) other → inner ≡ other
enclosed_one first last t inner other f l is also = same_inner (first ∷ []) (last ∷ []) inner other (sym (is ∙ between_ascii first last inner f l) ∙ also)

-- where the words inside are no parts, the text is written by none
pub none_inside : {X : Type 0} (P : List (List ℕ) → X → Type 0) (first last : ℕ) (t inner rest : List ℕ) → first < 128 → last < 128 → t ≡ enclosed (encode_utf8 first) (encode_utf8 last) inner → rest ≡ inner
    → ((x : X) → (fields more : List (List ℕ)) → words rest ≡ fields ++ more → P fields x → ⊥) → (x : X) → ((inner : List ℕ) × (t ≡ enclosed (first ∷ []) (last ∷ []) inner) × P (words inner) x) → ⊥
none_inside P first last t inner rest f l is same none x (other, also, h) =
    none x (words other) [] (ap words (same ∙ enclosed_one first last t inner other f l is also) ∙ sym (append-nil (words other))) h

-- numbers, or none for `none`
pub or_none : {V : Type 0} (items : V → List ℕ) (bits : ℕ) (t : List ℕ) (r : Result V Unread) → bytes_eq t (codes "none") ≡ false → Finds r (λ v. IsCounts bits t (items v)) → Finds r (λ v. IsCountsOrNone bits t (items v))
or_none {V} items bits t r other h = found_so _ _ _ _ r h (λ v is. inr is) neither
  where
    neither : ((v : V) → IsCounts bits t (items v) → ⊥) → (v : V) → IsCountsOrNone bits t (items v) → ⊥
    neither none v (inl (same, empty)) = let also = (bytes_eq-Decides t (codes "none")).1 same in cc
    neither none v (inr is) = none v is

-- what a text begins with
begins : (b : ℕ) (t bs : List ℕ) → t ≡ b ∷ bs → get_or t 0 0 ≡ b
begins b t bs is = ap (λ u. get_or u 0 0) is

-- whether a text begins with a curly bracket
abbrev pub Begins : List ℕ → Bool → Type 0
Begins t r = MatchBool r ((n : ℕ) × FindsCharPrefix 123 t (Some n) × IsCharBoundary t n) (FindsCharPrefix 123 t None)

pub begun : (t : List ℕ) (r : Bool) → Begins t r → r ≡ true → get_or t 0 0 ≡ 123
begun t r h is = (starts_char 123 t r h (lit< tt) (lit< tt)).0 is

pub unbegun : (t : List ℕ) (r : Bool) → Begins t r → r ≡ false → get_or t 0 0 ≢ 123
unbegun t r h other is = let also = (starts_char 123 t r h (lit< tt) (lit< tt)).1 is in cc

-- a text of some byte
pub some_text : (t : List ℕ) → (length t == 0) ≡ false → t ≢ []
some_text t h is = let none : true ≡ false = subst (λ u. (length u == 0) ≡ false) is h in cc

-- a text that begins with a curly bracket is not one by cells
no_brace : (read : Kind) (t name back : List ℕ) (k : Kind) → get_or t 0 0 ≡ 123 → t ≡ name ++ 91 ∷ back → Names read name k → ⊥
no_brace read t name back k brace is (inl (none, same)) = let first = begins 91 t back (is ∙ ap (λ n. n ++ 91 ∷ back) none) in omega (arith, first, brace)
no_brace read t name back kind.Number brace is (inr named) = let first = begins 110 t (117 ∷ 109 ∷ 98 ∷ 101 ∷ 114 ∷ 91 ∷ back) (is ∙ ap (λ n. n ++ 91 ∷ back) named) in omega (arith, first, brace)
no_brace read t name back kind.Bytes brace is (inr named) = let first = begins 98 t (121 ∷ 116 ∷ 101 ∷ 115 ∷ 91 ∷ back) (is ∙ ap (λ n. n ++ 91 ∷ back) named) in omega (arith, first, brace)
no_brace read t name back kind.Record brace is (inr named) = let first = begins 114 t (101 ∷ 99 ∷ 111 ∷ 114 ∷ 100 ∷ 91 ∷ back) (is ∙ ap (λ n. n ++ 91 ∷ back) named) in omega (arith, first, brace)

-- a column's text by its parts
abbrev pub ByParts : List ℕ → Parts → Type 0
ByParts t p = (inner : List ℕ) × (t ≡ enclosed (123 ∷ []) (125 ∷ []) inner) × PartsText (words inner) p

-- a column that begins with a curly bracket is read by its parts
pub column_by_parts : (read : Kind) (t : List ℕ) (r : Result Parts Unread) → get_or t 0 0 ≡ 123 → Finds r (ByParts t) → Finds r (ColumnText read t)
column_by_parts read t r brace h = found_so _ _ _ _ r h (λ p is. inl is) neither
  where
    neither : ((p : Parts) → ByParts t p → ⊥) → (p : Parts) → ColumnText read t p → ⊥
    neither none p (inl is) = none p is
    neither none p (inr (name, inner, k, cs, is, names, all, holds)) = no_brace read t name (inner ++ 93 ∷ []) k brace is names

-- no name of a kind has a square bracket
bracketless : (read k : Kind) (name : List ℕ) → Names read name k → IsTrue (list_all (λ b. not (b == 91)) name)
bracketless read k name (inl (none, same)) = rw none refl
bracketless read kind.Number name (inr named) = rw named refl
bracketless read kind.Bytes name (inr named) = rw named refl
bracketless read kind.Record name (inr named) = rw named refl

no_bracket : (read k : Kind) (name : List ℕ) → Names read name k → (i : ℕ) → i < length name → get_or name i 0 ≢ 91
no_bracket read k name h i short = other_byte 91 (get_or name i 0) refl (AllPass-from_list_all (λ b. not (b == 91)) name (bracketless read k name h) i 0 short)

-- a name names one kind
one_kind : (k j : Kind) → kind_name k ≡ kind_name j → k ≡ j
one_kind kind.Number kind.Number is = refl
one_kind kind.Number kind.Bytes is = let first : 110 ≡ 98 = ap (λ l. get_or l 0 0) is in absurd (omega (arith, first))
one_kind kind.Number kind.Record is = let first : 110 ≡ 114 = ap (λ l. get_or l 0 0) is in absurd (omega (arith, first))
one_kind kind.Bytes kind.Number is = let first : 98 ≡ 110 = ap (λ l. get_or l 0 0) is in absurd (omega (arith, first))
one_kind kind.Bytes kind.Bytes is = refl
one_kind kind.Bytes kind.Record is = let first : 98 ≡ 114 = ap (λ l. get_or l 0 0) is in absurd (omega (arith, first))
one_kind kind.Record kind.Number is = let first : 114 ≡ 110 = ap (λ l. get_or l 0 0) is in absurd (omega (arith, first))
one_kind kind.Record kind.Bytes is = let first : 114 ≡ 98 = ap (λ l. get_or l 0 0) is in absurd (omega (arith, first))
one_kind kind.Record kind.Record is = refl

unempty : (k : Kind) → kind_name k ≢ []
unempty kind.Number is = cc
unempty kind.Bytes is = cc
unempty kind.Record is = cc

one_named : (read k j : Kind) (name : List ℕ) → Names read name k → Names read name j → k ≡ j
one_named read k j name (inl (none, same)) (inl (also, equal)) = same ∙ sym equal
one_named read k j name (inl (none, same)) (inr named) = absurd (unempty j (sym named ∙ none))
one_named read k j name (inr named) (inl (none, same)) = absurd (unempty k (sym named ∙ none))
one_named read k j name (inr named) (inr also) = one_kind k j (sym named ∙ also)

-- a text by cells, of which the name, the kind and the text of the cells are these
abbrev pub ByCells : Kind → List ℕ → List ℕ → List ℕ → Kind → List cells.Cell → Parts → Type 0
ByCells read t name inner k cs p = (t ≡ name ++ 91 ∷ (inner ++ 93 ∷ [])) × Names read name k × AllZip (IsCell (kind_seen k)) (words inner) cs × Holds (kind_seen k) cs p

abbrev pub NoCells : Kind → List ℕ → Type 0
NoCells read t = (name inner : List ℕ) (k : Kind) (cs : List cells.Cell) (p : Parts) → ByCells read t name inner k cs p → ⊥

-- a text that does not begin with a curly bracket is one by cells or none
pub no_column : (read : Kind) (t : List ℕ) → get_or t 0 0 ≢ 123 → NoCells read t → (p : Parts) → ColumnText read t p → ⊥
no_column read t brace none p (inl (inner, is, h)) = brace (begins 123 t (inner ++ 125 ∷ []) is)
no_column read t brace none p (inr (name, inner, k, cs, is, names, all, holds)) = none name inner k cs p (is, names, all, holds)

-- it is parted at its first bracket
parted : (read k : Kind) (t name inner : List ℕ) (r : Option (Bor (List ℕ) × Bor (List ℕ))) → IsSplitOnceResult 91 t r → t ≡ name ++ 91 ∷ (inner ++ 93 ∷ []) → Names read name k
    → MatchOption r ⊥ (λ x. (x.0.now ≡ name) × (x.1.now ≡ inner ++ 93 ∷ []))
parted read k t name inner r h is names = split_after 91 t name (inner ++ 93 ∷ []) r h (lit< tt) is (no_bracket read k name names)

-- what is there, and what is not
had : {T : Type 0} (P : Type 0) (Q : T → Type 0) (r : Option T) (x : T) → Ok x ≡ ok_or r Malformed → MatchOption r P Q → Q x
had P Q None x is h = cc
had P Q (Some y) x is h = let same : y ≡ x = cc in subst Q same h

had_none : {T : Type 0} (P : Type 0) (Q : T → Type 0) (r : Option T) (e : Unread) → Err e ≡ ok_or r Malformed → MatchOption r P Q → P
had_none P Q None e is h = h
had_none P Q (Some y) e is h = cc

-- without a bracket there are no cells
pub unparted_cells : (read : Kind) (t : List ℕ) (r : Option (Bor (List ℕ) × Bor (List ℕ))) (e : Unread) → IsSplitOnceResult 91 t r → Err e ≡ ok_or r Malformed → NoCells read t
unparted_cells read t r e h missing name inner k cs p (is, names, all, holds) =
    had_none ⊥ (λ x. (x.0.now ≡ name) × (x.1.now ≡ inner ++ 93 ∷ [])) r e missing (parted read k t name inner r h is names)

-- nor without a bracket at the end
pub unclosed_cells : (read : Kind) (t : List ℕ) (r : Option (Bor (List ℕ) × Bor (List ℕ))) (x : Bor (List ℕ) × Bor (List ℕ)) (s : Option (Bor (List ℕ))) (e : Unread) → IsSplitOnceResult 91 t r → Ok x ≡ ok_or r Malformed
    → MatchOption s (FindsCharSuffix 93 x.1.now None) (λ y. StripsSuffix (FindsCharSuffix 93) x.1.now y.now) → Err e ≡ ok_or s Malformed → NoCells read t
unclosed_cells read t r x s e h found g missing name inner k cs p (is, names, all, holds) =
    let here = had ⊥ (λ x. (x.0.now ≡ name) × (x.1.now ≡ inner ++ 93 ∷ [])) r x found (parted read k t name inner r h is names) in
    had_none _ _ s e missing (strip_suffix_char 93 x.1.now s g (lit< tt)) inner here.1

-- nor behind a name that names no kind
pub nameless_cells : (read : Kind) (t : List ℕ) (r : Option (Bor (List ℕ) × Bor (List ℕ))) (x : Bor (List ℕ) × Bor (List ℕ)) → IsSplitOnceResult 91 t r → Ok x ≡ ok_or r Malformed → x.0.now ≢ []
    → ((k : Kind) → x.0.now ≢ kind_name k) → NoCells read t
nameless_cells read t r x h found empty none name inner k cs p (is, names, all, holds) =
    let here = had ⊥ (λ x. (x.0.now ≡ name) × (x.1.now ≡ inner ++ 93 ∷ [])) r x found (parted read k t name inner r h is names) in
    unnamed here.0 names
  where
    unnamed : x.0.now ≡ name → Names read name k → ⊥
    unnamed same (inl (so, equal)) = empty (same ∙ so)
    unnamed same (inr so) = none k (same ∙ so)

-- nor where the text inside holds none of the kind
pub unread_cells : (read : Kind) (t : List ℕ) (r : Option (Bor (List ℕ) × Bor (List ℕ))) (x : Bor (List ℕ) × Bor (List ℕ)) (y : Bor (List ℕ)) (j : Kind) → IsSplitOnceResult 91 t r → Ok x ≡ ok_or r Malformed
    → t ≡ x.0.now ++ 91 ∷ (y.now ++ 93 ∷ []) → Names read x.0.now j → ((p : Parts) → ((cs : List cells.Cell) × AllZip (IsCell (kind_seen j)) (words y.now) cs × Holds (kind_seen j) cs p) → ⊥) → NoCells read t
unread_cells read t r x y j h found closed named none name inner k cs p (is, names, all, holds) =
    let here = had ⊥ (λ x. (x.0.now ≡ name) × (x.1.now ≡ inner ++ 93 ∷ [])) r x found (parted read k t name inner r h is names) in
    let whole : name ++ 91 ∷ (y.now ++ 93 ∷ []) ≡ name ++ 91 ∷ (inner ++ 93 ∷ []) = sym (closed ∙ ap (λ n. n ++ 91 ∷ (y.now ++ 93 ∷ [])) here.0) ∙ is in
    let same : y.now ≡ inner = same_inner (91 ∷ []) (93 ∷ []) y.now inner (append_cancel_left name (91 ∷ (y.now ++ 93 ∷ [])) (91 ∷ (inner ++ 93 ∷ [])) whole) in
    let kinds : k ≡ j = one_named read k j name names (subst (λ n. Names read n j) here.0 named) in
    none p (cs, subst (λ u. AllZip (IsCell (kind_seen j)) (words u) cs) (sym same) (subst (λ i. AllZip (IsCell (kind_seen i)) (words inner) cs) kinds all), subst (λ i. Holds (kind_seen i) cs p) kinds holds)

-- one text that is read as nothing, among others
pub one_unread : {B : Type 0} (R : List ℕ → B → Type 0) (texts : List (Bor (List ℕ))) (ys : List B) (i : ℕ) (d : Bor (List ℕ)) → i < length texts → ((y : B) → R (get_or texts i d).now y → ⊥) → AllZip R (map (λ t. t.now) texts) ys → ⊥
one_unread R [] ys i d short none all = absurd (omega (arith, short))
one_unread R (t ∷ ts) [] i d short none all = all
one_unread R (t ∷ ts) (y ∷ ys) zero d short none all = none y all.0
one_unread R (t ∷ ts) (y ∷ ys) (suc i) d short none all = one_unread R ts ys i d (omega (arith, short)) none all.1

-- a word that is no mark, among the names of marks
one_unmarked : (cs : List (Bool × Bool)) (n : ℕ) (w : List ℕ) → n < length (map (λ c. mark_name c.0 c.1) cs) → w ≡ get_or (map (λ c. mark_name c.0 c.1) cs) n w → ((bit known : Bool) → w ≢ mark_name bit known) → ⊥
one_unmarked [] n w short is none = absurd (omega (arith, short))
one_unmarked (c ∷ cs) zero w short is none = none c.0 c.1 is
one_unmarked (c ∷ cs) (suc n) w short is none = one_unmarked cs n w (omega (arith, short)) is none

-- a column of truth values by its cells
abbrev pub ByMarks : List ℕ → Marks → Type 0
ByMarks t m = (inner : List ℕ) × (cs : List (Bool × Bool)) × (t ≡ enclosed (91 ∷ []) (93 ∷ []) inner) × (words inner ≡ map (λ c. mark_name c.0 c.1) cs) × Marked cs m

-- a text that square brackets do not enclose is none, nor is one with a word inside that is no mark
pub unbracketed : (t : List ℕ) → ((inner : List ℕ) → t ≢ enclosed (encode_utf8 91) (encode_utf8 93) inner) → (m : Marks) → ByMarks t m → ⊥
unbracketed t none m (inner, cs, is, names, marked) = none inner (is ∙ sym (between_ascii 91 93 inner (lit< tt) (lit< tt)))

pub unmarked : (t inner : List ℕ) (n : ℕ) (w : List ℕ) → t ≡ enclosed (encode_utf8 91) (encode_utf8 93) inner → n < length (words inner) → w ≡ get_or (words inner) n w → ((bit known : Bool) → w ≢ mark_name bit known)
    → (m : Marks) → ByMarks t m → ⊥
unmarked t inner n w is short at none m (other, cs, also, names, marked) =
    let same : words inner ≡ map (λ c. mark_name c.0 c.1) cs = ap words (enclosed_one 91 93 t inner other (lit< tt) (lit< tt) is also) ∙ names in
    one_unmarked cs n w (subst (λ us. n < length us) same short) (at ∙ ap (λ us. get_or us n w) same) none

-- a column of truth values by its parts
abbrev pub ByMarkParts : List ℕ → Marks → Type 0
ByMarkParts t m = (inner : List ℕ) × (t ≡ enclosed (123 ∷ []) (125 ∷ []) inner) × MarkParts (words inner) m

-- what a text begins with tells which it may be
pub marks_by_parts : (t : List ℕ) (r : Result Marks Unread) → get_or t 0 0 ≡ 123 → Finds r (ByMarkParts t) → Finds r (MarksText t)
marks_by_parts t r brace h = found_so _ _ _ _ r h (λ m is. inl is) neither
  where
    neither : ((m : Marks) → ByMarkParts t m → ⊥) → (m : Marks) → MarksText t m → ⊥
    neither none m (inl is) = none m is
    neither none m (inr (inner, cs, is, names, marked)) = let first = begins 91 t (inner ++ 93 ∷ []) is in omega (arith, first, brace)

pub marks_by_cells : (t : List ℕ) (r : Result Marks Unread) → get_or t 0 0 ≢ 123 → Finds r (ByMarks t) → Finds r (MarksText t)
marks_by_cells t r brace h = found_so _ _ _ _ r h (λ m is. inr is) neither
  where
    neither : ((m : Marks) → ByMarks t m → ⊥) → (m : Marks) → MarksText t m → ⊥
    neither none m (inl (inner, is, more)) = brace (begins 123 t (inner ++ 125 ∷ []) is)
    neither none m (inr is) = none m is

-- a text that may be left out, and is no column of truth values
pub shows_none : (o : Option (Bor (List ℕ))) (x : Bor (List ℕ)) → o ≡ Some x → ((m : Marks) → MarksText x.now m → ⊥) → (m : Option Marks) → Shows (option_copied o) m → ⊥
shows_none None x is none m shown = cc
shows_none (Some y) x is none None shown = shown
shows_none (Some y) x is none (Some m) shown = let same : y ≡ x = cc in none m (subst (λ z. MarksText z.now m) same shown)
