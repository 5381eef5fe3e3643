-- A column filled cell by cell.
use Rattle.std.proofs.Common.{◌≡◌, ◌≢◌, ◌+◌, ◌<◌, ◌≤◌, ◌^◌, zero, suc, ℤ, Bool, List, ℕ, map, length, get_or, take, drop, not, is_some, ◌∷◌, [], ◌++◌, Some, None, Option, Ok, Err, inl, inr, ◌⊎◌, refl, sym, ap, ◌∙◌, subst, arith, length-append}
use Rattle.std.specs.Prelude.{MatchOption, MatchResult, Result, IsErr, IsErrAnd, codes, slice_index}
use Rattle.std.specs.List.{AllZip, flat_map}
use Rattle.std.specs.Option.{option_map, unwrap_or}
use Rattle.std.proofs.lemmas.List.{map-append, flat_map_more, length-map}
use Rattle.column.specs.Cells.{Kind, numbers, strings, records, Cell, null, number, text, fields, number_cell, text_cell, fields_cell, is_null}
use Rattle.layout.specs.Layout.{laid_out, offsets_from, field_bytes, number_content, string_content, record_content}
use Rattle.hex.specs.Hex.{decode_of}
use Rattle.scenario.proofs.Parting.{AllZip-push}
use Rattle.scenario.proofs.Telling.{found_on}
use Rattle.scenario.specs.declared.Unread.{Unread}
use Rattle.scenario.specs.declared.Unread.TheVariants.{Malformed, OutOfMemory}
use Rattle.scenario.specs.declared.pieces.Parts.{Parts}
use Rattle.scenario.specs.Cells.{IsCell, Holds, OffsetsReach, kind_number}
use Rattle.scenario.specs.Packing.{validity_bytes}
use Rattle.scenario.specs.Reading.{Told, Found, Finds}
use Rattle.scenario.specs.Texts.{IsInteger, IsBytes}

-- a cell is null just where its value is not there
number_there : (o : Option ℤ) → not (is_null (number_cell o)) ≡ is_some o
number_there None = refl
number_there (Some z) = refl

record_there : (o : Option (List (Option ℤ))) → not (is_null (fields_cell o)) ≡ is_some o
record_there None = refl
record_there (Some fs) = refl

-- a number that may be absent has the bytes that its cell has in a column of numbers
field_bytes_is : (o : Option ℤ) → number_content (number_cell o) ≡ field_bytes o
field_bytes_is None = refl
field_bytes_is (Some z) = refl

-- a cell of a number, by what was read
pub number_read : (t : List ℕ) (o : Option ℤ) (A : Type 0) (R : ℤ → Type 0) → MatchOption o (t ≡ codes "null") (λ z. A × R z) → ((z : ℤ) → R z → IsInteger t z) → IsCell numbers t (number_cell o)
number_read t None A R h so = h
number_read t (Some z) A R h so = (refl, so z h.1)

-- a cell of a byte string, by what was read
pub string_read : {V : Type 0} (items : V → List ℕ) (t : List ℕ) (o : Option V) (A : Type 0) (R : V → Type 0) → MatchOption o (t ≡ codes "null") (λ v. A × R v) → ((v : V) → R v → IsBytes t (items v)) → IsCell strings t (text_cell (option_map items o))
string_read items t None A R h so = h
string_read items t (Some v) A R h so = (refl, so v h.1)

pub string_there : {V : Type 0} (items : V → List ℕ) (o : Option V) → not (is_null (text_cell (option_map items o))) ≡ is_some o
string_there items None = refl
string_there items (Some v) = refl

-- a cell of a record, by what was read
pub record_read : (t : List ℕ) (o : Option (List (Option ℤ))) (A : Type 0) (R : List (Option ℤ) → Type 0) → MatchOption o (t ≡ codes "null") (λ fs. A × R fs) → ((fs : List (Option ℤ)) → R fs → IsCell records t (fields_cell (Some fs)))
    → IsCell records t (fields_cell o)
record_read t None A R h so = h
record_read t (Some fs) A R h so = so fs h.1

-- one more cell of a word: whether it is there, and its bytes behind those before it
abbrev pub Added : Kind → (Cell → List ℕ) → List ℕ → List Bool → List Bool → List ℕ → List ℕ → Type 0
Added k content t there there' bytes bytes' = (c : Cell) × IsCell k t c × (there' ≡ there ++ not (is_null c) ∷ []) × (bytes' ≡ bytes ++ content c)

-- a text that is not `null` and no number, no bytes or no record, writes no cell
pub no_number : (t : List ℕ) → t ≢ codes "null" → ((z : ℤ) → IsInteger t z → ⊥) → (c : Cell) → IsCell numbers t c → ⊥
no_number t there none null is = there is
no_number t there none (number z) is = none z is.1
no_number t there none (text bs) is = let other : numbers ≡ strings = is.0 in cc
no_number t there none (fields a b c) is = let other : numbers ≡ records = is.0 in cc

pub no_string : (t : List ℕ) → t ≢ codes "null" → ((digits : List ℕ) → t ≡ 120 ∷ digits → IsErr (decode_of digits)) → (c : Cell) → IsCell strings t c → ⊥
no_string t there none null is = there is
no_string t there none (number z) is = let other : strings ≡ numbers = is.0 in cc
no_string t there none (text bs) is = let bad = subst IsErr is.1.2 (none is.1.0 is.1.1) in cc
no_string t there none (fields a b c) is = let other : strings ≡ records = is.0 in cc

pub no_record : (t : List ℕ) → t ≢ codes "null" → ((fs : List (Option ℤ)) → IsCell records t (fields_cell (Some fs)) → ⊥) → (c : Cell) → IsCell records t c → ⊥
no_record t there none null is = there is
no_record t there none (number z) is = let other : records ≡ numbers = is.0 in cc
no_record t there none (text bs) is = let other : records ≡ strings = is.0 in cc
no_record t there none (fields a b c) is = none (a ∷ b ∷ c ∷ []) is

-- a refusal of a text that is not `null`, handed on
pub cell_refused : {T Y : Type 0} (P : Option T → Type 0) (A : Type 0) (K : Unread → Type 0) (R : Y → Type 0) (S : Type 0) (G : Unread → Type 0) (r : Result (Option T) Unread) (q : Result Y Unread) (e : Unread)
    → MatchResult r P (λ why. A × K why) → r ≡ Err e → IsErrAnd q G → ((f : Unread) → G f → f ≡ e) → (A → K Malformed → S) → Found q R S
cell_refused P A K R S G (Ok x) q e h is passed same so = cc
cell_refused P A K R S G (Err why) (Ok y) e h is passed same so = absurd passed
cell_refused P A K R S G (Err why) (Err Malformed) e h is passed same so = let malformed : why ≡ Malformed = let also = same Malformed passed in cc in so h.0 (subst K malformed h.1)
cell_refused P A K R S G (Err why) (Err OutOfMemory) e h is passed same so = tt

-- a text writes the bytes of one cell
string_cell : (t : List ℕ) (c : Cell) → IsCell strings t c → ((t ≡ codes "null") × (string_content c ≡ [])) ⊎ IsBytes t (string_content c)
string_cell t null is = inl (is, refl)
string_cell t (number z) is = let other : strings ≡ numbers = is.0 in cc
string_cell t (text bs) is = inr is.1
string_cell t (fields a b c) is = let other : strings ≡ records = is.0 in cc

one_content : (t : List ℕ) (c d : Cell) → IsCell strings t c → IsCell strings t d → string_content c ≡ string_content d
one_content t c d is also = go (string_content c) (string_content d) (string_cell t c is) (string_cell t d also)
  where
    go : (bs ds : List ℕ) → ((t ≡ codes "null") × (bs ≡ [])) ⊎ IsBytes t bs → ((t ≡ codes "null") × (ds ≡ [])) ⊎ IsBytes t ds → bs ≡ ds
    go bs ds (inl (a, none)) (inl (b, empty)) = none ∙ sym empty
    go bs ds (inl (a, none)) (inr (digits, b, decoded)) = absurd (omega (arith, ap (λ l. slice_index l 0) (sym a ∙ b)))
    go bs ds (inr (digits, a, decoded)) (inl (b, empty)) = absurd (omega (arith, ap (λ l. slice_index l 0) (sym b ∙ a)))
    go bs ds (inr (digits, a, decoded)) (inr (others, b, also)) = let same : digits ≡ others = ap (drop 1) (sym a ∙ b) in cc

-- a number is added where its bytes are
pub number_added : (o : Option ℤ) (t : List ℕ) (there there' : List Bool) (b : Bool) (bytes bytes' more : List ℕ)
    → IsCell numbers t (number_cell o) → there' ≡ there ++ b ∷ [] → b ≡ is_some o → bytes' ≡ bytes ++ more → more ≡ field_bytes o → Added numbers number_content t there there' bytes bytes'
number_added o t there there' b bytes bytes' more cell is_there is added are =
    (number_cell o, cell, is_there ∙ ap (λ b. there ++ b ∷ []) (is ∙ sym (number_there o)), added ∙ ap (λ bs. bytes ++ bs) (are ∙ sym (field_bytes_is o)))

-- a byte string is added where 32 bits say its end
pub string_added : (r : Result ℕ Unread) (n : ℕ) (t : List ℕ) (there there' : List Bool) (bytes bytes' : List ℕ)
    → Told r (λ end. (end ≡ n) × (n < 2 ^ 32)) (2 ^ 32 ≤ n) → n ≡ length bytes' → Added strings string_content t there there' bytes bytes'
    → Found r (λ end. (c : Cell) × IsCell strings t c × (there' ≡ there ++ not (is_null c) ∷ []) × (bytes' ≡ bytes ++ string_content c) × (end ≡ length bytes') × (length bytes' < 2 ^ 32))
    ((c : Cell) → IsCell strings t c → 2 ^ 32 ≤ length (bytes ++ string_content c))
string_added (Ok end) n t there there' bytes bytes' told long (c, cell, is_there, more) = (c, cell, is_there, more, told.0 ∙ long, subst (λ n. n < 2 ^ 32) long told.1)
string_added (Err Malformed) n t there there' bytes bytes' far long (c, cell, is_there, more) =
    λ d also. subst (λ n. 2 ^ 32 ≤ n) (long ∙ ap length (more ∙ ap (λ bs. bytes ++ bs) (one_content t c d cell also))) far
string_added (Err OutOfMemory) n t there there' bytes bytes' told long added = tt

-- a null has the bytes of a record whose fields are all absent
null_bytes : (o : Option (List (Option ℤ))) → record_content (fields_cell (Some (unwrap_or o (None ∷ None ∷ None ∷ [])))) ≡ record_content (fields_cell o)
null_bytes None = refl
null_bytes (Some fs) = refl

-- a record is added where its fields are
pub record_added : (r : Result (Unit {0}) Unread) (o : Option (List (Option ℤ))) (fs : List (Option ℤ)) (t : List ℕ) (there there' : List Bool) (b : Bool) (bytes bytes' : List ℕ)
    → Found r (λ _. bytes' ≡ bytes ++ record_content (fields_cell (Some fs))) ⊥ → fs ≡ unwrap_or o (None ∷ None ∷ None ∷ []) → IsCell records t (fields_cell o) → there' ≡ there ++ b ∷ [] → b ≡ is_some o
    → Found r (λ _. Added records record_content t there there' bytes bytes') ((c : Cell) → IsCell records t c → ⊥)
record_added (Ok x) o fs t there there' b bytes bytes' more are cell is_there is =
    (fields_cell o, cell, is_there ∙ ap (λ b. there ++ b ∷ []) (is ∙ sym (record_there o)), more ∙ ap (λ bs. bytes ++ bs) (ap (λ fs. record_content (fields_cell (Some fs))) are ∙ null_bytes o))
record_added (Err Malformed) o fs t there there' b bytes bytes' more are cell is_there is = absurd more
record_added (Err OutOfMemory) o fs t there there' b bytes bytes' more are cell is_there is = tt

-- the cells of some words, whose offsets fit: whether each is there, and their offsets and bytes as they are laid out
abbrev pub Filled : Kind → List (List ℕ) → List Bool → List ℕ → List ℕ → Type 0
Filled k ws there offsets bytes = (cs : List Cell) × AllZip (IsCell k) ws cs × OffsetsReach k cs × (there ≡ map (λ c. not (is_null c)) cs) × (offsets ≡ (laid_out k cs).offsets) × (bytes ≡ (laid_out k cs).content)

-- one more word's cell
pub filled_more : (k : Kind) (content : Cell → List ℕ) (ws : List (List ℕ)) (t : List ℕ) (there there' : List Bool) (offsets offsets' bytes bytes' : List ℕ)
    → ((cs : List Cell) → (laid_out k cs).content ≡ flat_map content cs)
    → ((cs : List Cell) (c : Cell) → offsets ≡ (laid_out k cs).offsets → bytes ≡ (laid_out k cs).content → bytes' ≡ bytes ++ content c → offsets' ≡ (laid_out k (cs ++ c ∷ [])).offsets)
    → ((cs : List Cell) → bytes' ≡ (laid_out k cs).content → OffsetsReach k cs)
    → Filled k ws there offsets bytes → Added k content t there there' bytes bytes' → Filled k (ws ++ t ∷ []) there' offsets' bytes'
filled_more k content ws t there there' offsets offsets' bytes bytes' joined ends reach (cs, all, few, is_there, so_far, is) (c, cell, more_there, more) =
    let content_is : bytes' ≡ (laid_out k (cs ++ c ∷ [])).content = more ∙ ap (λ bs. bs ++ content c) (is ∙ joined cs) ∙ flat_map_more content [] cs c ∙ sym (joined (cs ++ c ∷ [])) in (
      cs ++ c ∷ [],
      AllZip-push (IsCell k) ws cs t c all cell,
      reach (cs ++ c ∷ []) content_is,
      more_there ∙ ap (λ bs. bs ++ not (is_null c) ∷ []) is_there ∙ sym (map-append (λ c. not (is_null c)) cs (c ∷ [])),
      ends cs c so_far is more,
      content_is,
    )

-- the column of all cells
pub column_of : (k : Kind) (n : ℕ) (r : Result Parts Unread) (ws all : List (List ℕ)) (there there' : List Bool) (offsets offsets' bytes : List ℕ)
    → Found r (λ p. (p.kind ≡ n) × (p.rows ≡ length there') × (p.validity.items ≡ validity_bytes there') × (p.offsets.items ≡ offsets') × (p.«data».items ≡ bytes)) ⊥
    → Filled k ws there offsets bytes → ws ≡ all → there' ≡ there → offsets' ≡ offsets → n ≡ kind_number k
    → Finds r (λ p. (cs : List Cell) × AllZip (IsCell k) all cs × Holds k cs p)
column_of k n (Ok p) ws all there there' offsets offsets' bytes (kind, rows, validity, ends, content) (cs, zip, few, is_there, are, is) same shown known coded = (
  cs,
  subst (λ ws. AllZip (IsCell k) ws cs) same zip,
  (few, kind ∙ coded, rows ∙ ap length (shown ∙ is_there) ∙ length-map cs (λ c. not (is_null c)), validity ∙ ap validity_bytes (shown ∙ is_there), ends ∙ known ∙ are, content ∙ is),
)
column_of k n (Err Malformed) ws all there there' offsets offsets' bytes h filled same shown known coded = absurd h
column_of k n (Err OutOfMemory) ws all there there' offsets offsets' bytes h filled same shown known coded = tt

-- where the strings end, with one more
offsets_push : (at : ℕ) (cs : List Cell) (c : Cell) → offsets_from at (cs ++ c ∷ []) ≡ offsets_from at cs ++ (at + (length (flat_map string_content cs) + length (string_content c))) ∷ []
offsets_push at [] c = ap (λ n. at ∷ (at + n) ∷ []) (let e : length (string_content c) ≡ 0 + length (string_content c) = omega arith in e)
offsets_push at (b ∷ cs) c =
    let e : at + length (string_content b) + (length (flat_map string_content cs) + length (string_content c)) ≡ at + (length (string_content b ++ flat_map string_content cs) + length (string_content c)) = simp length-append (omega arith) in
    ap (λ os. at ∷ os) (offsets_push (at + length (string_content b)) cs c ∙ ap (λ n. offsets_from (at + length (string_content b)) cs ++ n ∷ []) e)

-- an end more, behind those so far
pub ends_more : (offsets offsets' bytes bytes' : List ℕ) → offsets' ≡ offsets ++ length bytes' ∷ [] → (cs : List Cell) (c : Cell)
    → offsets ≡ offsets_from 0 cs → bytes ≡ flat_map string_content cs → bytes' ≡ bytes ++ string_content c → offsets' ≡ offsets_from 0 (cs ++ c ∷ [])
ends_more offsets offsets' bytes bytes' ends cs c so_far is more =
    let n : length bytes' ≡ 0 + (length (flat_map string_content cs) + length (string_content c)) = omega (arith, ap length (more ∙ ap (λ bs. bs ++ string_content c) is), length-append (flat_map string_content cs) (string_content c)) in
    ends ∙ ap (λ os. os ++ length bytes' ∷ []) so_far ∙ ap (λ n. offsets_from 0 cs ++ n ∷ []) n ∙ sym (offsets_push 0 cs c)

-- where a word writes no cell, the words write none
no_cells : (k : Kind) (ws : List (List ℕ)) (i : ℕ) (t : List ℕ) → i < length ws → t ≡ get_or ws i t → ((c : Cell) → IsCell k t c → ⊥) → (cs : List Cell) → AllZip (IsCell k) ws cs → ⊥
no_cells k [] i t short at none cs all = absurd (omega (arith, short))
no_cells k (w ∷ ws) i t short at none [] all = absurd all
no_cells k (w ∷ ws) zero t short at none (c ∷ cs) all = none c (subst (λ v. IsCell k v c) (sym at) all.0)
no_cells k (w ∷ ws) (suc i) t short at none (c ∷ cs) all = no_cells k ws i t (omega (arith, short)) at none cs all.1

-- a word that writes no cell, handed on
pub word_refused : (k : Kind) (content : Cell → List ℕ) (t : List ℕ) (there there' : List Bool) (bytes bytes' : List ℕ) (G : Unread → Type 0) (r : Result (Unit {0}) Unread) (q : Result Parts Unread) (e : Unread) (ws : List (List ℕ)) (i : ℕ)
    → Found r (λ _. Added k content t there there' bytes bytes') ((c : Cell) → IsCell k t c → ⊥) → r ≡ Err e → IsErrAnd q G → ((f : Unread) → G f → f ≡ e) → (i < length ws) × (t ≡ get_or ws i t)
    → Finds q (λ p. (cs : List Cell) × AllZip (IsCell k) ws cs × Holds k cs p)
word_refused k content t there there' bytes bytes' G r q e ws i found is passed same turn =
    found_on _ _ (λ p. (cs : List Cell) × AllZip (IsCell k) ws cs × Holds k cs p) _ G r q e found is passed same (λ none p h. no_cells k ws i t turn.0 turn.1 none h.0 h.1)

-- all cells have the bytes of the first ones and those of a word behind them
most : (ws : List (List ℕ)) (cs ds : List Cell) (i k n : ℕ) (t : List ℕ) → i < length ws → t ≡ get_or ws i t → AllZip (IsCell strings) (take i ws) ds → AllZip (IsCell strings) ws cs
    → ((c : Cell) → IsCell strings t c → n ≤ k + (length (flat_map string_content ds) + length (string_content c))) → n ≤ k + length (flat_map string_content cs)
most [] cs ds i k n t short at front all far = absurd (omega (arith, short))
most (w ∷ ws) [] ds i k n t short at front all far = absurd all
most (w ∷ ws) (c ∷ cs) [] zero k n t short at front all far =
    let here = far c (subst (λ v. IsCell strings v c) (sym at) all.0) in omega (arith, here, length-append (string_content c) (flat_map string_content cs))
most (w ∷ ws) (c ∷ cs) (d ∷ ds) zero k n t short at front all far = absurd front
most (w ∷ ws) (c ∷ cs) [] (suc i) k n t short at front all far = absurd front
most (w ∷ ws) (c ∷ cs) (d ∷ ds) (suc i) k n t short at front all far =
    let same = ap length (one_content w c d all.0 front.0) in
    let rest = most ws cs ds i (k + length (string_content d)) n t (omega (arith, short)) at front.1 all.1 (λ e is. let here = far e is in omega (arith, here, length-append (string_content d) (flat_map string_content ds))) in
    omega (arith, same, rest, length-append (string_content c) (flat_map string_content cs))

-- where 32 bits say no end of the strings so far and one more, the words write no column
too_far : (ws front : List (List ℕ)) (i : ℕ) (t : List ℕ) (there : List Bool) (offsets bytes : List ℕ) → i < length ws → t ≡ get_or ws i t → front ≡ take i ws → Filled strings front there offsets bytes
    → ((c : Cell) → IsCell strings t c → 2 ^ 32 ≤ length (bytes ++ string_content c)) → (cs : List Cell) → AllZip (IsCell strings) ws cs → OffsetsReach strings cs → ⊥
too_far ws front i t there offsets bytes short at so_far (ds, read, few, is_there, ends, is) far cs all reach =
    let long = most ws cs ds i 0 (2 ^ 32) t short at (subst (λ us. AllZip (IsCell strings) us ds) so_far read) all
    (λ c cell. let here = far c cell in omega (arith, here, length-append bytes (string_content c), ap length is)) in
    omega (arith, long, reach)

-- a byte string that is not added, handed on
pub string_refused : (t : List ℕ) (there there' : List Bool) (offsets offsets' bytes bytes' : List ℕ) (G : Unread → Type 0) (r : Result (Unit {0}) Unread) (q : Result Parts Unread) (e : Unread) (ws front : List (List ℕ)) (i : ℕ)
    → Found r (λ _. (c : Cell) × IsCell strings t c × (there' ≡ there ++ not (is_null c) ∷ []) × (offsets' ≡ offsets ++ length bytes' ∷ []) × (bytes' ≡ bytes ++ string_content c) × (length bytes' < 2 ^ 32))
    ((c : Cell) → IsCell strings t c → 2 ^ 32 ≤ length (bytes ++ string_content c))
    → r ≡ Err e → IsErrAnd q G → ((f : Unread) → G f → f ≡ e) → (i < length ws) × (t ≡ get_or ws i t) → front ≡ take i ws → Filled strings front there offsets bytes
    → Finds q (λ p. (cs : List Cell) × AllZip (IsCell strings) ws cs × Holds strings cs p)
string_refused t there there' offsets offsets' bytes bytes' G r q e ws front i found is passed same turn so_far filled =
    found_on _ _ (λ p. (cs : List Cell) × AllZip (IsCell strings) ws cs × Holds strings cs p) _ G r q e found is passed same
    (λ far p h. too_far ws front i t there offsets bytes turn.0 turn.1 so_far filled far h.0 h.1 h.2.0)
