-- Books that answer alike have the same winners: the state of one group at a time shows each of them.
use Rattle.std.proofs.Common.{◌≡◌, ℕ, zero, suc, ◌+◌, ◌^◌, ◌≤◌, ◌<◌, true, false, ltb, List, [], ◌∷◌, ◌++◌, length, get_or, replicate, All, IfSome, Some, None, Option, refl, sym, ap, ap₂, ◌∙◌, append_assoc, append-nil, arith}
use Rattle.std.specs.List.{AllZip}
use Rattle.std.proofs.lemmas.Bool.{le-leb, le-ltb, and_from}
use Rattle.std.proofs.lemmas.List.{get_or_at, length_push, ext_get_or, length-replicate}
use Rattle.std.proofs.lemmas.List.Elements.{All-nil, All-cons, All-head, All-tail, All-replicate}
use Rattle.std.proofs.lemmas.Nat.{pow_pos}
use Rattle.column.specs.Cells.{Kind, numbers, strings, records, Cell, null, number, text, fields, Proper}
use Rattle.column.specs.Faults.{FEWER}
use Rattle.layout.specs.Layout.{Parts, FlagParts, packed, string_content, record_content, laid_out, written, written_all, fits, fits_flags}
use Rattle.layout.proofs.Contents.{content_length}
use Rattle.book.specs.Winners.{Row, Making, winner, winners}
use Rattle.book.specs.Batches.{Book}
use Rattle.book.specs.Declines.{own}
use Rattle.book.specs.Emission.{first, Outputs, value_shown, key_shown, key_parts, set_parts, keys_short, state_declined}
use Rattle.book.specs.Calls.{Call, state, refused, Answer, answer, answers, after, answered}
use Rattle.agreement.specs.Passable.{Slice, PassableParts, Passable}
use Rattle.agreement.specs.Room.{RoomForOne}
use Rattle.agreement.proofs.Showing.{cell_same, validity_same, record_length}
use Rattle.agreement.proofs.Taken.{RowProper, Shown, winner_proper}

-- Room for any one cell

record_content_length : (c : Cell) → length (record_content c) ≡ 25
record_content_length null = refl
record_content_length (number z) = refl
record_content_length (text bs) = refl
record_content_length (fields a b c) = record_length a b c

string_content_length : (k : Kind) (c : Cell) → Proper k c → length (string_content c) ≤ 16777215
string_content_length k null p = omega arith
string_content_length k (number z) p = omega arith
string_content_length k (text bs) p = p.2
string_content_length k (fields a b c) p = omega arith

fits_in : (p out : Parts) → length p.validity ≤ length out.validity → length p.offsets ≤ length out.offsets → length p.content ≤ length out.content → fits p out ≡ true
fits_in p out x y z = and_from _ _ (le-leb _ _ x) (and_from _ _ (le-leb _ _ y) (le-leb _ _ z))

pub cell_fits : RoomForOne 16777215
unfolding packed
cell_fits numbers c p out v o d =
    let n = content_length c in
    fits_in (laid_out numbers (c ∷ [])) out (omega arith) (omega arith) (simp append-nil (omega arith))
cell_fits strings c p out v o d =
    let n = string_content_length strings c p in
    fits_in (laid_out strings (c ∷ [])) out (omega arith) (omega arith) (simp append-nil (omega arith))
cell_fits records c p out v o d =
    let n = record_content_length c in
    fits_in (laid_out records (c ∷ [])) out (omega arith) (omega arith) (simp append-nil (omega arith))

-- Buffers for one group

enough : ℕ
enough = 16777215

enough_is : 16777215 ≡ enough
unfolding enough
enough_is = refl

zeros : List ℕ
zeros = replicate enough 0

zeros_length : length zeros ≡ 16777215
unfolding zeros
zeros_length = length-replicate enough 0 ∙ sym enough_is

abbrev blank : Parts
blank = record { validity = zeros; offsets = zeros; content = zeros }

abbrev blank_flags : FlagParts
blank_flags = record { validity = zeros; bits = zeros }

blank_fits : (k : Kind) (c : Cell) → Proper k c → fits (laid_out k (c ∷ [])) blank ≡ true
blank_fits k c p = let n = zeros_length in cell_fits k c p blank (omega arith) (omega arith) (omega arith)

-- Keys

-- what a winner shows in the key columns of these kinds, from column j on
abbrev KeysProper : ℕ → List Kind → Option Row → Type 0
KeysProper j [] w = Unit {0}
KeysProper j (k ∷ ks) w = Proper k (key_shown j w) × KeysProper (suc j) ks w

keys_none : (j : ℕ) (ks : List Kind) → KeysProper j ks None
keys_none j [] = tt
keys_none j (k ∷ ks) = (tt, keys_none (suc j) ks)

keys_some : (r : Row) (ks : List Kind) (pre cs : List Cell) (j : ℕ) → r.key ≡ pre ++ cs → length pre ≡ j → AllZip Proper ks cs → KeysProper j ks (Some r)
keys_some r [] pre cs j e n s = tt
keys_some r (k ∷ ks) pre [] j e n s = absurd s
keys_some r (k ∷ ks) pre (c ∷ cs) j e n s =
    let at : get_or r.key j null ≡ c = ap (λ l. get_or l j null) e ∙ get_or_at pre c cs null j n in
    (rw at s.0, keys_some r ks (pre ++ c ∷ []) cs (suc j) (e ∙ sym (append_assoc pre (c ∷ []) cs)) (let l = length_push pre c in omega arith) s.1)

keys_fit : (j : ℕ) (ks : List Kind) (outs : ℕ) (w : Option Row) → length ks ≤ outs → KeysProper j ks w → keys_short j (key_parts j ks (w ∷ [])) (replicate outs blank) ≡ None
keys_fit j [] outs w l s = refl
keys_fit j (k ∷ ks) zero w l s = absurd (omega arith)
keys_fit j (k ∷ ks) (suc outs) w l s = rw (blank_fits k (key_shown j w) s.0) (keys_fit (suc j) ks outs w (omega arith) s.1)

keys_tell : (j : ℕ) (ks : List Kind) (outs : ℕ) (w v : Option Row) → length ks ≤ outs → KeysProper j ks w → KeysProper j ks v
    → written_all (key_parts j ks (w ∷ [])) (replicate outs blank) ≡ written_all (key_parts j ks (v ∷ [])) (replicate outs blank)
    → (i : ℕ) → i < length ks → key_shown (j + i) w ≡ key_shown (j + i) v
keys_tell j [] outs w v l s t e i h = absurd (omega arith)
keys_tell j (k ∷ ks) zero w v l s t e i h = absurd (omega arith)
keys_tell j (k ∷ ks) (suc outs) w v l s t e zero h =
    let z : j + 0 ≡ j = omega arith in
    let f : written (laid_out k (key_shown j w ∷ [])) blank ≡ written (laid_out k (key_shown j v ∷ [])) blank = cc in
    rw z (cell_same k (key_shown j w) (key_shown j v) s.0 t.0 blank f)
keys_tell j (k ∷ ks) (suc outs) w v l s t e (suc i) h =
    let z : j + suc i ≡ suc j + i = omega arith in
    rw z (keys_tell (suc j) ks outs w v (omega arith) s.1 t.1 (cc) i (omega arith))

zip_length : {A B : Type 0} (R : A → B → Type 0) (xs : List A) (ys : List B) → AllZip R xs ys → length xs ≡ length ys
zip_length R [] [] h = refl
zip_length R [] (y ∷ ys) h = absurd h
zip_length R (x ∷ xs) [] h = absurd h
zip_length R (x ∷ xs) (y ∷ ys) h = ap suc (zip_length R xs ys h.1)

-- The state of one group

abbrev one : Call
one = state (first 1)

-- the buffers that one group is shown in
abbrev probe : Outputs
probe = record { values = blank; keys = replicate 3 blank; flags = blank_flags }

slice : (w : ℕ) → Slice w zeros
unfolding zeros
slice w = record { elements = All-replicate (λ x. x < 2 ^ w) enough 0 (pow_pos w); size = let n = zeros_length in omega arith }

passable : Passable (one, probe)
passable =
    let p : PassableParts blank = record { validity = slice 8; offsets = slice 32; content = slice 8 } in
    (omega arith, (p, All-replicate PassableParts 3 blank p, refl, record { validity = slice 8; bits = slice 8 }))

flags_fit : (w : Option Row) → fits_flags (set_parts (w ∷ [])) blank_flags ≡ true
unfolding packed
flags_fit w =
    let n = zeros_length in
    let p = set_parts (w ∷ []) in
    and_from _ _ (le-leb (length p.validity) (length zeros) (omega arith)) (le-leb (length p.bits) (length zeros) (omega arith))

module _ (m : Making) where
  keys_proper : (w : Option Row) → IfSome w (RowProper m) → KeysProper 0 m.order.kinds w
  keys_proper None f = keys_none 0 m.order.kinds
  keys_proper (Some r) f = keys_some r m.order.kinds [] r.key 0 refl refl f.of_key

  value_proper : (w : Option Row) → IfSome w (RowProper m) → Proper m.state.kind (value_shown w)
  value_proper None f = tt
  value_proper (Some r) f = f.of_value

  not_declined : (w : Option Row) (ws : List (Option Row)) → length m.order.kinds ≤ 3 → IfSome w (RowProper m) → state_declined m (w ∷ ws) (first 1) probe ≡ None
  unfolding state_declined
  not_declined w ws l f =
      let a : ltb (suc (length ws)) 1 ≡ false = le-ltb (suc (length ws)) 1 (omega arith) in
      let b = blank_fits m.state.kind (value_shown w) (value_proper w f) in
      let c = keys_fit 0 m.order.kinds 3 w l (keys_proper w f) in
      let d = flags_fit w in
      rw (a, b, c, d)

  -- what is written tells the winner
  winner_told : (w v : Option Row) → length m.order.kinds ≤ 3 → IfSome w (RowProper m) → IfSome v (RowProper m)
      → answered m (w ∷ []) one probe ≡ answered m (v ∷ []) one probe → w ≡ v
  winner_told None None l f g e = refl
  winner_told None (Some s) l f g e = let h = validity_same false true zeros (ap (λ (a : Answer). a.outputs.flags.bits) e) in cc
  winner_told (Some r) None l f g e = let h = validity_same true false zeros (ap (λ (a : Answer). a.outputs.flags.bits) e) in cc
  winner_told (Some r) (Some s) l f g e =
      let v : r.value ≡ s.value = cell_same m.state.kind r.value s.value f.of_value g.of_value blank (ap (λ (a : Answer). a.outputs.values) e) in
      let t = keys_tell 0 m.order.kinds 3 (Some r) (Some s) l (keys_proper (Some r) f) (keys_proper (Some s) g) (ap (λ (a : Answer). a.outputs.keys) e) in
      let n = zip_length Proper m.order.kinds r.key f.of_key in
      let o = zip_length Proper m.order.kinds s.key g.of_key in
      let k : r.key ≡ s.key = ext_get_or null r.key s.key (sym n ∙ o) (λ i h. let z : 0 + i ≡ i = omega arith in rw z at (t i (omega arith))) in
      λ i. Some (record { value = v i; key = k i })

  told : (g : List Row) (b : Book) → length m.order.kinds ≤ 3 → All (RowProper m) g → answer m (g ∷ b) one probe ≡ answered m (winner m g ∷ winners m b) one probe
  unfolding answer winners
  told g b l s = rw (not_declined (winner m g) (winners m b) l (winner_proper m g s))

  left : (g : List Row) (b : Book) → length m.order.kinds ≤ 3 → All (RowProper m) g → after m (g ∷ b) one probe ≡ b
  unfolding after winners
  left g b l s = rw (not_declined (winner m g) (winners m b) l (winner_proper m g s))

  none_told : answer m [] one probe ≡ record { result = refused (own FEWER); outputs = probe }
  unfolding answer winners state_declined
  none_told = refl

  abbrev Alike : Book → Book → Type 0
  Alike b c = (further : List (Call × Outputs)) → All Passable further → answers m b further ≡ answers m c further

  asked : (b c : Book) → Alike b c → answer m b one probe ≡ answer m c one probe
  asked b c h = let e = h ((one, probe) ∷ []) (All-cons Passable (one, probe) [] passable (All-nil Passable)) in cc

  -- what is shown of a group, and of the others
  group_shown : (g : List Row) (b : Book) → Shown m (g ∷ b) → length m.order.kinds ≤ 3
  group_shown g b s = s.few (omega arith)

  rest_shown : (g : List Row) (b : Book) → Shown m (g ∷ b) → Shown m b
  rest_shown g b s = record { rows = All-tail (All (RowProper m)) g b s.rows; few = λ h. group_shown g b s }

  pub winners_told : (b c : Book) → Shown m b → Shown m c → Alike b c → winners m b ≡ winners m c
  unfolding winners
  winners_told [] [] s t h = refl
  winners_told [] (g ∷ c) s t h =
      let e = sym none_told ∙ asked [] (g ∷ c) h ∙ told g c (group_shown g c t) (All-head (All (RowProper m)) g c t.rows) in
      let r = ap (λ (a : Answer). a.result) e in
      cc
  winners_told (g ∷ b) [] s t h =
      let e = sym (told g b (group_shown g b s) (All-head (All (RowProper m)) g b s.rows)) ∙ asked (g ∷ b) [] h ∙ none_told in
      let r = ap (λ (a : Answer). a.result) e in
      cc
  winners_told (g ∷ b) (f ∷ c) s t h =
      let l = group_shown g b s in
      let x = All-head (All (RowProper m)) g b s.rows in
      let y = All-head (All (RowProper m)) f c t.rows in
      let e = sym (told g b l x) ∙ asked (g ∷ b) (f ∷ c) h ∙ told f c l y in
      let w = winner_told (winner m g) (winner m f) l (winner_proper m g x) (winner_proper m f y) e in
      let rest : Alike b c = λ further p. ap (λ x. answers m x further) (sym (left g b l x)) ∙ go further (h ((one, probe) ∷ further) (All-cons Passable (one, probe) further passable p)) ∙ ap (λ x. answers m x further) (left f c l y) in
      ap₂ (λ x y. x ∷ y) w (winners_told b c (rest_shown g b s) (rest_shown f c t) rest)
    where
      go : (further : List (Call × Outputs)) → answers m (g ∷ b) ((one, probe) ∷ further) ≡ answers m (f ∷ c) ((one, probe) ∷ further) → answers m (after m (g ∷ b) one probe) further ≡ answers m (after m (f ∷ c) one probe) further
      go further e = cc
