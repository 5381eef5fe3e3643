-- Byte strings one after another: their bytes, their offsets, and the space that they need.
use Rattle.std.proofs.Common.{◌≡◌, ℕ, zero, suc, ◌-◌, ◌+◌, ◌*◌, ◌^◌, ◌<◌, ◌≤◌, true, List, [], ◌∷◌, ◌++◌, map, length, set, None, Some, Option, refl, sym, ap, ◌∙◌, arith, length-append, length-take}
use borrow.Rule.Slice.PartMut.{put_mid}
use Rattle.std.specs.List.{flat_map}
use Rattle.std.proofs.lemmas.Bool.{lt-ltb}
use Rattle.column.specs.Cells.{Cell, strings}
use Rattle.layout.specs.declared.short.ShortBytes.{ShortBytes}
use Rattle.layout.specs.Layout.{string_content, offsets_from, over, laid_out}
use Rattle.layout.specs.Written.{short_cell, reached}
use Rattle.layout.proofs.Overs.{over_part, over_push}
use Rattle.layout.proofs.Sources.{rows_of, rows_more, rows_length, joined_next}

pub offsets_length : (at : ℕ) (cs : List Cell) → length (offsets_from at cs) ≡ length cs + 1
offsets_length at [] = refl
offsets_length at (c ∷ cs) = let ih = offsets_length (at + length (string_content c)) cs in omega arith

offsets_push : (at : ℕ) (cs : List Cell) (c : Cell) → offsets_from at (cs ++ c ∷ []) ≡ offsets_from at cs ++ (at + (length (flat_map string_content cs) + length (string_content c))) ∷ []
offsets_push at [] c = ap (λ n. at ∷ (at + n) ∷ []) (let e : length (string_content c) ≡ 0 + length (string_content c) = omega arith in e)
offsets_push at (b ∷ cs) c =
    let e : at + length (string_content b) + (length (flat_map string_content cs) + length (string_content c)) ≡ at + (length (string_content b ++ flat_map string_content cs) + length (string_content c)) = simp length-append (omega arith) in
    ap (λ os. at ∷ os) (offsets_push (at + length (string_content b)) cs c ∙ ap (λ n. offsets_from (at + length (string_content b)) cs ++ n ∷ []) e)

-- one more string, whose end is known
module _ (shows : ℕ → Cell) (i : ℕ) where
  pub offsets_next : (n : ℕ) → n ≡ length (flat_map string_content (rows_of shows (i + 1))) → offsets_from 0 (rows_of shows i) ++ n ∷ [] ≡ offsets_from 0 (rows_of shows (i + 1))
  offsets_next n e =
      let j = ap length (joined_next shows string_content i) in
      let l = length-append (flat_map string_content (rows_of shows i)) (string_content (shows i)) in
      ap (λ k. offsets_from 0 (rows_of shows i) ++ k ∷ []) (let z : n ≡ 0 + (length (flat_map string_content (rows_of shows i)) + length (string_content (shows i))) = omega arith in z)
      ∙ sym (offsets_push 0 (rows_of shows i) (shows i))
      ∙ ap (offsets_from 0) (sym (rows_more shows i))

  pub offset_put : (n : ℕ) (out before : List ℕ) → n ≡ length (flat_map string_content (rows_of shows (i + 1))) → i + 1 < length before
      → out ≡ over (offsets_from 0 (rows_of shows i)) before → set out (i + 1) n ≡ over (offsets_from 0 (rows_of shows (i + 1))) before
  offset_put n out before e r o =
      let t = rows_length shows i in
      let l = offsets_length 0 (rows_of shows i) in
      ap (λ z. set z (i + 1) n) o
      ∙ over_push (offsets_from 0 (rows_of shows i)) before (i + 1) n (omega arith) r
      ∙ ap (λ p. over p before) (offsets_next n e)

  pub bytes_put : (n k : ℕ) (out ys before : List ℕ) → n ≡ length (flat_map string_content (rows_of shows i)) → k ≡ length ys → ys ≡ string_content (shows i)
      → out ≡ over (flat_map string_content (rows_of shows i)) before → put_mid n k out ys ≡ over (flat_map string_content (rows_of shows (i + 1))) before
  bytes_put n k out ys before e f y o =
      ap (λ z. put_mid n k z ys) o
      ∙ over_part (flat_map string_content (rows_of shows i)) ys before n k (sym e) (sym f)
      ∙ ap (λ p. over p before) (ap (λ z. flat_map string_content (rows_of shows i) ++ z) y ∙ sym (joined_next shows string_content i))

  pub end_next : (n : ℕ) (ys : List ℕ) → n ≡ length (flat_map string_content (rows_of shows i)) → ys ≡ string_content (shows i) → n + length ys ≡ length (flat_map string_content (rows_of shows (i + 1)))
  end_next n ys e y =
      let j = ap length (joined_next shows string_content i) in
      let l = length-append (flat_map string_content (rows_of shows i)) (string_content (shows i)) in
      let z = ap length y in
      omega arith

-- some rows have no more bytes than all
pub rows_within : (shows : ℕ → Cell) (m k : ℕ) → length (flat_map string_content (rows_of shows m)) ≤ length (flat_map string_content (rows_of shows (m + k)))
rows_within shows m zero = let e : m + 0 ≡ m = omega arith in rw e (omega arith)
rows_within shows m (suc k) =
    let ih = rows_within shows m k in
    let e : m + suc k ≡ m + k + 1 = omega arith in
    let j = ap length (joined_next shows string_content (m + k)) in
    let l = length-append (flat_map string_content (rows_of shows (m + k))) (string_content (shows (m + k))) in
    rw e (omega arith)

pub rows_below : (shows : ℕ → Cell) (m n : ℕ) → m ≤ n → length (flat_map string_content (rows_of shows m)) ≤ length (flat_map string_content (rows_of shows n))
rows_below shows m n h = let w = rows_within shows m (n - m) in let e : m + (n - m) ≡ n = omega arith in rw e at w

-- strings held by value have at most 32 bytes each, so that 32-bit offsets reach the end of few of them
short_few : (o : Option ShortBytes) → length (string_content (short_cell o)) ≤ 32
short_few None = omega arith
short_few (Some x) = let f = x.few in let l = length-take x.len x.bytes in omega arith

pub strings_few : (xs : List (Option ShortBytes)) → length (flat_map string_content (map short_cell xs)) ≤ 32 * length xs
strings_few [] = omega arith
strings_few (x ∷ xs) = let ih = strings_few xs in let h = short_few x in simp length-append (omega arith)

pub few_reach : (xs : List (Option ShortBytes)) → length xs ≤ 256 → reached strings (laid_out strings (map short_cell xs)) ≡ true
few_reach xs h = let f = strings_few xs in lt-ltb (length (flat_map string_content (map short_cell xs))) (2 ^ 32) (omega arith)
