-- A cell of a column of byte strings, read for a table of short ones: it is put in if it is short, and each is where no offset is far above the one before.
use Rattle.std.proofs.Common.{◌≡◌, ℕ, ◌+◌, ◌-◌, ◌≤◌, Bool, true, false, cond, ◌&&◌, ltb, leb, List, [], ◌∷◌, length, get_or, drop, set, Some, None, Option, sym, refl, ap, ◌∙◌, arith, length-take}
use Rattle.std.specs.Option.{option_map}
use Rattle.std.proofs.lemmas.Bool.{and_parts, cond-true, le-leb, ltb-true}
use Rattle.std.proofs.lemmas.Option.{cond_some}
use Rattle.column.specs.Cells.{Cell, text, text_cell}
use Rattle.column.specs.Columns.{Column, octets, part, present, text_at, text_there}
use Rattle.layout.specs.declared.short.ShortBytes.{ShortBytes}
use Rattle.layout.specs.Written.{short_cell, short_seen}
use Rattle.tables.specs.Delivered.{takes_text}
use Rattle.tables.proofs.Strings.{octets_taken}
use Rattle.values.specs.Held.{NoneLong}

abbrev read : Option (List ℕ) → Cell
read t = text_cell (option_map octets t)

abbrev put : List (List Cell) → ℕ → Option (List ℕ) → List (List Cell)
put es g t = cond (takes_text (read t)) (set es g (read t ∷ [])) es

pub text_put : (es : List (List Cell)) (g : ℕ) (t : Option (List ℕ)) (bs : List ℕ) (x : ShortBytes) → Some bs ≡ t → Some (short_seen x) ≡ cond (leb (length bs) 32) (Some (octets bs)) None
    → set es g (short_cell (Some x) ∷ []) ≡ put es g t
text_put es g t bs x e h =
    let p = cond_some (leb (length bs) 32) (octets bs) (short_seen x) (sym h) in
    ap (λ z. set es g (text z ∷ [])) (sym p.1)
    ∙ sym (cond-true (takes_text (text (octets bs))) (set es g (text (octets bs) ∷ [])) es (octets_taken bs ∙ p.0))
    ∙ ap (put es g) e

pub null_put : (es : List (List Cell)) (g : ℕ) (t : Option (List ℕ)) → None ≡ t → set es g (short_cell None ∷ []) ≡ put es g t
null_put es g t e = ap (put es g) e

part_short : (start size : ℕ) (bs : List ℕ) → size ≤ 32 → takes_text (read (Some (part start size bs))) ≡ true
part_short start size bs h =
    let l = length-take size (drop start bs) in
    octets_taken (part start size bs) ∙ le-leb (length (part start size bs)) 32 (omega arith)

pub text_short : (c : Column) (r : ℕ) → NoneLong c.offsets → takes_text (read (text_at c r)) ≡ true
text_short c r h = go (present c.validity r) (text_there c r) refl
  where
    go : (a b : Bool) → b ≡ text_there c r → takes_text (read (cond (a && b) (Some (part (get_or c.offsets r 0) (get_or c.offsets (r + 1) 0 - get_or c.offsets r 0) c.content)) None)) ≡ true
    go false b e = refl
    go true false e = refl
    go true true e =
        let p = and_parts (ltb (r + 1) (length c.offsets)) (leb (get_or c.offsets r 0) (get_or c.offsets (r + 1) 0) && leb (get_or c.offsets (r + 1) 0) (length c.content)) (sym e) in
        let w = h r (ltb-true (r + 1) (length c.offsets) p.0) in
        part_short (get_or c.offsets r 0) (get_or c.offsets (r + 1) 0 - get_or c.offsets r 0) c.content (omega arith)
