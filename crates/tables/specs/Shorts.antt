-- Shorts: that the cells which a table can hold are short as byte strings, for the law of HeldCell: the laws of an impl cite no proofs of its own crate.
--   number_short, fields_short, text_short   a number, a record and a string that is held by value have at most 32 bytes there
use Rattle.std.specs.Prelude.{◌≤◌, List, length, ℤ, Some, None, Option}
use Rattle.std.proofs.Common.{refl, sym, subst}
use Rattle.std.proofs.lemmas.Bool.{leb-true}
use Rattle.std.proofs.lemmas.List.{length-take-le}
use Rattle.column.specs.Cells.{number_cell, fields_cell}
use Rattle.layout.specs.Layout.{string_content}
use Rattle.layout.specs.Written.{short_cell}
use Rattle.layout.specs.declared.short.ShortBytes.{ShortBytes}

pub number_short : (x : Option ℤ) → length (string_content (number_cell x)) ≤ 32
number_short None = leb-true 0 32 refl
number_short (Some z) = leb-true 0 32 refl

pub fields_short : (x : Option (List (Option ℤ))) → length (string_content (fields_cell x)) ≤ 32
fields_short None = leb-true 0 32 refl
fields_short (Some fs) = leb-true 0 32 refl

pub text_short : (x : Option ShortBytes) → length (string_content (short_cell x)) ≤ 32
text_short None = leb-true 0 32 refl
text_short (Some x) = subst (λ k. k ≤ 32) (sym (length-take-le x.len x.bytes (subst (λ k. x.len ≤ k) (sym x.whole) x.few))) x.few
