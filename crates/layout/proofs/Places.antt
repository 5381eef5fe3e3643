-- The space that a column of cells needs, and what buffers that have a place for it have room for.
use Rattle.std.proofs.Common.{◌≡◌, ℕ, ◌+◌, ◌*◌, ◌/◌, ◌^◌, ◌<◌, ◌≤◌, true, cond, ◌&&◌, ltb, [], length, Some, None, Option, refl, sym, ap, ◌∙◌, arith}
use Rattle.std.specs.List.{flat_map}
use Rattle.std.proofs.lemmas.Bool.{leb-true, lt-ltb, le-ltb, and_parts}
use Rattle.std.proofs.lemmas.Option.{cond_some}
use Rattle.column.specs.Cells.{Kind, numbers, strings, records, Cell}
use Rattle.layout.specs.declared.Space.{Space}
use Rattle.layout.specs.Layout.{Parts, number_content, string_content, record_content, offsets_from, validity_of, room}
use Rattle.layout.specs.Written.{rows_laid, measured, reached, has_place}
use Rattle.layout.proofs.Contents.{content_length, record_length, validity_length}
use Rattle.layout.proofs.Offsets.{offsets_length}
use Rattle.layout.proofs.Overs.{joined_length}
use Rattle.layout.proofs.Sources.{rows_of, rows_length}

measured_wide : (p : Parts) (v n : ℕ) → length p.validity ≡ v → p.offsets ≡ [] → length p.content ≡ n
    → cond (ltb n (2 ^ 64)) (Some (record { validity = v; offsets = 0; «data» = n })) None ≡ measured p
measured_wide p v n e f h = sym (rw (e, f, h))

module _ (shows : ℕ → Cell) (rows : ℕ) where
  rows_validity : length (validity_of (rows_of shows rows)) ≡ (rows + 7) / 8
  rows_validity = validity_length (rows_of shows rows) ∙ ap (λ n. (n + 7) / 8) (rows_length shows rows)

  rows_offsets : length (offsets_from 0 (rows_of shows rows)) ≡ rows + 1
  rows_offsets = offsets_length 0 (rows_of shows rows) ∙ ap (λ n. n + 1) (rows_length shows rows)

  numbers_content : length (flat_map number_content (rows_of shows rows)) ≡ 8 * rows
  numbers_content = joined_length number_content 8 content_length (rows_of shows rows) ∙ ap (λ n. 8 * n) (rows_length shows rows)

  records_content : length (flat_map record_content (rows_of shows rows)) ≡ 25 * rows
  records_content = joined_length record_content 25 record_length (rows_of shows rows) ∙ ap (λ n. 25 * n) (rows_length shows rows)

  pub numbers_measured : cond (ltb (8 * rows) (2 ^ 64)) (Some (record { validity = (rows + 7) / 8; offsets = 0; «data» = 8 * rows })) None ≡ measured (rows_laid numbers shows rows)
  numbers_measured = measured_wide (rows_laid numbers shows rows) ((rows + 7) / 8) (8 * rows) rows_validity refl numbers_content

  pub records_measured : cond (ltb (25 * rows) (2 ^ 64)) (Some (record { validity = (rows + 7) / 8; offsets = 0; «data» = 25 * rows })) None ≡ measured (rows_laid records shows rows)
  records_measured = measured_wide (rows_laid records shows rows) ((rows + 7) / 8) (25 * rows) rows_validity refl records_content

  pub strings_unmeasured : 2 ^ 64 ≤ rows + 1 → ◌≡◌ {A = Option Space} None (measured (rows_laid strings shows rows))
  strings_unmeasured h =
      let o = rows_offsets in
      let b = le-ltb (length (offsets_from 0 (rows_of shows rows))) (2 ^ 64) (omega arith) in
      sym (rw b)

  pub strings_measured : (v o d : ℕ) → v ≡ (rows + 7) / 8 → rows + 1 < 2 ^ 64 → o ≡ rows + 1
      → Some d ≡ cond (ltb (length (flat_map string_content (rows_of shows rows))) (2 ^ 64)) (Some (length (flat_map string_content (rows_of shows rows)))) None
      → Some (record { validity = v; offsets = o; «data» = d }) ≡ measured (rows_laid strings shows rows)
  strings_measured v o d e h f k =
      let a = rows_offsets in
      let t = cond_some (ltb (length (flat_map string_content (rows_of shows rows))) (2 ^ 64)) (length (flat_map string_content (rows_of shows rows))) d (sym k) in
      let b = lt-ltb (length (offsets_from 0 (rows_of shows rows))) (2 ^ 64) (omega arith) in
      sym (rw (b, t.0, rows_validity, a, t.1, ← e, ← f))

  -- what buffers have room for where there is a place for the column
  places : (k : Kind) (before : Parts) → has_place k (rows_laid k shows rows) before ≡ true
      → (length (rows_laid k shows rows).validity ≤ length before.validity) × (length (rows_laid k shows rows).offsets ≤ length before.offsets) × (length (rows_laid k shows rows).content ≤ length before.content)
  places k before h =
      let p = rows_laid k shows rows in
      let a = and_parts (reached k p) (room p.validity before.validity && (room p.offsets before.offsets && room p.content before.content)) h in
      let b = and_parts (room p.validity before.validity) (room p.offsets before.offsets && room p.content before.content) a.1 in
      let d = and_parts (room p.offsets before.offsets) (room p.content before.content) b.1 in
      (leb-true (length p.validity) (length before.validity) b.0, leb-true (length p.offsets) (length before.offsets) d.0, leb-true (length p.content) (length before.content) d.1)

  pub validity_place : (k : Kind) (before : Parts) → has_place k (rows_laid k shows rows) before ≡ true → (rows + 7) / 8 ≤ length before.validity
  validity_place numbers before h = let p = places numbers before h in let v = rows_validity in omega (arith, p.0)
  validity_place strings before h = let p = places strings before h in let v = rows_validity in omega (arith, p.0)
  validity_place records before h = let p = places records before h in let v = rows_validity in omega (arith, p.0)

  pub numbers_place : (before : Parts) → has_place numbers (rows_laid numbers shows rows) before ≡ true → 8 * rows ≤ length before.content
  numbers_place before h = let p = places numbers before h in let v = numbers_content in omega (arith, p.2)

  pub records_place : (before : Parts) → has_place records (rows_laid records shows rows) before ≡ true → 25 * rows ≤ length before.content
  records_place before h = let p = places records before h in let v = records_content in omega (arith, p.2)

  pub strings_place : (before : Parts) → has_place strings (rows_laid strings shows rows) before ≡ true → rows < length before.offsets
  strings_place before h = let p = places strings before h in let v = rows_offsets in omega (arith, p.1)
