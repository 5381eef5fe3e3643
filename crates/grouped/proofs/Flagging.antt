-- The set flags of the first groups, read off one after another.
use Rattle.std.proofs.Common.{◌≡◌, ℕ, zero, suc, ◌+◌, ◌<◌, ◌≤◌, List, [], ◌∷◌, map, length, take, Some, refl, ap, ap₂, ◌∙◌, arith}
use Rattle.std.specs.Option.{option_map}
use Rattle.std.specs.List.{slice_get}
use Rattle.column.specs.Columns.{count_up}
use Rattle.layout.specs.Layout.{laid_flags}
use Rattle.layout.specs.Written.{flags_laid}
use Rattle.tables.specs.declared.table.GroupTable.{Ghosts}
use Rattle.grouped.specs.Accumulators.{held}
use Rattle.grouped.specs.Leaving.{front}
use Rattle.grouped.specs.declared.slots.Slot.{Slot}
use Rattle.grouped.specs.declared.FirstLastGroupsAccumulator.{FirstLastGroupsAccumulator}
use Rattle.grouped.proofs.Holding.{flags_many}

later_rows : {X : Type 0} (x : X) (xs : List X) (s n : ℕ) → map (slice_get (x ∷ xs)) (count_up (suc s) n) ≡ map (slice_get xs) (count_up s n)
later_rows x xs s zero = refl
later_rows x xs s (suc n) = ap (λ l. slice_get xs s ∷ l) (later_rows x xs (suc s) n)

rows_read : {X : Type 0} (xs : List X) (n : ℕ) → n ≤ length xs → map (slice_get xs) (count_up 0 n) ≡ map Some (take n xs)
rows_read xs zero h = refl
rows_read [] (suc n) h = absurd (omega arith)
rows_read (x ∷ xs) (suc n) h = ap (λ l. Some x ∷ l) (later_rows x xs 0 n ∙ rows_read xs n (omega arith))

-- a flag of a slot is that of the held ones
flag_held : {X Y : Type 0} (f : X → Y) (xs : List X) (len k : ℕ) → k < len → option_map f (slice_get xs k) ≡ slice_get (map f (take len xs)) k
flag_held f [] len k h = go len
  where
    go : (l : ℕ) → option_map f (slice_get [] k) ≡ slice_get (map f (take l [])) k
    go zero = refl
    go (suc l) = refl
flag_held f (x ∷ xs) zero k h = absurd (omega arith)
flag_held f (x ∷ xs) (suc len) zero h = refl
flag_held f (x ∷ xs) (suc len) (suc k) h = flag_held f xs len k (omega arith)

same_rows : {Y : Type 0} (p q : ℕ → Y) (s n : ℕ) → ((k : ℕ) → k < s + n → p k ≡ q k) → map p (count_up s n) ≡ map q (count_up s n)
same_rows p q s zero h = refl
same_rows p q s (suc n) h = ap₂ (λ y ys. y ∷ ys) (h s (omega arith)) (same_rows p q (suc s) n (λ k l. h k (omega arith)))

pub slots_laid : {S O F G : Type 0} {s : Ghosts S F} {o : Ghosts O G} (a : FirstLastGroupsAccumulator S O F G s o) (n : ℕ) → n ≤ a.slots.len → flags_laid (front a).flags n ≡ laid_flags (map Some (take n (held a).flags))
slots_laid a n h =
    let flag = λ (x : Slot). x.set in
    let l = flags_many a in
    ap laid_flags (same_rows _ _ 0 n (λ k i. flag_held flag a.slots.slots a.slots.len k (omega arith)) ∙ rows_read (held a).flags n (omega arith))
