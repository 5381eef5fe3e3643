-- Reading: what a part of a line is read as.
--   Told         what is read is so, or the part is malformed for this reason
--   Found        the same where memory may also not suffice, of which nothing is said
--   Tells        what is read is so, or nothing is and the part is malformed
--   Finds        the same where memory may also not suffice, of which nothing is said
--   ReadsNumber  a number is what the library reads, but for a plus sign in front, which makes it malformed
--   SomeUnread   a word of a text is no such number
--   ReadsBytes   bytes are two hexadecimal digits for each behind an `x`
use Rattle.std.specs.Prelude.{◌≡◌, ◌≢◌, ℕ, List, ◌∷◌, Result, Ok, Err, ◌⊎◌, IsErr, slice_index}
use Rattle.hex.specs.Hex.{decode_of}
use Rattle.std.specs.List.{Contains}
use Rattle.scenario.specs.Texts.{IsBytes}
use Rattle.scenario.specs.Words.{words}
use Rattle.scenario.specs.declared.Unread.{Unread}
use Rattle.scenario.specs.declared.Unread.TheVariants.{Malformed, OutOfMemory}

abbrev pub Told : {X : Type 0} → Result X Unread → (X → Type 0) → Type 0 → Type 0
Told (Ok x) P Q = P x
Told (Err Malformed) P Q = Q
Told (Err OutOfMemory) P Q = ⊥

abbrev pub Found : {X : Type 0} → Result X Unread → (X → Type 0) → Type 0 → Type 0
Found (Ok x) P Q = P x
Found (Err Malformed) P Q = Q
Found (Err OutOfMemory) P Q = Unit {0}

abbrev pub Tells : {X : Type 0} → Result X Unread → (X → Type 0) → Type 0
Tells {X} r P = Told r P ((x : X) → P x → ⊥)

abbrev pub Finds : {X : Type 0} → Result X Unread → (X → Type 0) → Type 0
Finds {X} r P = Found r P ((x : X) → P x → ⊥)

abbrev pub ReadsNumber : {N E : Type 0} → (List ℕ → Result N E → Type 0) → List ℕ → Result N Unread → Type 0
ReadsNumber {N} {E} gives t r = Told r (λ n. (slice_index t 0 ≢ 43) × gives t (Ok n)) ((slice_index t 0 ≡ 43) ⊎ ((why : E) × gives t (Err why)))

abbrev pub SomeUnread : {N E : Type 0} → (List ℕ → Result N E → Type 0) → List ℕ → Type 0
SomeUnread {N} {E} gives t = (word : List ℕ) × Contains (words t) word × ReadsNumber gives word (Err Malformed)

abbrev pub ReadsBytes : {V : Type 0} → (V → List ℕ) → List ℕ → Result V Unread → Type 0
ReadsBytes items t r = Found r (λ v. IsBytes t (items v)) ((digits : List ℕ) → t ≡ 120 ∷ digits → IsErr (decode_of digits))
