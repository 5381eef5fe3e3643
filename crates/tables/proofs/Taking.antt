-- What writing out the first keys declines, column by column, and what it writes to each of three outputs.
use Rattle.std.proofs.Common.{◌≡◌, ℕ, suc, ◌<◌, ◌≤◌, Bool, true, false, cond, not, ◌&&◌, ◌||◌, leb, List, [], ◌∷◌, length, get_or, take, Some, None, Ok, Err, Option, sym, refl, ◌∙◌, arith}
use Rattle.std.proofs.lemmas.Bool.{not-false, false≢true, le-leb, lt-leb}
use Rattle.std.proofs.lemmas.Bool.Decides.{nat_tests}
use Rattle.std.specs.Option.{option_map}
use Rattle.column.specs.Checks.{outcome, unless_refused, refuse}
use Rattle.column.specs.Cells.{Kind, numbers, Cell}
use Rattle.layout.specs.Layout.{Parts, laid_out, fits, fits_all, written, written_all}
use Rattle.tables.specs.declared.TableFault.{TableFault}
use Rattle.tables.specs.declared.OrderFault.{OrderFault}
use Rattle.tables.specs.declared.OrderFault.TheVariants as order
use Rattle.tables.specs.Meaning.{Settings, column_cells}
use Rattle.tables.specs.Refusals.{dropping, key_laid, columns_laid, keys_laid, measuring_key, writing_key, taking_keys}
use Rattle.tables.proofs.Declining.{passed, declined, first_passed, first_alone, refuse_passed, refused_test, passed_new}
use Rattle.tables.proofs.Passing.{writing_key_fine}

-- the answer of a call that passes, and a refusal of one that does
pub measured : {F X : Type 0} (o : Option F) (x y : X) → Ok x ≡ outcome o y → x ≡ y
measured None x y e = cc
measured (Some f) x y e = cc

not-true : (b : Bool) → not b ≡ true → b ≡ false
not-true true e = absurd (false≢true e)
not-true false e = refl

pub never_declined : {F X : Type 0} (o : Option F) (f : F) (y : X) → o ≡ None → Err f ≡ outcome o y → ⊥
never_declined o f y h e = let s = declined o f y e in let z : ◌≡◌ {A = ℕ} 0 1 = cc in omega arith

-- Taking

pub taking_fewer : (s : Settings) (es : List (List Cell)) (n : ℕ) (before : List Parts) → {f : TableFault} → dropping (length es) n ≡ Some f → taking_keys s es n before ≡ Some (order.Table f)
unfolding taking_keys
taking_fewer s es n before e = rw e

taking_short : (s : Settings) (es : List (List Cell)) (n : ℕ) (before : List Parts) → dropping (length es) n ≡ None → fits_all (keys_laid s es n) before ≡ false → taking_keys s es n before ≡ Some order.Space
unfolding taking_keys
taking_short s es n before e h = rw (e, h)

pub taking_fine : (s : Settings) (es : List (List Cell)) (n : ℕ) (before : List Parts) → dropping (length es) n ≡ None → fits_all (keys_laid s es n) before ≡ true → taking_keys s es n before ≡ None
unfolding taking_keys
taking_fine s es n before e h = rw (e, h)

pub taking_within : (s : Settings) (es : List (List Cell)) (n : ℕ) (before : List Parts) → taking_keys s es n before ≡ None → (dropping (length es) n ≡ None) × (fits_all (keys_laid s es n) before ≡ true)
unfolding taking_keys
taking_within s es n before e =
    let a = first_passed _ _ e in
    (go (dropping (length es) n) a.0, not-false _ (refuse_passed _ _ (first_passed _ _ a.1).0))
  where
    go : (o : Option TableFault) → option_map order.Table o ≡ None → o ≡ None
    go None e = refl
    go (Some f) e = cc

-- One column

-- column j has room in an output, or there is no such column
abbrev pub room_at : List Kind → List (List Cell) → ℕ → ℕ → Parts → Bool
room_at ks es n j o = leb (length ks) j || fits (laid_out (get_or ks j numbers) (take n (column_cells j es))) o

-- what stands in an output after column j, where there is one
abbrev pub put_at : List Kind → List (List Cell) → ℕ → ℕ → Parts → Parts
put_at ks es n j o = cond (leb (length ks) j) o (written (laid_out (get_or ks j numbers) (take n (column_cells j es))) o)

module _ (s : Settings) (es : List (List Cell)) (n j : ℕ) where
  measuring_fine : j < length s.kinds → dropping (length es) n ≡ None → measuring_key s es j n ≡ None
  unfolding measuring_key
  measuring_fine h e = rw (lt-leb (length s.kinds) j h, e)

  -- what a column's own answer says of its room
  pub writing_is : (o : Parts) → j < length s.kinds → dropping (length es) n ≡ None → writing_key s es j n o ≡ refuse (not (room_at s.kinds es n j o)) order.Space
  unfolding writing_key
  writing_is o h d = rw (measuring_fine h d, lt-leb (length s.kinds) j h) (first_alone (refuse (not (fits (key_laid s es j n) o)) order.Space))

  pub room_found : (o : Parts) → j < length s.kinds → dropping (length es) n ≡ None → Ok (tt {0}) ≡ outcome (writing_key s es j n o) (tt {0}) → room_at s.kinds es n j o ≡ true
  room_found o h d e = not-false _ (refuse_passed _ _ (sym (writing_is o h d) ∙ passed _ _ _ e))

  pub room_lacking : (o : Parts) (f : OrderFault) → j < length s.kinds → dropping (length es) n ≡ None → Err f ≡ outcome (writing_key s es j n o) (tt {0})
      → (room_at s.kinds es n j o ≡ false) × (order.Space ≡ f)
  room_lacking o f h d e = let t = refused_test _ _ _ (sym (writing_is o h d) ∙ declined _ _ _ e) in (not-true _ t.0, t.1)

  pub room_none : (o : Parts) → length s.kinds ≤ j → room_at s.kinds es n j o ≡ true
  room_none o h = rw (le-leb (length s.kinds) j h)

  pub writing_fits : (o : Parts) → j < length s.kinds → dropping (length es) n ≡ None → room_at s.kinds es n j o ≡ true → writing_key s es j n o ≡ None
  writing_fits o h d r = writing_key_fine s es j n o (measuring_fine h d) (rw (lt-leb (length s.kinds) j h) at r)

  pub writing_exit : (o : Parts) (f : OrderFault) → j < length s.kinds → dropping (length es) n ≡ None → room_at s.kinds es n j o ≡ true → Err f ≡ outcome (writing_key s es j n o) (tt {0}) → ⊥
  writing_exit o f h d r e = never_declined (writing_key s es j n o) f _ (writing_fits o h d r) e

  pub put_written : (o new : Parts) → j < length s.kinds → dropping (length es) n ≡ None → room_at s.kinds es n j o ≡ true
      → new ≡ unless_refused (writing_key s es j n o) (written (key_laid s es j n) o) o → new ≡ put_at s.kinds es n j o
  put_written o new h d r e = rw (lt-leb (length s.kinds) j h) (e ∙ sym (passed_new _ _ _ (writing_fits o h d r)))

-- Three outputs

fits_three : (ks : List Kind) (es : List (List Cell)) (n : ℕ) (a b c : Parts)
    → fits_all (columns_laid es n 0 ks) (a ∷ b ∷ c ∷ []) ≡ (leb (length ks) 3 && (room_at ks es n 0 a && (room_at ks es n 1 b && room_at ks es n 2 c)))
fits_three [] es n a b c = refl
fits_three (k ∷ []) es n a b c = grind arith
fits_three (k ∷ l ∷ []) es n a b c = grind arith
fits_three (k ∷ l ∷ m ∷ []) es n a b c = grind arith
fits_three (k ∷ l ∷ m ∷ o ∷ ks) es n a b c = rw (lt-leb (suc (suc (suc (suc (length ks))))) 3 (omega arith)) (grind arith)

written_three : (ks : List Kind) (es : List (List Cell)) (n : ℕ) (a b c : Parts) → length ks ≤ 3
    → written_all (columns_laid es n 0 ks) (a ∷ b ∷ c ∷ []) ≡ put_at ks es n 0 a ∷ put_at ks es n 1 b ∷ put_at ks es n 2 c ∷ []
written_three [] es n a b c h = refl
written_three (k ∷ []) es n a b c h = refl
written_three (k ∷ l ∷ []) es n a b c h = refl
written_three (k ∷ l ∷ m ∷ []) es n a b c h = refl
written_three (k ∷ l ∷ m ∷ o ∷ ks) es n a b c h = absurd (omega arith)

pub record Taken (s : Settings) (es : List (List Cell)) (n : ℕ) (a b c : Parts) : Type 0 where
  pub held : dropping (length es) n ≡ None
  pub few : length s.kinds ≤ 3
  pub first : room_at s.kinds es n 0 a ≡ true
  pub second : room_at s.kinds es n 1 b ≡ true
  pub third : room_at s.kinds es n 2 c ≡ true

module _ (s : Settings) (es : List (List Cell)) (n : ℕ) (a b c : Parts) where
  pub short_many : dropping (length es) n ≡ None → 3 < length s.kinds → taking_keys s es n (a ∷ b ∷ c ∷ []) ≡ Some order.Space
  short_many d h = let f = fits_three s.kinds es n a b c in taking_short s es n _ d (grind (arith, nat_tests))

  pub short_first : dropping (length es) n ≡ None → room_at s.kinds es n 0 a ≡ false → taking_keys s es n (a ∷ b ∷ c ∷ []) ≡ Some order.Space
  short_first d h = let f = fits_three s.kinds es n a b c in taking_short s es n _ d (grind (arith, nat_tests))

  pub short_second : dropping (length es) n ≡ None → room_at s.kinds es n 1 b ≡ false → taking_keys s es n (a ∷ b ∷ c ∷ []) ≡ Some order.Space
  short_second d h = let f = fits_three s.kinds es n a b c in taking_short s es n _ d (grind (arith, nat_tests))

  -- where the first two columns have room, the third decides
  pub last_fits : dropping (length es) n ≡ None → length s.kinds ≤ 3 → room_at s.kinds es n 0 a ≡ true → room_at s.kinds es n 1 b ≡ true
      → taking_keys s es n (a ∷ b ∷ c ∷ []) ≡ refuse (not (room_at s.kinds es n 2 c)) order.Space
  unfolding taking_keys
  last_fits d l x y =
      let f = fits_three s.kinds es n a b c in
      let m = le-leb (length s.kinds) 3 l in
      rw (d, f, m, x, y) (first_alone (refuse (not (room_at s.kinds es n 2 c)) order.Space))

  pub all_fit : Taken s es n a b c → taking_keys s es n (a ∷ b ∷ c ∷ []) ≡ None
  all_fit t =
      let f = fits_three s.kinds es n a b c in
      let l = le-leb (length s.kinds) 3 t.few in
      taking_fine s es n _ t.held (f ∙ rw (l, t.first, t.second, t.third))

  pub taken : taking_keys s es n (a ∷ b ∷ c ∷ []) ≡ None → Taken s es n a b c
  taken e =
      let t = taking_within s es n _ e in
      let f = sym (fits_three s.kinds es n a b c) ∙ t.1 in
      record { held = t.0; few = grind (arith, nat_tests); first = grind arith; second = grind arith; third = grind arith }

  pub all_put : (x y z : Parts) → taking_keys s es n (a ∷ b ∷ c ∷ []) ≡ None
      → x ≡ put_at s.kinds es n 0 a → y ≡ put_at s.kinds es n 1 b → z ≡ put_at s.kinds es n 2 c
      → (x ∷ y ∷ z ∷ []) ≡ unless_refused (taking_keys s es n (a ∷ b ∷ c ∷ [])) (written_all (keys_laid s es n) (a ∷ b ∷ c ∷ [])) (a ∷ b ∷ c ∷ [])
  all_put x y z w p q r =
      let h = written_three s.kinds es n a b c (taken w).few in
      rw (p, q, r) (sym h ∙ passed_new _ _ _ w)
