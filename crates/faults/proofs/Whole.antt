-- A lower layer's result with its place, where its refusal stands in the fault whole.
use Rattle.std.proofs.Common.{◌≡◌, ℕ, None, Ok, Err, Option, Result, refl, ap, ◌∙◌, arith}
use Rattle.std.proofs.lemmas.Result.{err_from_is_err_and}
use Rattle.column.specs.Checks.{outcome}
use Rattle.tables.specs.declared.TableFault.{TableFault}
use Rattle.faults.specs.declared.Refusal.{Refusal}
use Rattle.faults.specs.declared.Refusal.TheVariants.{Own}
use Rattle.faults.specs.declared.Place.{Place}
use Rattle.faults.specs.declared.Fault.{Fault}
use Rattle.faults.specs.Reported.{own_of, Placed, placed}

pub placed_whole : {X F : Type 0} (whole : F → Refusal) (r : Result X F) (p : Place) (n : ℕ) (y : Result X Fault)
    → Placed (λ e v. v ≡ record { refusal = whole e.fault; place = e.place; row = e.row }) r p n y → y ≡ placed whole r p n
placed_whole whole (Ok x) p n y h = h
placed_whole whole (Err f) p n y h = let e = err_from_is_err_and y h in rw (e.1, e.2) refl

-- a group table's result, where its refusal is the accumulator's own
pub placed_own : {X : Type 0} (r : Result X TableFault) (p : Place) (n : ℕ) (y : Result X Fault)
    → Placed (λ e v. v ≡ record { refusal = Own (own_of e.fault); place = e.place; row = e.row }) r p n y → y ≡ placed (λ f. Own (own_of f)) r p n
placed_own r p n y h = placed_whole (λ f. Own (own_of f)) r p n y h

-- what no check of the lower layer declines
module _ {X F : Type 0} (whole : F → Refusal) (r : Result X F) (p : Place) (n : ℕ) (o : Option F) (x : X) (is : r ≡ outcome o x) where
  placed_is : placed whole r p n ≡ placed whole (outcome o x) p n
  placed_is = ap (λ t. placed whole t p n) is

  pub placed_ok : o ≡ None → (v : X) → Ok v ≡ placed whole r p n → v ≡ x
  placed_ok none v h = let z = h ∙ placed_is ∙ ap (λ q. placed whole (outcome q x) p n) none in cc

  pub placed_not : o ≡ None → (f : Fault) → Err f ≡ placed whole r p n → ⊥
  placed_not none f h = let z = h ∙ placed_is ∙ ap (λ q. placed whole (outcome q x) p n) none in let y : ◌≡◌ {A = ℕ} 0 1 = cc in omega arith
