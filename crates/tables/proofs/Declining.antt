-- What a table's calls decline, case by case.
use Rattle.std.proofs.Common.{◌≡◌, ℕ, ◌≤◌, Bool, true, false, not, List, [], ◌∷◌, length, IsErrAnd, Some, None, Ok, Err, Option, Result, sym, refl, ap, ◌∙◌, ⊎_elim, arith}
use Rattle.std.proofs.lemmas.Option.{slice_get_within, slice_get_cases, get_or_from_slice_get}
use Rattle.std.proofs.lemmas.Bool.{le-ltb, ltb-false, le-leb, lt-leb}
use Rattle.std.proofs.lemmas.Result.{err_from_is_err_and}
use Rattle.std.specs.List.{slice_get}
use Rattle.std.specs.Option.{option_map}
use Rattle.column.specs.Checks.{outcome, unless_refused, refuse, first_of}
use Rattle.column.specs.Cells.{Kind, Cell, same_kind}
use Rattle.layout.specs.Layout.{Parts, fits}
use Rattle.column.specs.Columns.{Column}
use Rattle.tables.specs.declared.TableFault.{TableFault}
use Rattle.tables.specs.declared.StateFault.{StateFault}
use Rattle.tables.specs.declared.StateFault.TheVariants as state
use Rattle.tables.specs.declared.OrderFault.TheVariants as order
use Rattle.tables.specs.Meaning.{Settings}
use Rattle.tables.specs.Refusals.{growing, dropping, writing, cells_laid, named_unread}

pub some≢none : {F : Type 0} {f : F} → Some f ≡ None → ⊥
some≢none e = let z : ◌≡◌ {A = ℕ} 0 1 = cc in omega arith

-- Answers and effects by the check

pub passed : {F X : Type 0} (o : Option F) (x y : X) → Ok x ≡ outcome o y → o ≡ None
passed None x y e = refl
passed (Some f) x y e = cc

pub declined : {F X : Type 0} (o : Option F) (f : F) (y : X) → Err f ≡ outcome o y → o ≡ Some f
declined None f y e = cc
declined (Some g) f y e = cc

pub answer_none : {F X : Type 0} (o : Option F) (y : X) → o ≡ None → Ok y ≡ outcome o y
answer_none o y e = ap (λ t. outcome t y) (sym e)

pub answer_some : {F X : Type 0} (o : Option F) (f : F) (y : X) → o ≡ Some f → Err f ≡ outcome o y
answer_some o f y e = ap (λ t. outcome t y) (sym e)

pub passed_new : {F X : Type 0} (o : Option F) (new old : X) → o ≡ None → new ≡ unless_refused o new old
passed_new o new old e = ap (λ t. unless_refused t new old) (sym e)

pub refused_same : {F X : Type 0} (o : Option F) (f : F) (new old : X) → o ≡ Some f → old ≡ unless_refused o new old
refused_same o f new old e = ap (λ t. unless_refused t new old) (sym e)

-- what is there after a call that is not declined
pub done_so : {F X : Type 0} (o : Option F) (new old x : X) → x ≡ unless_refused o new old → o ≡ None → x ≡ new
done_so o new old x e n = e ∙ ap (λ t. unless_refused t new old) n

-- the exit of a `?`
pub exits : {F X Y : Type 0} (r : Result X F) (f : F) (o : Option F) (x : X) (y : Y) → IsErrAnd r (λ e. e ≡ f) → Err f ≡ outcome o y → r ≡ outcome o x
exits r f o x y b e = let p = err_from_is_err_and r b in p.1 ∙ ap Err p.2 ∙ answer_some o f x (declined o f y e)

-- What a check that passes says

pub first_passed : {F : Type 0} (o : Option F) (os : List (Option F)) → first_of (o ∷ os) ≡ None → (o ≡ None) × (first_of os ≡ None)
first_passed None os e = (refl, e)
first_passed (Some f) os e = absurd (some≢none e)

pub first_alone : {F : Type 0} (o : Option F) → first_of (o ∷ []) ≡ o
first_alone None = refl
first_alone (Some f) = refl

-- what a check that declines says
pub first_declined : {F : Type 0} {f : F} (o : Option F) (os : List (Option F)) → o ≡ Some f → first_of (o ∷ os) ≡ Some f
first_declined o os e = rw e

pub refuse_passed : {F : Type 0} (b : Bool) (f : F) → refuse b f ≡ None → b ≡ false
refuse_passed true f e = absurd (some≢none e)
refuse_passed false f e = refl

-- what a refusal says of its test
pub refused_test : {F : Type 0} (b : Bool) (f g : F) → refuse b f ≡ Some g → (b ≡ true) × (f ≡ g)
refused_test true f g e = (refl, cc)
refused_test false f g e = absurd (some≢none (sym e))

-- a last check that never holds where the others pass
pub never_last : {F : Type 0} (o : Option F) (b : Bool) (f : F) → (o ≡ None → b ≡ false) → first_of (o ∷ refuse b f ∷ []) ≡ o
never_last None b f h = rw (h refl)
never_last (Some g) b f h = refl

-- Growing and dropping

pub drop_fine : (held n : ℕ) → n ≤ held → dropping held n ≡ None
unfolding dropping
drop_fine held n h = rw (le-ltb held n h)

pub drop_within : (held n : ℕ) → dropping held n ≡ None → n ≤ held
unfolding dropping
drop_within held n e = ltb-false held n (refuse_passed _ _ (first_passed _ _ e).0)

pub grow_within : (held total : ℕ) → growing held total ≡ None → (total ≤ 256) × (held ≤ total)
unfolding growing
grow_within held total e =
    let p = first_passed _ _ e in
    (ltb-false 256 total (refuse_passed _ _ p.0), ltb-false total held (refuse_passed _ _ (first_passed _ _ p.1).0))

-- what can be written out can be dropped
pub written_dropped : (s : Settings) (es : List (List Cell)) (n : ℕ) (before : Parts) → writing s es n before ≡ None → dropping (length es) n ≡ None
unfolding writing
written_dropped s es n before e = go (dropping (length es) n) (refuse (not (fits (cells_laid s es n) before)) state.Space) e
  where
    go : (o : Option TableFault) (r : Option StateFault) → first_of (option_map state.Table o ∷ r ∷ []) ≡ None → o ≡ None
    go None r e = refl
    go (Some f) r e = cc

-- two calls in turn, neither of which is declined
pub both_fine : {F : Type 0} (f : TableFault → F) (o : Option TableFault) (p : Option F) (r : Result (Unit {0}) F) → o ≡ None → p ≡ None → r ≡ outcome (option_map f o) (tt {0}) → r ≡ outcome p (tt {0})
both_fine f o p r h k e = e ∙ ap (λ x. outcome (option_map f x) (tt {0})) h ∙ ap (λ x. outcome x (tt {0})) (sym k)

pub both_new : {F G X : Type 0} (o : Option F) (p : Option G) (x new old : X) → o ≡ None → p ≡ None → x ≡ unless_refused o new old → x ≡ unless_refused p new old
both_new o p x new old h k e = e ∙ ap (λ y. unless_refused y new old) h ∙ ap (λ y. unless_refused y new old) (sym k)

-- a column in a place of which the kind is known
pub named_some : (ks : List Kind) (j : ℕ) (c : Column) (k : Kind) → Some k ≡ slice_get ks j → named_unread ks j c ≡ refuse (not (same_kind c.kind k)) order.Kind
unfolding named_unread
named_some ks j c k e = rw (lt-leb (length ks) j (slice_get_within ks j k (sym e)), get_or_from_slice_get ks j k c.kind (sym e)) (first_alone (refuse (not (same_kind c.kind k)) order.Kind))

-- there is no such place
pub named_none : (ks : List Kind) (j : ℕ) (c : Column) → None ≡ slice_get ks j → named_unread ks j c ≡ Some order.Cols
unfolding named_unread
named_none ks j c e = ⊎_elim
    (λ t. absurd (some≢none (sym t.2 ∙ sym e)))
    (λ t. rw (le-leb (length ks) j t.0))
    (slice_get_cases ks j).1
