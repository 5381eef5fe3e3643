-- What is measured before anything is written, and what room in all parts gives to the calls that write them.
use Rattle.std.proofs.Common.{◌≡◌, ℕ, suc, ◌<◌, ◌≤◌, Bool, true, false, cond, not, ◌&&◌, ltb, List, [], ◌∷◌, length, get_or, take, Some, None, Option, sym, refl, ap, ◌∙◌, arith}
use Rattle.std.proofs.lemmas.Bool.{not-false, ltb-false, le-ltb, lt-ltb}
use Rattle.column.specs.Cells.{Kind, numbers, Cell}
use Rattle.column.specs.Checks.{first_of, outcome, refuse, unless_refused}
use Rattle.column.specs.Faults.{Fault, FEWER, SPACE, fault, in_state, in_order}
use Rattle.layout.specs.Layout.{Parts, laid_out, fits, fits_all, fits_flags}
use Rattle.tables.specs.Meaning.{Settings, column_cells}
use Rattle.tables.specs.Refusals.{cells_laid, key_laid, columns_laid, dropping, writing, writing_key, taking_keys}
use Rattle.tables.specs.declared.TableFault.TheVariants as table_fault
use Rattle.tables.specs.declared.StateFault.TheVariants as state_fault
use Rattle.tables.specs.declared.OrderFault.TheVariants as order_fault
use Rattle.tables.proofs.Declining.{drop_fine}
use Rattle.tables.proofs.Passing.{measuring_fine}
use Rattle.tables.proofs.Taking.{taking_fine}
use Rattle.book.specs.Declines.{own, order_column}
use Rattle.book.specs.Emission.{Outputs, keys_short, flags_short}
use Rattle.faults.specs.Reported.{declined_seen, own_of, placed, place_number}
use Rattle.faults.specs.declared.Place.{Place}
use Rattle.faults.specs.declared.Place.TheVariants.{Call, Values}
use Rattle.faults.specs.declared.Refusal.TheVariants.{Own, State, Order}
use Rattle.keeping.proofs.Checking.{first_one, none_hold, refuse_none, refused, third_decides}
use Rattle.keeping.specs.Fronts.{Front, keys_out, flags_out, cells_short, key_short, too_few, state_short, values_declined, state_declined}

-- FEWER

pub fewer_is : (have n : ℕ) → declined_seen (placed (λ f. Own (own_of f)) (outcome (dropping have n) (tt {0})) Call 0) ≡ too_few have n
unfolding dropping
fewer_is have n = go (ltb have n)
  where
    go : (b : Bool) → declined_seen (placed (λ f. Own (own_of f)) (outcome (first_of (refuse b table_fault.Fewer ∷ [])) (tt {0})) Call 0) ≡ refuse b (own FEWER)
    go true = refl
    go false = refl

-- Values

-- a state that holds as many cells declines to write them out only for want of space
writing_is : (s : Settings) (es : List (List Cell)) (n : ℕ) (before : Parts) → n ≤ length es → writing s es n before ≡ refuse (not (fits (cells_laid s es n) before)) state_fault.Space
unfolding writing
writing_is s es n before h = rw (drop_fine (length es) n h) (go (not (fits (cells_laid s es n) before)))
  where
    go : (t : Bool) → first_of (None ∷ refuse t state_fault.Space ∷ []) ≡ refuse t state_fault.Space
    go true = refl
    go false = refl

pub values_answer : (s : Settings) (es : List (List Cell)) (n : ℕ) (before : Parts) → n ≤ length es
    → declined_seen (placed State (outcome (writing s es n before) (tt {0})) Values 0) ≡ refuse (not (fits (cells_laid s es n) before)) (fault SPACE in_state 0 0)
values_answer s es n before h =
    ap (λ o. declined_seen (placed State (outcome o (tt {0})) Values 0)) (writing_is s es n before h)
    ∙ refused State (not (fits (cells_laid s es n) before)) state_fault.Space Values 0

-- what stands in buffers after a call that has room or not
pub left_by_room : {F X : Type 0} (b : Bool) (f : F) (new old : X) → cond b new old ≡ unless_refused (refuse (not b) f) new old
left_by_room true f new old = refl
left_by_room false f new old = refl

-- what a test leaves does not hang on the refusal that it gives
left_alike : {F G X : Type 0} (t : Bool) (f : F) (g : G) (new old : X) → unless_refused (refuse t f) new old ≡ unless_refused (refuse t g) new old
left_alike true f g new old = refl
left_alike false f g new old = refl

pub values_left : (s : Settings) (es : List (List Cell)) (n : ℕ) (before new : Parts) → n ≤ length es
    → unless_refused (writing s es n before) new before ≡ unless_refused (refuse (not (fits (cells_laid s es n) before)) (fault SPACE in_state 0 0)) new before
values_left s es n before new h =
    ap (λ o. unless_refused o new before) (writing_is s es n before h)
    ∙ left_alike (not (fits (cells_laid s es n) before)) state_fault.Space (fault SPACE in_state 0 0) new before

-- Keys

key_writing_is : (s : Settings) (es : List (List Cell)) (j n : ℕ) (before : Parts) → j < length s.kinds → n ≤ length es
    → writing_key s es j n before ≡ refuse (not (fits (key_laid s es j n) before)) order_fault.Space
unfolding writing_key
key_writing_is s es j n before l h = rw (measuring_fine s es j n l (drop_fine (length es) n h)) (first_one (refuse (not (fits (key_laid s es j n) before)) order_fault.Space))

pub key_answer : (s : Settings) (es : List (List Cell)) (j n : ℕ) (before : Parts) (p : Place) → place_number p ≡ order_column j → j < length s.kinds → n ≤ length es
    → declined_seen (placed Order (outcome (writing_key s es j n before) (tt {0})) p 0) ≡ key_short s es j n before
key_answer s es j n before p e l h =
    ap (λ o. declined_seen (placed Order (outcome o (tt {0})) p 0)) (key_writing_is s es j n before l h)
    ∙ rw (lt-ltb j (length s.kinds) l, ← e) (refused Order (not (fits (key_laid s es j n) before)) order_fault.Space p 0)

keys_fit : (j : ℕ) (ps os : List Parts) → keys_short j ps os ≡ None → fits_all ps os ≡ true
keys_fit j [] os e = refl
keys_fit j (p ∷ ps) [] e = cc
keys_fit j (p ∷ ps) (o ∷ os) e = go (fits p o) (keys_fit (suc j) ps os) e
  where
    go : (b : Bool) → (keys_short (suc j) ps os ≡ None → fits_all ps os ≡ true) → cond b (keys_short (suc j) ps os) (Some (fault SPACE in_order (order_column j) 0)) ≡ None → (b && fits_all ps os) ≡ true
    go true ih k = ih k
    go false ih k = cc

-- SPACE in key column j, by the kinds of the columns that are read
abbrev key_short_in : List Kind → List (List Cell) → ℕ → ℕ → Parts → Option Fault
key_short_in ks es j n out = refuse (ltb j (length ks) && not (fits (laid_out (get_or ks j numbers) (take n (column_cells j es))) out)) (fault SPACE in_order (order_column j) 0)

-- three columns have room, and there are more
pub keys_past : (ks : List Kind) (es : List (List Cell)) (n : ℕ) (a b c : Parts) → 3 < length ks
    → key_short_in ks es 0 n a ≡ None → key_short_in ks es 1 n b ≡ None → key_short_in ks es 2 n c ≡ None
    → keys_short 0 (columns_laid es n 0 ks) (a ∷ b ∷ c ∷ []) ≡ Some (fault SPACE in_order 3 0)
keys_past [] es n a b c h p q r = absurd (omega arith)
keys_past (k ∷ []) es n a b c h p q r = absurd (omega arith)
keys_past (k ∷ l ∷ []) es n a b c h p q r = absurd (omega arith)
keys_past (k ∷ l ∷ m ∷ []) es n a b c h p q r = absurd (omega arith)
keys_past (k ∷ l ∷ m ∷ o ∷ ks) es n a b c h p q r = grind arith

-- as many are held
pub enough : (have n : ℕ) → None ≡ too_few have n → n ≤ have
enough have n e = ltb-false have n (refuse_none _ _ (sym e))

held_enough : (have n : ℕ) → n ≤ have → too_few have n ≡ None
held_enough have n h = ap (λ b. refuse b (own FEWER)) (le-ltb have n h)

-- where as many are held, only room decides
pub values_held : (s : Settings) (es : List (List Cell)) (n : ℕ) (out : Parts) → n ≤ length es → values_declined s es n out ≡ cells_short s es n out
values_held s es n out h = ap (λ o. first_of (o ∷ cells_short s es n out ∷ [])) (held_enough (length es) n h) ∙ first_one (cells_short s es n out)

pub state_held : (f : Front) (n : ℕ) (b : Outputs) → n ≤ length f.cells → n ≤ length f.keys → state_declined f n b ≡ state_short f n b
state_held f n b h k = third_decides _ _ _ _ (sym (held_enough (length f.cells) n h)) (sym (held_enough (length f.keys) n k)) refl

-- Room in all parts

pub record Roomy (f : Front) (n : ℕ) (b : Outputs) : Type 0 where
  pub values : fits (cells_laid f.state f.cells n) b.values ≡ true
  pub keys : taking_keys f.order f.keys n b.keys ≡ None
  pub flags : fits_flags (flags_out f n) b.flags ≡ true

pub roomy : (f : Front) (n : ℕ) (b : Outputs) → n ≤ length f.keys → state_short f n b ≡ None → Roomy f n b
roomy f n b h e =
    let p = none_hold (cells_short f.state f.cells n b.values ∷ keys_short 0 (keys_out f n) b.keys ∷ flags_short (flags_out f n) b.flags ∷ []) e in
    record {
      values = not-false _ (refuse_none _ _ p.0);
      keys = taking_fine f.order f.keys n b.keys (drop_fine _ n h) (keys_fit 0 (keys_out f n) b.keys p.1.0);
      flags = not-false _ (refuse_none _ _ p.1.1.0);
    }
