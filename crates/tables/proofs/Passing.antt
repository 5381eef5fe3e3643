-- What the checks of a column, of a key and of an output say where they pass, and how a cell that is always taken leaves them.
use Rattle.std.proofs.Common.{◌≡◌, ℕ, ◌<◌, ◌≤◌, Bool, true, false, not, ◌&&◌, eqb, ltb, leb, List, [], ◌∷◌, length, get_or, Some, None, Ok, Err, Option, sym, refl, ap}
use Rattle.std.proofs.lemmas.Bool.{eqb-true, le-leb, lt-leb, leb-true, leb-false, ltb-true, not-false, and_parts}
use Rattle.std.specs.Option.{option_map}
use Rattle.column.specs.Checks.{outcome, refuse, first_of}
use Rattle.column.specs.Cells.{Kind, Cell, same_kind}
use Rattle.column.specs.Columns.{Column, cell_at}
use Rattle.layout.specs.Layout.{Parts, fits}
use Rattle.tables.specs.declared.TableFault.{TableFault}
use Rattle.tables.specs.declared.StateFault.TheVariants as state
use Rattle.tables.specs.declared.OrderFault.{OrderFault}
use Rattle.tables.specs.declared.OrderFault.TheVariants as order
use Rattle.tables.specs.Meaning.{Settings, state_of}
use Rattle.tables.specs.Refusals.{dropping, cell_unfit, cell_refused, cells_laid, writing, other_kind, named_unread, named_refused, some_column, some_of, past_column, untaken, key_unfit, key_refused, key_laid, measuring_key, writing_key}
use Rattle.layout.specs.declared.OutputFault.{OutputFault}
use Rattle.layout.specs.declared.OutputFault.TheVariants as output
use Rattle.tables.proofs.Declining.{some≢none, passed, declined, first_passed, refuse_passed, never_last}

pub record CellPassed (k : Kind) (out : Bool) (c : Column) (r : ℕ) : Type 0 where
  pub held : out ≡ false
  pub kind : same_kind c.kind k ≡ true
  pub row : r < c.rows

pub cell_passed : (k : Kind) (out : Bool) (c : Column) (r : ℕ) → cell_unfit k out c r ≡ None → CellPassed k out c r
cell_passed k out c r e =
    let a = first_passed _ _ e in
    let b = first_passed _ _ a.1 in
    record {
      held = refuse_passed _ _ a.0;
      kind = not-false _ (refuse_passed _ _ b.0);
      row = ltb-true _ _ (not-false _ (refuse_passed _ _ (first_passed _ _ b.1).0));
    }

pub record NamedPassed (ks : List Kind) (j : ℕ) (c : Column) : Type 0 where
  pub within : j < length ks
  pub kind : same_kind c.kind (get_or ks j c.kind) ≡ true

pub named_passed : (ks : List Kind) (j : ℕ) (c : Column) → named_unread ks j c ≡ None → NamedPassed ks j c
unfolding named_unread
named_passed ks j c e =
    let a = first_passed _ _ e in
    record { within = leb-false _ _ (refuse_passed _ _ a.0); kind = not-false _ (refuse_passed _ _ (first_passed _ _ a.1).0) }

pub record KeyPassed (ks : List Kind) (out : Bool) (cs : List Column) (n : ℕ) (rs : List ℕ) : Type 0 where
  pub columns : length cs ≡ length ks
  pub some : 1 ≤ n
  pub few : n ≤ 3
  pub held : out ≡ false
  pub kinds : some_column (other_kind ks) 0 cs ≡ false
  pub rows : some_of (past_column cs) rs ≡ false

pub key_passed : (ks : List Kind) (out : Bool) (cs : List Column) (n : ℕ) (rs : List ℕ) → key_unfit ks out cs n rs ≡ None → KeyPassed ks out cs n rs
unfolding key_unfit
key_passed ks out cs n rs e =
    let a = first_passed _ _ e in
    let b = first_passed _ _ a.1 in
    let d = first_passed _ _ b.1 in
    let p = and_parts (eqb (length cs) (length ks)) (leb 1 n && leb n 3) (not-false _ (refuse_passed _ _ a.0)) in
    let q = and_parts (leb 1 n) (leb n 3) p.1 in
    record {
      columns = eqb-true _ _ p.0;
      some = leb-true 1 n q.0;
      few = leb-true n 3 q.1;
      held = refuse_passed _ _ b.0;
      kinds = refuse_passed _ _ d.0;
      rows = refuse_passed _ _ (first_passed _ _ d.1).0;
    }

-- Cells that are taken wherever the checks before pass

pub cell_taken : (s : Settings) (out : Bool) (c : Column) (r : ℕ) → (cell_unfit (state_of s).kind out c r ≡ None → s.takes 0 (cell_at c r) ≡ true)
    → cell_refused s out c r ≡ cell_unfit (state_of s).kind out c r
unfolding cell_refused
cell_taken s out c r h = never_last (cell_unfit (state_of s).kind out c r) (not (s.takes 0 (cell_at c r))) state.Long (λ e. ap not (h e))

pub named_taken : (s : Settings) (j : ℕ) (c : Column) (r : ℕ) → (named_unread s.kinds j c ≡ None → s.takes j (cell_at c r) ≡ true)
    → named_refused s j c r ≡ first_of (named_unread s.kinds j c ∷ refuse (not (ltb r c.rows)) order.Rows ∷ [])
unfolding named_refused
named_taken s j c r h = go (named_unread s.kinds j c) (not (ltb r c.rows)) (not (s.takes j (cell_at c r))) (λ e. ap not (h e))
  where
    go : (o : Option OrderFault) (b t : Bool) → (o ≡ None → t ≡ false) → first_of (o ∷ refuse b order.Rows ∷ refuse t order.Long ∷ []) ≡ first_of (o ∷ refuse b order.Rows ∷ [])
    go None true t h = refl
    go None false t h = rw (h refl)
    go (Some f) b t h = refl

pub key_taken : (s : Settings) (out : Bool) (cs : List Column) (n : ℕ) (rs : List ℕ) → (key_unfit s.kinds out cs n rs ≡ None → some_of (untaken s cs) rs ≡ false)
    → key_refused s out cs n rs ≡ key_unfit s.kinds out cs n rs
unfolding key_refused
key_taken s out cs n rs h = never_last (key_unfit s.kinds out cs n rs) (some_of (untaken s cs) rs) order.Long h

-- Writing out

pub writing_fewer : (s : Settings) (es : List (List Cell)) (n : ℕ) (before : Parts) → {f : TableFault} → dropping (length es) n ≡ Some f → writing s es n before ≡ Some (state.Table f)
unfolding writing
writing_fewer s es n before e = rw e

pub writing_short : (s : Settings) (es : List (List Cell)) (n : ℕ) (before : Parts) → dropping (length es) n ≡ None → fits (cells_laid s es n) before ≡ false → writing s es n before ≡ Some state.Space
unfolding writing
writing_short s es n before e h = rw (e, h)

pub writing_fine : (s : Settings) (es : List (List Cell)) (n : ℕ) (before : Parts) → dropping (length es) n ≡ None → fits (cells_laid s es n) before ≡ true → writing s es n before ≡ None
unfolding writing
writing_fine s es n before e h = rw (e, h)

pub measuring_past : (s : Settings) (es : List (List Cell)) (j n : ℕ) → length s.kinds ≤ j → measuring_key s es j n ≡ Some order.Cols
unfolding measuring_key
measuring_past s es j n h = rw (le-leb (length s.kinds) j h)

pub measuring_fewer : (s : Settings) (es : List (List Cell)) (j n : ℕ) → {f : TableFault} → j < length s.kinds → dropping (length es) n ≡ Some f → measuring_key s es j n ≡ Some (order.Table f)
unfolding measuring_key
measuring_fewer s es j n h e = rw (lt-leb (length s.kinds) j h, e)

pub measuring_fine : (s : Settings) (es : List (List Cell)) (j n : ℕ) → j < length s.kinds → dropping (length es) n ≡ None → measuring_key s es j n ≡ None
unfolding measuring_key
measuring_fine s es j n h e = rw (lt-leb (length s.kinds) j h, e)

pub measuring_within : (s : Settings) (es : List (List Cell)) (j n : ℕ) → measuring_key s es j n ≡ None → (j < length s.kinds) × (dropping (length es) n ≡ None)
unfolding measuring_key
measuring_within s es j n e =
    let a = first_passed _ _ e in
    (leb-false _ _ (refuse_passed _ _ a.0), go (dropping (length es) n) (first_passed _ _ a.1).0)
  where
    go : (o : Option TableFault) → option_map order.Table o ≡ None → o ≡ None
    go None e = refl
    go (Some f) e = cc

pub writing_key_declined : (s : Settings) (es : List (List Cell)) (j n : ℕ) (before : Parts) → {f : OrderFault} → measuring_key s es j n ≡ Some f → writing_key s es j n before ≡ Some f
unfolding writing_key
writing_key_declined s es j n before e = rw e

pub writing_key_short : (s : Settings) (es : List (List Cell)) (j n : ℕ) (before : Parts) → measuring_key s es j n ≡ None → fits (key_laid s es j n) before ≡ false → writing_key s es j n before ≡ Some order.Space
unfolding writing_key
writing_key_short s es j n before e h = rw (e, h)

pub writing_key_fine : (s : Settings) (es : List (List Cell)) (j n : ℕ) (before : Parts) → measuring_key s es j n ≡ None → fits (key_laid s es j n) before ≡ true → writing_key s es j n before ≡ None
unfolding writing_key
writing_key_fine s es j n before e h = rw (e, h)

-- What an output's own answer says of its room

pub put_fails : (b : Bool) (f : OutputFault) → Err f ≡ outcome (refuse (not b) output.Space) (tt {0}) → b ≡ false
put_fails true f e = absurd (some≢none (sym (declined (refuse (not true) output.Space) f (tt {0}) e)))
put_fails false f e = refl

pub put_fits : (b : Bool) → Ok (tt {0}) ≡ outcome (refuse (not b) output.Space) (tt {0}) → b ≡ true
put_fits true e = refl
put_fits false e = absurd (some≢none (passed (refuse (not false) output.Space) (tt {0}) (tt {0}) e))
