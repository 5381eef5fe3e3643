-- What a keeper does with a row that it takes, and how many groups it holds.
use Rattle.std.proofs.Common.{◌≡◌, ℕ, Bool, true, false, cond, not, ◌||◌, ltb, List, [], ◌∷◌, map, length, take, drop, None, Option, Less, Equal, Greater, sym, refl, ap, ap₂, ◌∙◌, arith}
use Rattle.std.proofs.lemmas.Bool.{false≢true, ltb-false}
use Rattle.std.proofs.lemmas.List.{drop_all, take-map}
use Rattle.std.specs.List.{slice_set}
use Rattle.std.specs.Ordering.{is_lt, is_gt, ordering_reverse}
use Rattle.std.specs.declared.cmp.Ordering.{Ordering}
use Rattle.column.specs.Cells.{Cell, same_kind}
use Rattle.column.specs.declared.Column as code
use Rattle.column.specs.Checks.{first_of, refuse, unless_refused}
use Rattle.column.specs.Columns.{Column, cell_at}
use Rattle.column.specs.Seen.{column_seen}
use Rattle.tables.specs.declared.StateFault.TheVariants as state
use Rattle.tables.specs.declared.OrderFault.TheVariants as order
use Rattle.tables.specs.Meaning.{Settings, OrderLaws, state_of}
use Rattle.tables.specs.Reading.{cell_read, cell_taken, key_read, key_taken}
use Rattle.tables.specs.Refusals.{growing, dropping, cell_refused, key_refused, key_unfit, cols_fit, some_column, other_kind, past_column, untaken, key_at, verdict}
use Rattle.tables.proofs.AsRead.{cell_is_read, cell_is_taken, key_is_read, key_is_taken}
use Rattle.tables.proofs.Declining.{drop_fine, done_so}
use Rattle.book.specs.Batches.{order_columns}
use Rattle.book.specs.Declines.{total_refused}
use Rattle.book.specs.Winners.{Row, Making, beats}
use Rattle.keeping.proofs.Checking.{first_two_none, refuse_none}
use Rattle.keeping.specs.Seen.{given_seen}
use Rattle.keeping.specs.declared.Given as coded
use Rattle.keeping.specs.Fronts.{too_few}
use Rattle.keeping.specs.Keepers.{Ranks}

-- The cell of a row that is taken

pub record CellTaken (s : Settings) (c : Column) (r : ℕ) : Type 0 where
  pub read : cell_read s c r ≡ cell_at c r
  pub taken : cell_taken s c r ≡ true

cell_parts : (kind past takes : Bool) → first_of (first_of (None ∷ refuse (not kind) state.Kind ∷ refuse past state.Rows ∷ []) ∷ refuse (not takes) state.Long ∷ []) ≡ None → (kind ≡ true) × (takes ≡ true)
cell_parts true false true e = (refl, refl)
cell_parts true false false e = cc
cell_parts true true takes e = cc
cell_parts false past takes e = cc

pub cell_takes : (s : Settings) (c : Column) (r : ℕ) → cell_refused s false c r ≡ None → CellTaken s c r
unfolding cell_refused
cell_takes s c r e =
    let p = cell_parts (same_kind c.kind (state_of s).kind) (not (ltb r c.rows)) (s.takes 0 (cell_at c r)) e in
    record { read = cell_is_read s c r p.0; taken = cell_is_taken s c r p.0 ∙ p.1 }

pub cell_put : (s : Settings) (c : Column) (r g : ℕ) (es new : List (List Cell)) → cell_refused s false c r ≡ None
    → new ≡ cond (cell_taken s c r) (slice_set es g (cell_read s c r ∷ [])) es → new ≡ slice_set es g (cell_at c r ∷ [])
cell_put s c r g es new e h =
    let t = cell_takes s c r e in
    h ∙ ap (λ b. cond b (slice_set es g (cell_read s c r ∷ [])) es) t.taken ∙ ap (λ x. slice_set es g (x ∷ [])) t.read

-- The key of a row that is taken

pub record KeyTaken (s : Settings) (cs : List Column) (r : ℕ) : Type 0 where
  pub read : key_read s.kinds cs r ≡ key_at cs r
  pub taken : key_taken s cs r ≡ true

key_parts : (fit other past long : Bool) → first_of (first_of (refuse (not fit) order.Cols ∷ None ∷ refuse other order.Kind ∷ refuse (past || false) order.Rows ∷ []) ∷ refuse (long || false) order.Long ∷ []) ≡ None
    → (fit ≡ true) × (other ≡ false) × (not long ≡ true)
key_parts true false false false e = (refl, refl, refl)
key_parts true false false true e = cc
key_parts true false true long e = cc
key_parts true true past long e = cc
key_parts false other past long e = cc

pub key_takes : (s : Settings) (cs : List Column) (n r : ℕ) → key_refused s false cs n (r ∷ []) ≡ None → KeyTaken s cs r
unfolding key_refused key_unfit
key_takes s cs n r e =
    let p = key_parts (cols_fit s.kinds cs n) (some_column (other_kind s.kinds) 0 cs) (past_column cs r) (untaken s cs r) e in
    record { read = key_is_read s.kinds cs n r p.0 p.1; taken = key_is_taken s cs n r p.0 p.1 ∙ p.2 }

-- the order columns that are given, as they are read
pub shown_keys : (g : coded.Given) (ks : List code.Column) → ks ≡ take g.count g.orders → map column_seen ks ≡ order_columns (given_seen g)
shown_keys g ks e = ap (map column_seen) e ∙ sym (take-map column_seen g.count g.orders)

pub key_shows : (s : Settings) (cs xs : List Column) (n r : ℕ) → xs ≡ cs → key_refused s false cs n (r ∷ []) ≡ None → key_read s.kinds xs r ≡ key_at cs r
key_shows s cs xs n r k e = ap (λ ys. key_read s.kinds ys r) k ∙ (key_takes s cs n r e).read

pub key_put : (s : Settings) (cs xs : List Column) (n r g : ℕ) (es new : List (List Cell)) → xs ≡ cs → key_refused s false cs n (r ∷ []) ≡ None
    → new ≡ cond (key_taken s xs r) (slice_set es g (key_read s.kinds xs r)) es → new ≡ slice_set es g (key_at cs r)
key_put s cs xs n r g es new k e h =
    h ∙ ap (λ ys. cond (key_taken s ys r) (slice_set es g (key_read s.kinds xs r)) es) k
    ∙ ap (λ b. cond b (slice_set es g (key_read s.kinds xs r)) es) (key_takes s cs n r e).taken
    ∙ ap (slice_set es g) (key_shows s cs xs n r k e)

-- One row against another

pub ranks : (m : Making) → OrderLaws m.order → (a b : Row) (x y : List Cell) (o : Ordering) → x ≡ a.key → y ≡ b.key
    → o ≡ cond m.first (verdict m.order x y) (ordering_reverse (verdict m.order x y)) → Ranks m a b o
unfolding verdict beats
ranks m laws a b x y o e k h =
    let t = h ∙ ap₂ (λ u v. cond m.first (verdict m.order u v) (ordering_reverse (verdict m.order u v))) e k in
    record {
      less = ap is_lt t ∙ less m.first (m.order.leq a.key b.key) (m.order.leq b.key a.key) (laws.total a.key b.key);
      greater = ap is_gt t ∙ greater m.first (m.order.leq a.key b.key) (m.order.leq b.key a.key) (laws.total a.key b.key);
    }
  where
    less : (f p q : Bool) → (p || q) ≡ true → is_lt (cond f (cond p (cond q Equal Less) Greater) (ordering_reverse (cond p (cond q Equal Less) Greater))) ≡ cond f (not q) (not p)
    less true true true t = refl
    less true true false t = refl
    less true false true t = refl
    less true false false t = absurd (false≢true t)
    less false true true t = refl
    less false true false t = refl
    less false false true t = refl
    less false false false t = absurd (false≢true t)

    greater : (f p q : Bool) → (p || q) ≡ true → is_gt (cond f (cond p (cond q Equal Less) Greater) (ordering_reverse (cond p (cond q Equal Less) Greater))) ≡ cond f (not p) (not q)
    greater true true true t = refl
    greater true true false t = refl
    greater true false true t = refl
    greater true false false t = absurd (false≢true t)
    greater false true true t = refl
    greater false true false t = refl
    greater false false true t = refl
    greater false false false t = absurd (false≢true t)

-- How many groups are held

pub grows : (held total : ℕ) → total_refused held total ≡ None → growing held total ≡ None
unfolding growing
grows held total e =
    let p = first_two_none _ _ e in
    rw (refuse_none _ _ p.0, refuse_none _ _ p.1)

pub drops : (held n : ℕ) → too_few held n ≡ None → dropping held n ≡ None
drops held n e = drop_fine held n (ltb-false held n (refuse_none _ _ e))

-- what a table holds after a call that is declined neither by its own check nor by another
pub both_done : {F G X : Type 0} (o : Option F) (p : Option G) (new old x : X) → p ≡ None → o ≡ None → x ≡ unless_refused o new old → x ≡ unless_refused p new old
both_done o p new old x h k e = done_so o new old x e k ∙ ap (λ t. unless_refused t new old) (sym h)

pub emptied_so : {X : Type 0} (es x : List X) (n : ℕ) → n ≡ length es → x ≡ unless_refused (dropping (length es) n) (drop n es) es → x ≡ []
emptied_so es x n is e = done_so _ _ _ _ e (drop_fine (length es) n (omega arith)) ∙ drop_all n es (omega arith)
