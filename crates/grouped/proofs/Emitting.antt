-- Groups that leave: what an emission answers, and what is held without them.
use Rattle.std.proofs.Common.{◌≡◌, ℕ, suc, ◌<◌, ◌≤◌, true, false, not, eqb, ltb, List, [], ◌∷◌, map, length, get_or, take, drop, IsErrAnd, Some, None, Option, Result, sym, refl, ap, ◌∙◌, ap₂, subst, ⊎_elim, arith}
use lib.ListN.{get_or-map}
use Rattle.std.proofs.lemmas.Bool.{cases_lt, lt-ltb, le-ltb, ne_eqb}
use Rattle.std.proofs.lemmas.List.{drop-map, take-map}
use Rattle.std.proofs.lemmas.Result.{err_from_is_err_and}
use Rattle.column.specs.Cells.{Kind, numbers, null}
use Rattle.column.specs.Checks.{first_of, refuse, unless_refused}
use Rattle.column.specs.Faults.{Fault, fault, EMPTY, FEWER, SPACE, in_state}
use Rattle.layout.specs.Layout.{Parts, fits, laid_flags, laid_out, written, written_all, written_flags}
use Rattle.layout.specs.Written.{flags_laid}
use Rattle.tables.specs.Meaning.{column_cells}
use Rattle.tables.specs.Refusals.{cells_laid, columns_laid, keys_laid}
use Rattle.tables.specs.declared.table.GroupTable.{Ghosts}
use Rattle.book.specs.Calls.{Call, evaluate, state, dropped, refused, answered, answer_unless, declined, Result as ResultSeen}
use Rattle.book.specs.Declines.{own}
use Rattle.book.specs.Emission.{Outputs, To, emits, evaluate_declined, state_declined, keys_short, flags_short, value_parts, value_shown, key_parts, key_shown, set_parts, set_shown}
use Rattle.book.specs.Winners.{Row, Making}
use Rattle.book.proofs.Following.{Held, held_taken}
use Rattle.faults.specs.Reported.{fault_seen}
use Rattle.faults.specs.declared.Fault as coded
use Rattle.keeping.specs.Fronts as Fronts
use Rattle.keeping.specs.Fronts.{too_few, values_declined, state_out}
use Rattle.keeping.specs.Keepers.{cells, keys, Same}
use Rattle.keeping.specs.Replies.{is_set, key_cells}
use Rattle.tables.proofs.Declining.{first_passed}
use Rattle.keeping.proofs.Measuring.{enough}
use Rattle.grouped.specs.Accumulators.{Shows, Stands, Table, held, making}
use Rattle.grouped.specs.Leaving.{front, without}
use Rattle.grouped.specs.Seen.{emission_answer}
use Rattle.grouped.specs.declared.notice.ShiftNotice.{ShiftNotice}
use Rattle.grouped.specs.declared.FirstLastGroupsAccumulator.{FirstLastGroupsAccumulator}
use Rattle.grouped.proofs.Flagging.{slots_laid}
use Rattle.grouped.proofs.Gaining.{made_keeper}
use Rattle.grouped.proofs.Holding.{winners_many, Does}
use Rattle.grouped.proofs.Showing.{cells_many, keys_many}

-- the exit of a `?` in an emission
pub emission_refused : (r : Result ShiftNotice coded.Fault) (e : coded.Fault) → IsErrAnd r (λ y. y ≡ e) → emission_answer r ≡ refused (fault_seen e)
emission_refused r e h = let p = err_from_is_err_and r h in rw (p.1, p.2)

-- What the first groups show

key_is : (ks : List Kind) (j : ℕ) (w : Option Row) → get_or (key_cells ks w) j null ≡ key_shown j w
key_is ks j None = get_or-map (λ k. null) ks j numbers
key_is ks j (Some r) = refl

column_is : (ks : List Kind) (j : ℕ) (ws : Held) → column_cells j (map (key_cells ks) ws) ≡ map (key_shown j) ws
column_is ks j [] = refl
column_is ks j (w ∷ ws) = ap₂ (λ c cs. c ∷ cs) (key_is ks j w) (column_is ks j ws)

pub columns_are : (all : List Kind) (n j : ℕ) (ks : List Kind) (ws : Held) → key_parts j ks (take n ws) ≡ columns_laid (map (key_cells all) ws) n j ks
columns_are all n j [] ws = refl
columns_are all n j (k ∷ ks) ws =
    ap₂ (λ p ps. p ∷ ps) (ap (laid_out k) (sym (take-map (key_shown j) n ws) ∙ ap (take n) (sym (column_is all j ws))))
    (columns_are all n (suc j) ks ws)

sets_are : (ws : Held) → map set_shown ws ≡ map Some (map is_set ws)
sets_are [] = refl
sets_are (None ∷ ws) = ap (λ l. Some false ∷ l) (sets_are ws)
sets_are (Some r ∷ ws) = ap (λ l. Some true ∷ l) (sets_are ws)

-- Without them

without_shows : (ks : List Kind) (t : Table) (ws : Held) (n : ℕ) → Shows ks t ws → Shows ks (without n t) (drop n ws)
without_shows ks t ws n h = record {
  flags = ap (drop n) h.flags ∙ drop-map is_set n ws;
  values = sym (drop-map (λ e. get_or e 0 null) n t.cells) ∙ ap (drop n) h.values ∙ drop-map value_shown n ws;
  keys = ap (drop n) h.keys ∙ drop-map (key_cells ks) n ws;
}

-- SPACE in values laid out so
abbrev values_short_at : Parts → Parts → Option Fault
values_short_at p out = refuse (not (fits p out)) (fault SPACE in_state 0 0)

-- EMPTY may be checked before FEWER, since no groups are never too many
few_first : (e v k f : Option Fault) → first_of (None ∷ e ∷ v ∷ k ∷ f ∷ []) ≡ first_of (e ∷ first_of (None ∷ None ∷ first_of (v ∷ k ∷ f ∷ []) ∷ []) ∷ [])
few_first (Some x) v k f = refl
few_first None (Some x) k f = refl
few_first None None (Some x) f = refl
few_first None None None (Some x) = refl
few_first None None None None = refl

module _ {S O F G : Type 0} {s : Ghosts S F} {o : Ghosts O G} (a : FirstLastGroupsAccumulator S O F G s o) (to : To) (n : ℕ) (is : n ≡ emits to a.slots.len) (ws : Held) (h : Stands a ws) where
  emitted_is : emits to (length ws) ≡ n
  emitted_is = ap (emits to) (sym (winners_many a ws h)) ∙ sym is

  cells_held : length ws ≡ length (cells a.kept)
  cells_held = sym (cells_many (making a).order.kinds (held a) ws h)

  keys_held : length ws ≡ length (keys a.kept)
  keys_held = sym (keys_many (making a).order.kinds (held a) ws h)

  values_are : value_parts (making a) (take (emits to (length ws)) ws) ≡ cells_laid (s.settings a.kept.state) (cells a.kept) n
  values_are = ap (laid_out (making a).state.kind) (ap (λ k. map value_shown (take k ws)) emitted_is ∙ sym (take-map value_shown n ws) ∙ ap (take n) (sym h.values))

  keys_are : key_parts 0 (making a).order.kinds (take (emits to (length ws)) ws) ≡ keys_laid (o.settings a.kept.order) (keys a.kept) n
  keys_are =
      let ks = (making a).order.kinds in
      ap (λ k. key_parts 0 ks (take k ws)) emitted_is ∙ columns_are ks n 0 ks ws ∙ ap (λ es. columns_laid es n 0 ks) (sym h.keys)

  flags_are : n ≤ a.slots.len → set_parts (take (emits to (length ws)) ws) ≡ flags_laid (front a).flags n
  flags_are l =
      ap laid_flags (ap (λ k. map set_shown (take k ws)) emitted_is ∙ sets_are (take n ws) ∙ ap (map Some) (sym (take-map is_set n ws) ∙ ap (take n) (sym h.flags)))
      ∙ sym (slots_laid a n l)

  pub evaluate_is : (b : Outputs) → evaluate_declined (making a) ws to b ≡ values_declined (s.settings a.kept.state) (cells a.kept) n b.values
  unfolding evaluate_declined
  evaluate_is b = λ i. first_of (refuse (ltb (cells_held i) (emitted_is i)) (own FEWER) ∷ values_short_at (values_are i) b.values ∷ [])

  pub state_is : (b : Outputs) → state_declined (making a) ws to b ≡ first_of (refuse (eqb n 0) (own EMPTY) ∷ Fronts.state_declined (front a) n b ∷ [])
  unfolding state_declined
  state_is b = ⊎_elim too_many enough_held (cases_lt (length (cells a.kept)) n)
    where
      e : Option Fault
      e = refuse (eqb n 0) (own EMPTY)

      v : Option Fault
      v = values_short_at (cells_laid (s.settings a.kept.state) (cells a.kept) n) b.values

      k : Option Fault
      k = keys_short 0 (keys_laid (o.settings a.kept.order) (keys a.kept) n) b.keys

      f : Option Fault
      f = flags_short (flags_laid (front a).flags n) b.flags

      too_many : length (cells a.kept) < n → state_declined (making a) ws to b ≡ first_of (e ∷ Fronts.state_declined (front a) n b ∷ [])
      too_many l = rw (emitted_is, cells_held, lt-ltb (length (cells a.kept)) n l, ne_eqb n 0 (λ z. omega arith)) refl

      enough_held : n ≤ length (cells a.kept) → state_declined (making a) ws to b ≡ first_of (e ∷ Fronts.state_declined (front a) n b ∷ [])
      enough_held l =
          let few : too_few (length (cells a.kept)) n ≡ None = ap (λ t. refuse t (own FEWER)) (le-ltb (length (cells a.kept)) n l) in
          let few_too : too_few (length (keys a.kept)) n ≡ None = ap (λ t. refuse t (own FEWER)) (le-ltb (length (keys a.kept)) n (let c = cells_held in let d = keys_held in omega arith)) in
          (λ i. first_of (refuse (ltb (cells_held i) (emitted_is i)) (own FEWER) ∷ refuse (eqb (emitted_is i) 0) (own EMPTY) ∷ values_short_at (values_are i) b.values ∷ keys_short 0 (keys_are i) b.keys ∷ flags_short (flags_are (let c = cells_held in let w = winners_many a ws h in omega arith) i) b.flags ∷ []))
          ∙ ap (λ t. first_of (t ∷ e ∷ v ∷ k ∷ f ∷ [])) few
          ∙ few_first e v k f
          ∙ ap₂ (λ t u. first_of (e ∷ first_of (t ∷ u ∷ first_of (v ∷ k ∷ f ∷ []) ∷ []) ∷ [])) (sym few) (sym few_too)

  module _ (a' : FirstLastGroupsAccumulator S O F G s o) (same : Same a.kept a'.kept) (left : held a' ≡ without n (held a)) where
    stands_on : Stands a' (drop n ws)
    stands_on =
        let t : Shows (making a).order.kinds (held a') (drop n ws) = subst (λ t. Shows (making a).order.kinds t (drop n ws)) (sym left) (without_shows (making a).order.kinds (held a) ws n h) in
        subst (λ (x : Making). Shows x.order.kinds (held a') (drop n ws)) (sym (made_keeper a.kept a'.kept same)) t

    emits_so : (c : Call) (b new new' : Outputs) (r : ResultSeen) → declined (making a) ws c b ≡ None → answered (making a) ws c b ≡ record { result = dropped n; outputs = new } → held_taken (making a) ws c ≡ drop n ws
        → r ≡ dropped n → new' ≡ new → Does a ws c b (record { result = r; outputs = new' }) a'
    emits_so c b new new' r d ans taken is-so news = record {
      replies = (λ i. record { result = is-so i; outputs = news i }) ∙ sym ans ∙ ap (λ x. answer_unless x b (answered (making a) ws c b)) (sym d);
      stands = subst (λ x. Stands a' (unless_refused x (held_taken (making a) ws c) ws)) (sym d) (subst (Stands a') (sym taken) stands_on);
    }

    pub evaluated : (b new : Outputs) (r : ResultSeen) → values_declined (s.settings a.kept.state) (cells a.kept) n b.values ≡ None → r ≡ dropped n
        → new ≡ record { values = written (cells_laid (s.settings a.kept.state) (cells a.kept) n) b.values; keys = b.keys; flags = b.flags } → Does a ws (evaluate to) b (record { result = r; outputs = new }) a'
    evaluated b new r d is-so news =
        emits_so (evaluate to) b _ new r (evaluate_is b ∙ d)
        (λ i. record { result = dropped (emitted_is i); outputs = record { values = written (values_are i) b.values; keys = b.keys; flags = b.flags } })
        (ap (λ k. drop k ws) emitted_is) is-so news

    pub state_taken : (b new : Outputs) (r : ResultSeen) → refuse (eqb n 0) (own EMPTY) ≡ None → Fronts.state_declined (front a) n b ≡ None → r ≡ dropped n
        → new ≡ state_out (front a) n b → Does a ws (state to) b (record { result = r; outputs = new }) a'
    state_taken b new r some d is-so news =
        let few : n ≤ length (cells a.kept) = enough (length (cells a.kept)) n (sym (first_passed _ _ d).0) in
        emits_so (state to) b _ new r (state_is b ∙ ap₂ (λ x y. first_of (x ∷ y ∷ [])) some d)
        (λ i. record { result = dropped (emitted_is i); outputs = record { values = written (values_are i) b.values; keys = written_all (keys_are i) b.keys; flags = written_flags (flags_are (let c = cells_held in let w = winners_many a ws h in omega arith) i) b.flags } })
        (ap (λ k. drop k ws) emitted_is) is-so news
