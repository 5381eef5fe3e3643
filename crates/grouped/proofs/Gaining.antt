-- What an accumulator stands for after it grew, after a group took a row in, and after group upon group did.
use Rattle.std.proofs.Common.{◌≡◌, ℕ, ◌+◌, ◌-◌, ◌<◌, ◌≤◌, true, false, List, [], ◌∷◌, ◌++◌, length, set, replicate, Some, None, Option, sym, refl, ap, ◌∙◌, subst, arith}
use Rattle.std.specs.Option.{option_map}
use Rattle.std.proofs.lemmas.Bool.{le-ltb}
use Rattle.column.specs.Checks.{unless_refused}
use Rattle.column.specs.Columns.{Flags}
use Rattle.tables.specs.Meaning.{state_of}
use Rattle.tables.specs.Refusals.{grown_entries, cell_refused, key_refused}
use Rattle.tables.specs.declared.table.GroupTable.{Ghosts}
use Rattle.tables.proofs.Declining.{done_so}
use Rattle.book.specs.Winners.{Row, Making, Lawful, winner, winners}
use Rattle.book.specs.Batches.{Book, Batch, Given, grown, order_columns}
use Rattle.book.specs.Declines.{total_refused}
use Rattle.keeping.specs.Keepers.{made_of, cells, keys, Same, Puts, Takes}
use Rattle.keeping.specs.declared.keeper.Keeper.{Keeper}
use Rattle.grouped.specs.declared.FirstLastGroupsAccumulator.{FirstLastGroupsAccumulator}
use Rattle.grouped.specs.declared.slots.SlotTable.{SlotTable}
use Rattle.grouped.specs.Accumulators.{Table, Shows, held, making, Keeps, winner_held}
use Rattle.grouped.specs.Slots.{flags_held}
use Rattle.grouped.specs.Walk.{outranks, gained, marked_row, brought, Best, Gains, GotBelow}
use Rattle.grouped.proofs.Entering.{got_none, got_more}
use Rattle.grouped.proofs.Holding.{flags_many, winners_many}
use Rattle.grouped.proofs.Showing.{grown_shows, taken_shows, same_shows, winners_grown, winners_long}

room_for : (have total : ℕ) → have ≤ total → total ≤ 256 → total_refused have total ≡ None
room_for have total h k = rw (le-ltb 256 total k, le-ltb total have h)

shows_on : (m m' : Making) → m' ≡ m → (t t' : Table) → t' ≡ t → (b : Book) → Shows m.order.kinds t (winners m b) → Shows m'.order.kinds t' (winners m' b)
shows_on m m' e t t' f b h =
    subst (λ (x : Making). Shows x.order.kinds t' (winners x b)) (sym e) (subst (λ x. Shows m.order.kinds x (winners m b)) (sym f) h)

pub none_marked : (g : ℕ) (o : Option ℕ) → ◌≡◌ {A = Option (ℕ × ℕ)} None (option_map (λ r. (g, r)) o) → o ≡ None
none_marked g None e = refl
none_marked g (Some r) e = cc

module _ {S O F G : Type 0} {s : Ghosts S F} {o : Ghosts O G} where
  pub made_keeper : (k k' : Keeper S O F G s o) → Same k k' → made_of k' ≡ made_of k
  made_keeper k k' h = λ i. record { state = state_of (h.state i); order = h.order i; first = h.first i; ignore_nulls = h.nulls i }

  abbrev table_of : Keeper S O F G s o → SlotTable → Table
  table_of k t = record { flags = flags_held t; cells = cells k; keys = keys k }

  module _ (a : FirstLastGroupsAccumulator S O F G s o) (k' : Keeper S O F G s o) (t' : SlotTable) (same : Same a.kept k') where
    pub grown_keeps : (total : ℕ) → a.slots.len ≤ total → total ≤ 256
        → cells k' ≡ unless_refused (total_refused (length (cells a.kept)) total) (grown_entries (s.settings a.kept.state).kinds (cells a.kept) total) (cells a.kept)
        → keys k' ≡ unless_refused (total_refused (length (cells a.kept)) total) (grown_entries (o.settings a.kept.order).kinds (keys a.kept) total) (keys a.kept)
        → flags_held t' ≡ flags_held a.slots ++ replicate (total - a.slots.len) false
        → (b : Book) → Keeps a b → Shows (made_of k').order.kinds (table_of k' t') (winners (made_of k') (grown b total))
    grown_keeps total more few cs ks fs b h =
        let m = making a in
        let n : length (cells a.kept) ≡ a.slots.len = a.level in
        let free : total_refused (length (cells a.kept)) total ≡ None = room_for _ total (omega (arith, n)) few in
        let flags : flags_held t' ≡ flags_held a.slots ++ replicate (total - length (flags_held a.slots)) false = fs ∙ ap (λ i. flags_held a.slots ++ replicate (total - i) false) (sym (flags_many a)) in
        let ws = winners m b in
        let t : Shows m.order.kinds _ (winners m (grown b total)) = subst (Shows m.order.kinds _) (sym (winners_grown m b total)) (grown_shows m.order.kinds (held a) ws h (s.settings a.kept.state).kinds total) in
        shows_on m (made_of k') (made_keeper a.kept k' same) _ (table_of k' t')
        (λ i. record { flags = flags i; cells = done_so _ _ _ _ cs free i; keys = done_so _ _ _ _ ks free i })
        (grown b total) t

    pub taken_keeps : Lawful (making a) → (g : ℕ) (y : Row) (rows : List Row) → winner (making a) rows ≡ Some y → g < a.slots.len → outranks (making a) y (winner_held (held a) g) ≡ true
        → Puts a.kept g y k' → flags_held t' ≡ set (flags_held a.slots) g true
        → (b : Book) → Keeps a b → Shows (made_of k').order.kinds (table_of k' t') (winners (made_of k') (gained b g rows))
    taken_keeps laws g y rows w l e puts fs b h =
        let m = making a in
        shows_on m (made_of k') (made_keeper a.kept k' same) _ (table_of k' t') (λ i. record { flags = fs i; cells = puts.value i; keys = puts.key i }) (gained b g rows)
        (taken_shows m laws (held a) b h g rows y w (let n = winners_many a (winners m b) h in omega arith) e)

  pub none_keeps : (a : FirstLastGroupsAccumulator S O F G s o) → Lawful (making a) → (x : Batch) (marks : Option Flags) (g n : ℕ) (r : Option ℕ) → r ≡ None → Best (making a) x marks g n r → Gains a g (brought (making a) x marks g n) a
  none_keeps a laws x marks g n r e best = λ b h. same_shows (making a) laws (held a) b h g (brought (making a) x marks g n) (sym best.wins_so ∙ ap (marked_row x.columns) e)

  pub takes_on : (k k' : Keeper S O F G s o) (g : Given) (r : ℕ) → Same k k' → Takes k g r → Takes k' g r
  takes_on k k' g r same t = record {
    cell = ap (λ x. cell_refused x false g.value r) same.state ∙ t.cell;
    key = ap (λ x. key_refused x false (order_columns g) g.count (r ∷ [])) same.order ∙ t.key;
  }

  -- what is so after the groups below some number took in what a batch brought
  pub record Took (a : FirstLastGroupsAccumulator S O F G s o) (x : Batch) (marks : Option Flags) (g : ℕ) (a' : FirstLastGroupsAccumulator S O F G s o) : Type 0 where
    pub same : Same a.kept a'.kept
    pub many : a'.slots.len ≡ a.slots.len
    pub keeps : (before after : Book) → Keeps a before → GotBelow (making a) x marks g before after → Keeps a' after

  pub took_none : (a : FirstLastGroupsAccumulator S O F G s o) (x : Batch) (marks : Option Flags) → Took a x marks 0 a
  took_none a x marks = record {
    same = record { state = refl; order = refl; first = refl; nulls = refl };
    many = refl;
    keeps = λ before after h got. subst (Keeps a) (sym (got_none (making a) x marks before after got)) h;
  }

  pub took_more : (a a' a'' : FirstLastGroupsAccumulator S O F G s o) (x : Batch) (marks : Option Flags) (g : ℕ) → g < a.slots.len → Took a x marks g a'
      → Same a'.kept a''.kept → a''.slots.len ≡ a'.slots.len → Gains a' g (brought (making a') x marks g (length x.indices)) a'' → Took a x marks (g + 1) a''
  took_more a a' a'' x marks g l t same many gains = record {
    same = record { state = same.state ∙ t.same.state; order = same.order ∙ t.same.order; first = same.first ∙ t.same.first; nulls = same.nulls ∙ t.same.nulls };
    many = many ∙ t.many;
    keeps = λ before after h got.
        let n = winners_many a (winners (making a) before) h in
        let k = winners_long (making a) before in
        let p = got_more (making a) x marks g before after (omega arith) got in
        subst (Keeps a'') (sym (p.2 ∙ ap (λ m. gained p.0 g (brought m x marks g (length x.indices))) (sym (made_keeper a.kept a'.kept t.same))))
        (gains p.0 (t.keeps before p.0 h p.1));
  }
