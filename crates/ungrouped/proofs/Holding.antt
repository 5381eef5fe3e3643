-- What is held, read off an accumulator and set in it.
use Rattle.std.proofs.Common.{◌≡◌, Bool, true, false, cond, not, ◌&&◌, [], ◌∷◌, get_or, set, Less, Equal, Greater, Some, None, Option, sym, refl, ap, ap₂, ◌∙◌, subst}
use Rattle.std.specs.Option.{option_map}
use Rattle.std.specs.Ordering.{is_lt, is_le, is_gt}
use Rattle.std.specs.declared.cmp.Ordering.{Ordering}
use Rattle.std.proofs.lemmas.List.{map-set}
use Rattle.column.specs.Cells.{null}
use Rattle.column.specs.Columns.{Flags}
use Rattle.tables.specs.Meaning.{StateLaws, OrderLaws, state_of, first_cells}
use Rattle.tables.specs.declared.table.GroupTable.{Ghosts}
use Rattle.book.specs.Winners.{Row, Making, Lawful, beats}
use Rattle.keeping.specs.Keepers.{kept_row, Ranks, Same, Puts}
use Rattle.ungrouped.specs.declared.single.Single.{Single}
use Rattle.ungrouped.specs.Held.{Kept, origin_of, outdoes, gives_way, stored}
use Rattle.ungrouped.specs.Accumulators.{alone, Stands}

-- An answer of a comparison tells whether a row outdoes another

not_greater : (o : Ordering) → is_le o ≡ not (is_gt o)
not_greater Less = refl
not_greater Equal = refl
not_greater Greater = refl

pub outdone_tie : (m : Making) (ties : Bool) (new old : Row) (o : Ordering) → Ranks m new old o → ties && not m.first ≡ true → is_le o ≡ outdoes m ties new old
unfolding outdoes
outdone_tie m ties new old o h e = not_greater o ∙ ap not h.greater ∙ ap (λ b. cond b (not (beats m old new)) (beats m new old)) (sym e)

pub outdone_beaten : (m : Making) (ties : Bool) (new old : Row) (o : Ordering) → Ranks m new old o → ties && not m.first ≡ false → is_lt o ≡ outdoes m ties new old
unfolding outdoes
outdone_beaten m ties new old o h e = h.less ∙ ap (λ b. cond b (not (beats m old new)) (beats m new old)) (sym e)

module _ {S O F G : Type 0} {s : Ghosts S F} {o : Ghosts O G} where
  pub lawful : (a : Single S O F G s o) → ((x : S) → StateLaws (state_of (s.settings x))) → ((x : O) → OrderLaws (o.settings x)) → Lawful (alone a).making
  lawful a state_laws order_laws = record { of_state = state_laws a.keeper.state; of_order = order_laws a.keeper.order }

  -- what an accumulator shows is what it holds
  abbrev pub read : Single S O F G s o → Option Kept
  read a = option_map (λ x. record { row = kept_row a.keeper 0; came_by = x }) a.held

  pub read_is : (a : Single S O F G s o) (held : Option Kept) → Stands a held → read a ≡ held
  read_is a None h = ap (option_map (λ x. record { row = kept_row a.keeper 0; came_by = x })) h.came_by
  read_is a (Some k) h =
      ap (option_map (λ x. record { row = kept_row a.keeper 0; came_by = x })) h.came_by
      ∙ ap₂ (λ v key. Some (record { row = record { value = get_or v 0 null; key = get_or key 0 [] }; came_by = k.came_by })) h.value h.key

  -- a row that is left, and one that takes the place of what is held
  pub leaves : (a : Single S O F G s o) (marks : Option Flags) (y : Row) (held : Option Kept) → Stands a held → gives_way (alone a) marks y held ≡ false → Stands a (stored (alone a) marks held (Some y))
  leaves a marks y held h e = subst (λ b. Stands a (cond b (Some (record { row = y; came_by = origin_of marks })) held)) (sym e) h

  pub replaces_so : (a a' : Single S O F G s o) (marks : Option Flags) (y : Row) (held : Option Kept) → Stands a held → gives_way (alone a) marks y held ≡ true
      → Same a.keeper a'.keeper → Puts a.keeper 0 y a'.keeper → a'.held ≡ Some (origin_of marks) → Stands a' (stored (alone a) marks held (Some y))
  replaces_so a a' marks y held h e same puts came =
      subst (λ b. Stands a' (cond b (Some (record { row = y; came_by = origin_of marks })) held)) (sym e) (record {
        came_by = came;
        value = ap (λ es. first_cells es) puts.value ∙ map-set (λ x. get_or x 0 null) (s.entries a.keeper.state) 0 (y.value ∷ []) ∙ ap (λ cs. set cs 0 y.value) h.value;
        key = puts.key ∙ ap (λ es. set es 0 y.key) h.key;
      })
