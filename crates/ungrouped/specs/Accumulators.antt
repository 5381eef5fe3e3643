-- Accumulators: what an ungrouped accumulator holds, and what each call promises.
--   state_settings, order_settings   how its state and its order are set
--   alone    how an accumulator was made
--   Stands   an accumulator holds this row, or none: it is set or unset so, and its value and key are those of the row, or null
--   Obeys    what a call promises: the making stays, and whatever the accumulator held, the answer is the defined one and it holds what is held next
use Rattle.std.specs.Prelude.{◌≡◌, [], ◌∷◌, Option}
use Rattle.std.specs.Option.{option_map}
use Rattle.tables.specs.Meaning.{Settings, first_cells}
use Rattle.tables.specs.declared.table.GroupTable.{Ghosts}
use Rattle.book.specs.Emission.{Outputs, value_shown}
use Rattle.book.specs.Calls.{Answer}
use Rattle.keeping.specs.Keepers.{made_of, cells, keys}
use Rattle.keeping.specs.Replies.{key_cells}
use Rattle.ungrouped.specs.Rows.{Alone}
use Rattle.ungrouped.specs.Held.{Kept, shown_row}
use Rattle.ungrouped.specs.Calls.{Call, answer, after}
use Rattle.ungrouped.specs.declared.single.Single.{Single}

module _ {S O F G : Type 0} {s : Ghosts S F} {o : Ghosts O G} where
  abbrev pub state_settings : Single S O F G s o → Settings
  state_settings a = s.settings a.keeper.state

  abbrev pub order_settings : Single S O F G s o → Settings
  order_settings a = o.settings a.keeper.order

  abbrev pub alone : Single S O F G s o → Alone
  alone a = record { making = made_of a.keeper; in_order = a.is_input_pre_ordered }

  pub record Stands (a : Single S O F G s o) (held : Option Kept) : Type 0 where
    pub came_by : a.held ≡ option_map (λ k. k.came_by) held
    pub value : first_cells (cells a.keeper) ≡ value_shown (shown_row held) ∷ []
    pub key : keys a.keeper ≡ key_cells (order_settings a).kinds (shown_row held) ∷ []

  pub record Obeys (a : Single S O F G s o) (c : Call) (before : Outputs) (r : Answer) (a' : Single S O F G s o) : Type 0 where
    pub same_making : alone a' ≡ alone a
    pub answers_so : (held : Option Kept) → Stands a held → r ≡ answer (alone a) held c before
    pub keeps_so : (held : Option Kept) → Stands a held → Stands a' (after (alone a) held c before)
