-- Calls: what a call's line asks for.
--   Shows        a field's text is this column of truth values, or there are neither
--   Columned     the columns of some fields: a value column, and a column for each key
--   Grouped      the group indices and the total number of groups of some fields
--   Rows         a batch of some fields: its groups and its columns
--   IsLeaving    a word says how many groups leave
--   Bare         fields of an emission, none but the room
--   Emitted      the words behind an emission's name: how many groups leave, and the room
--   AsksAlone    the fields ask for this call of an accumulator without groups
--   AsksRows     the fields ask for this call of groups, which is given rows
--   AsksGroups   the words behind a call's name ask for this call of groups
--   Asks         the words behind a call's name ask for it, of an accumulator that reads this
use Rattle.std.specs.Prelude.{◌≡◌, ℕ, true, false, List, [], ◌∷◌, Some, None, Option, codes}
use Rattle.std.specs.List.{AllZip}
use Rattle.scenario.specs.declared.Reads.{Reads}
use Rattle.scenario.specs.declared.alone.SingleCall.{SingleCall}
use Rattle.scenario.specs.declared.alone.SingleCall.TheVariants as single
use Rattle.scenario.specs.declared.calls.Batch.{Batch}
use Rattle.scenario.specs.declared.calls.Call.{Call}
use Rattle.scenario.specs.declared.calls.Call.TheVariants.{Update, Merge, Convert, Evaluate, State, Single}
use Rattle.scenario.specs.declared.calls.Columns.{Columns}
use Rattle.scenario.specs.declared.calls.Leaving.{Leaving}
use Rattle.scenario.specs.declared.calls.Leaving.TheVariants.{All, First}
use Rattle.scenario.specs.declared.marking.Marks.{Marks}
use Rattle.scenario.specs.declared.rooms.Room.{Room}
use Rattle.scenario.specs.Cells.{ColumnText, MarksText}
use Rattle.scenario.specs.Fields.{Texts, Gathers}
use Rattle.scenario.specs.Rooms.{RoomFor}
use Rattle.scenario.specs.Texts.{IsCount, IsCounts}

abbrev pub Shows : Option (List ℕ) → Option Marks → Type 0
Shows None None = Unit {0}
Shows None (Some m) = ⊥
Shows (Some t) None = ⊥
Shows (Some t) (Some m) = MarksText t m

abbrev pub Columned : Reads → Texts → Columns → Type 0
Columned a f c = (values : List ℕ) × (f.values ≡ Some values) × ColumnText a.values values c.values × AllZip (ColumnText a.keys) f.keys c.keys.items

abbrev pub Grouped : Texts → List ℕ → ℕ → Type 0
Grouped f indices n = (groups total : List ℕ) × (f.groups ≡ Some groups) × (f.total ≡ Some total) × IsCounts 64 groups indices × IsCount 64 total n

abbrev pub Rows : Reads → Texts → Batch → Type 0
Rows a f b = Grouped f b.groups.items b.total × Columned a f b.columns

abbrev pub IsLeaving : List ℕ → Leaving → Type 0
IsLeaving t All = t ≡ codes "all"
IsLeaving t (First n) = IsCount 64 t n

abbrev pub Bare : Texts → Room → Type 0
Bare f room = (f.values ≡ None) × (f.keys ≡ []) × (f.groups ≡ None) × (f.total ≡ None) × (f.filter ≡ None) × (f.flags ≡ None) × RoomFor f.room room

abbrev pub Emitted : List (List ℕ) → Leaving → Room → Type 0
Emitted ws leaving room = (first : List ℕ) × (more : List (List ℕ)) × (f : Texts) × (ws ≡ first ∷ more) × IsLeaving first leaving × Gathers more f × Bare f room

abbrev pub AsksAlone : Reads → Texts → SingleCall → Type 0
AsksAlone a f (single.Update columns) = Columned a f columns × (f.groups ≡ None) × (f.total ≡ None) × (f.filter ≡ None) × (f.flags ≡ None) × (f.room ≡ None)
AsksAlone a f (single.Merge columns flags) = Columned a f columns × Shows f.flags (Some flags) × (f.groups ≡ None) × (f.total ≡ None) × (f.filter ≡ None) × (f.room ≡ None)
AsksAlone a f (single.Evaluate room) = Bare f room
AsksAlone a f (single.State room) = Bare f room

abbrev pub AsksRows : Reads → Texts → Call → Type 0
AsksRows a f (Update batch filter) = Rows a f batch × Shows f.filter filter × (f.flags ≡ None) × (f.room ≡ None)
AsksRows a f (Merge batch flags) = Rows a f batch × Shows f.flags (Some flags) × (f.filter ≡ None) × (f.room ≡ None)
AsksRows a f (Convert columns filter room) = Columned a f columns × Shows f.filter filter × RoomFor f.room room × (f.groups ≡ None) × (f.total ≡ None) × (f.flags ≡ None)
AsksRows a f (Evaluate leaving room) = ⊥
AsksRows a f (State leaving room) = ⊥
AsksRows a f (Single call) = ⊥

abbrev pub AsksGroups : Reads → List (List ℕ) → Call → Type 0
AsksGroups a ws (Evaluate leaving room) = Emitted ws leaving room
AsksGroups a ws (State leaving room) = Emitted ws leaving room
AsksGroups a ws (Single call) = ⊥
AsksGroups a ws (Update batch filter) = (f : Texts) × Gathers ws f × AsksRows a f (Update batch filter)
AsksGroups a ws (Merge batch flags) = (f : Texts) × Gathers ws f × AsksRows a f (Merge batch flags)
AsksGroups a ws (Convert columns filter room) = (f : Texts) × Gathers ws f × AsksRows a f (Convert columns filter room)

abbrev pub Asks : Reads → List (List ℕ) → Call → Type 0
Asks a ws (Single call) = (a.alone ≡ true) × (f : Texts) × Gathers ws f × AsksAlone a f call
Asks a ws (Update batch filter) = (a.alone ≡ false) × AsksGroups a ws (Update batch filter)
Asks a ws (Merge batch flags) = (a.alone ≡ false) × AsksGroups a ws (Merge batch flags)
Asks a ws (Convert columns filter room) = (a.alone ≡ false) × AsksGroups a ws (Convert columns filter room)
Asks a ws (Evaluate leaving room) = (a.alone ≡ false) × AsksGroups a ws (Evaluate leaving room)
Asks a ws (State leaving room) = (a.alone ≡ false) × AsksGroups a ws (State leaving room)
