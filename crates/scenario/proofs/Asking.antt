-- What the words behind a call's name ask for.
use Rattle.std.proofs.Common.{◌≡◌, ◌≢◌, ℕ, List, map, refl, false, ap, sym, arith, subst}
use Rattle.std.specs.Prelude.{codes, slice_index, Option, None}
use Rattle.std.specs.Option.{option_copied}
use Rattle.column.specs.declared.Kind.TheVariants.{Number}
use Rattle.scenario.specs.declared.Reads.{Reads}
use Rattle.scenario.specs.declared.alone.SingleCall.{SingleCall}
use Rattle.scenario.specs.declared.alone.SingleCall.TheVariants as single
use Rattle.scenario.specs.declared.calls.Batch.{Batch}
use Rattle.scenario.specs.declared.calls.Call.{Call}
use Rattle.scenario.specs.declared.calls.Call.TheVariants.{Update, Merge, Convert, Evaluate, State, Single}
use Rattle.scenario.specs.declared.calls.Columns.{Columns}
use Rattle.scenario.specs.declared.calls.Leaving.{Leaving}
use Rattle.scenario.specs.declared.rooms.Room.{Room}
use Rattle.scenario.specs.Calls.{Columned, Rows, Bare, Emitted, AsksAlone, AsksRows, AsksGroups}
use Rattle.scenario.specs.Fields.{Texts, texts_of, Gathers}
use Rattle.scenario.specs.Plain.{Fieldless}
use Rattle.scenario.specs.Rooms.{RoomFor}
use Rattle.scenario.specs.declared.fields.Fields.{Fields}
use Rattle.scenario.specs.declared.rooms.Room.TheVariants.{Exact}
use Rattle.scenario.specs.Names.{call_name, single_name}
use Rattle.scenario.proofs.Gathering.{one_gathering}
use denote.Ref.{Bor}

-- one name is not another that begins otherwise
apart : {X : Type 0} (a b : List ℕ) → a ≡ b → slice_index a 0 ≢ slice_index b 0 → X
apart a b is differ = absurd (differ (ap (λ t. slice_index t 0) is))

-- the fields that ask for a call are those that the words are
pub asks_groups : (a : Reads) (f : Texts) (ws : List (List ℕ)) (call : Call) → Gathers ws f → AsksRows a f call → AsksGroups a ws call
asks_groups a f ws (Update batch filter) gathered asks = (f, gathered, asks)
asks_groups a f ws (Merge batch flags) gathered asks = (f, gathered, asks)
asks_groups a f ws (Convert columns filter room) gathered asks = (f, gathered, asks)
asks_groups a f ws (Evaluate leaving room) gathered asks = absurd asks
asks_groups a f ws (State leaving room) gathered asks = absurd asks
asks_groups a f ws (Single call) gathered asks = absurd asks

-- and where a call that is no emission is asked for, these fields ask for it
pub asks_rows : (a : Reads) (f : Texts) (ws : List (List ℕ)) (call : Call) → Gathers ws f → call_name call ≢ codes "evaluate" → call_name call ≢ codes "state" → AsksGroups a ws call → AsksRows a f call
asks_rows a f ws (Update batch filter) gathered evaluates states (g, also, asks) = subst (λ f. AsksRows a f (Update batch filter)) (one_gathering ws g f also gathered) asks
asks_rows a f ws (Merge batch flags) gathered evaluates states (g, also, asks) = subst (λ f. AsksRows a f (Merge batch flags)) (one_gathering ws g f also gathered) asks
asks_rows a f ws (Convert columns filter room) gathered evaluates states (g, also, asks) = subst (λ f. AsksRows a f (Convert columns filter room)) (one_gathering ws g f also gathered) asks
asks_rows a f ws (Evaluate leaving room) gathered evaluates states asks = absurd (evaluates refl)
asks_rows a f ws (State leaving room) gathered evaluates states asks = absurd (states refl)
asks_rows a f ws (Single call) gathered evaluates states asks = absurd asks

-- what an update, a merge and a conversion are given
pub rows_of_update : (a : Reads) (f : Texts) (call : Call) → call_name call ≡ codes "update" → AsksRows a f call → (batch : Batch) × Rows a f batch
rows_of_update a f (Update batch filter) is asks = (batch, asks.0)
rows_of_update a f (Merge batch flags) is asks = apart _ _ is (λ e. omega (arith, e))
rows_of_update a f (Convert columns filter room) is asks = apart _ _ is (λ e. omega (arith, e))
rows_of_update a f (Evaluate leaving room) is asks = absurd asks
rows_of_update a f (State leaving room) is asks = absurd asks
rows_of_update a f (Single call) is asks = absurd asks

pub rows_of_merge : (a : Reads) (f : Texts) (call : Call) → call_name call ≡ codes "merge" → AsksRows a f call → (batch : Batch) × Rows a f batch
rows_of_merge a f (Update batch filter) is asks = apart _ _ is (λ e. omega (arith, e))
rows_of_merge a f (Merge batch flags) is asks = (batch, asks.0)
rows_of_merge a f (Convert columns filter room) is asks = apart _ _ is (λ e. omega (arith, e))
rows_of_merge a f (Evaluate leaving room) is asks = absurd asks
rows_of_merge a f (State leaving room) is asks = absurd asks
rows_of_merge a f (Single call) is asks = absurd asks

pub columns_of_convert : (a : Reads) (f : Texts) (call : Call) → call_name call ≡ codes "convert" → AsksRows a f call → (columns : Columns) × Columned a f columns
columns_of_convert a f (Update batch filter) is asks = apart _ _ is (λ e. omega (arith, e))
columns_of_convert a f (Merge batch flags) is asks = apart _ _ is (λ e. omega (arith, e))
columns_of_convert a f (Convert columns filter room) is asks = (columns, asks.0)
columns_of_convert a f (Evaluate leaving room) is asks = absurd asks
columns_of_convert a f (State leaving room) is asks = absurd asks
columns_of_convert a f (Single call) is asks = absurd asks

-- an accumulator, whatever it reads
any_reads : Reads
any_reads = record { alone = false; values = Number; keys = Number; count = 0 }

-- how an emission is asked for
pub emission_of_evaluate : (ws : List (List ℕ)) (call : Call) → call_name call ≡ codes "evaluate" → ((a : Reads) → AsksGroups a ws call) → (asked : Leaving × Room) × Emitted ws asked.0 asked.1
emission_of_evaluate ws (Update batch filter) is asks = apart _ _ is (λ e. omega (arith, e))
emission_of_evaluate ws (Merge batch flags) is asks = apart _ _ is (λ e. omega (arith, e))
emission_of_evaluate ws (Convert columns filter room) is asks = apart _ _ is (λ e. omega (arith, e))
emission_of_evaluate ws (Evaluate leaving room) is asks = ((leaving, room), asks any_reads)
emission_of_evaluate ws (State leaving room) is asks = apart _ _ is (λ e. omega (arith, e))
emission_of_evaluate ws (Single call) is asks = absurd (asks any_reads)

pub emission_of_state : (ws : List (List ℕ)) (call : Call) → call_name call ≡ codes "state" → ((a : Reads) → AsksGroups a ws call) → (asked : Leaving × Room) × Emitted ws asked.0 asked.1
emission_of_state ws (Update batch filter) is asks = apart _ _ is (λ e. omega (arith, e))
emission_of_state ws (Merge batch flags) is asks = apart _ _ is (λ e. omega (arith, e))
emission_of_state ws (Convert columns filter room) is asks = apart _ _ is (λ e. omega (arith, e))
emission_of_state ws (Evaluate leaving room) is asks = apart _ _ is (λ e. omega (arith, e))
emission_of_state ws (State leaving room) is asks = ((leaving, room), asks any_reads)
emission_of_state ws (Single call) is asks = absurd (asks any_reads)

-- a call that is no emission asks by fields
pub fields_of_rows : (a : Reads) (ws : List (List ℕ)) (call : Call) → call_name call ≢ codes "evaluate" → call_name call ≢ codes "state" → AsksGroups a ws call → (f : Texts) × Gathers ws f
fields_of_rows a ws (Update batch filter) evaluates states (f, gathered, asks) = (f, gathered)
fields_of_rows a ws (Merge batch flags) evaluates states (f, gathered, asks) = (f, gathered)
fields_of_rows a ws (Convert columns filter room) evaluates states (f, gathered, asks) = (f, gathered)
fields_of_rows a ws (Evaluate leaving room) evaluates states asks = absurd (evaluates refl)
fields_of_rows a ws (State leaving room) evaluates states asks = absurd (states refl)
fields_of_rows a ws (Single call) evaluates states asks = absurd asks

-- the same of an accumulator without groups
pub columns_of_alone_update : (a : Reads) (f : Texts) (call : SingleCall) → single_name call ≡ codes "update" → AsksAlone a f call → (columns : Columns) × Columned a f columns
columns_of_alone_update a f (single.Update columns) is asks = (columns, asks.0)
columns_of_alone_update a f (single.Merge columns flags) is asks = apart _ _ is (λ e. omega (arith, e))
columns_of_alone_update a f (single.Evaluate room) is asks = apart _ _ is (λ e. omega (arith, e))
columns_of_alone_update a f (single.State room) is asks = apart _ _ is (λ e. omega (arith, e))

pub columns_of_alone_merge : (a : Reads) (f : Texts) (call : SingleCall) → single_name call ≡ codes "merge" → AsksAlone a f call → (columns : Columns) × Columned a f columns
columns_of_alone_merge a f (single.Update columns) is asks = apart _ _ is (λ e. omega (arith, e))
columns_of_alone_merge a f (single.Merge columns flags) is asks = (columns, asks.0)
columns_of_alone_merge a f (single.Evaluate room) is asks = apart _ _ is (λ e. omega (arith, e))
columns_of_alone_merge a f (single.State room) is asks = apart _ _ is (λ e. omega (arith, e))

pub room_of_alone_evaluate : (f : Texts) (call : SingleCall) → single_name call ≡ codes "evaluate" → ((a : Reads) → AsksAlone a f call) → (room : Room) × Bare f room
room_of_alone_evaluate f (single.Update columns) is asks = apart _ _ is (λ e. omega (arith, e))
room_of_alone_evaluate f (single.Merge columns flags) is asks = apart _ _ is (λ e. omega (arith, e))
room_of_alone_evaluate f (single.Evaluate room) is asks = (room, asks any_reads)
room_of_alone_evaluate f (single.State room) is asks = apart _ _ is (λ e. omega (arith, e))

pub room_of_alone_state : (f : Texts) (call : SingleCall) → single_name call ≡ codes "state" → ((a : Reads) → AsksAlone a f call) → (room : Room) × Bare f room
room_of_alone_state f (single.Update columns) is asks = apart _ _ is (λ e. omega (arith, e))
room_of_alone_state f (single.Merge columns flags) is asks = apart _ _ is (λ e. omega (arith, e))
room_of_alone_state f (single.Evaluate room) is asks = apart _ _ is (λ e. omega (arith, e))
room_of_alone_state f (single.State room) is asks = (room, asks any_reads)

-- where there is no field, an emission is asked for with as much room as is needed
pub plain_bare : (f : Fields) → Fieldless f → Bare (texts_of f) Exact
plain_bare f h = (none f.values h.0, ap (map (λ t. t.now)) h.1, none f.groups h.2, none f.total h.3, none f.filter h.4, none f.flags h.5, subst (λ o. RoomFor o Exact) (sym (none f.room h.6)) refl)
  where
    none : (o : Option (Bor (List ℕ))) → o ≡ None → option_copied o ≡ None
    none o is = ap option_copied is
