use Rattle.std.proofs.Common.{◌≡◌, ◌≢◌, ℕ, List, ◌∷◌, Some, None, Option, Err, refl, sym, subst, lit<}
use Rattle.std.specs.Prelude.{MatchOption}
use Rattle.std.specs.Option.{ok_or, option_copied}
use Rattle.std.proofs.lemmas.Result.{err_from_is_err_and}
use Rattle.std.proofs.lemmas.Str.Pattern.{strip_prefix_char}
use Rattle.scenario.specs.Reading.{Tells}
use Rattle.scenario.specs.Rooms.{RoomText, RoomFor}
use Rattle.scenario.specs.declared.Unread.{Unread}
use Rattle.scenario.specs.declared.Unread.TheVariants.{Malformed, OutOfMemory}
use Rattle.scenario.specs.declared.rooms.Room.{Room}
use Rattle.scenario.specs.declared.rooms.Room.TheVariants.{Exact, More, Short}
use Rattle.scenario.proofs.rooms.read_room.Goals as goal
use denote.Ref.{Bor}

-- without a plus or a minus in front a text writes no room
no_room : (t : List ℕ) → ((rest : List ℕ) → t ≢ 43 ∷ rest) → ((rest : List ℕ) → t ≢ 45 ∷ rest) → (room : Room) → RoomText t room → ⊥
no_room t plus minus Exact is = is
no_room t plus minus (More more) is = plus is.0 is.1
no_room t plus minus (Short part) is = minus _ is.0

unsigned : (o : Option (Bor (List ℕ))) (t : Bor (List ℕ)) (plus minus : Option (Bor (List ℕ))) (e : Unread) → o ≡ Some t
    → MatchOption plus ((rest : List ℕ) → t.now ≢ 43 ∷ rest) (λ x. t.now ≡ 43 ∷ x.now) → ((x : Bor (List ℕ)) → plus ≢ Some x)
    → MatchOption minus ((rest : List ℕ) → t.now ≢ 45 ∷ rest) (λ x. t.now ≡ 45 ∷ x.now) → Err e ≡ ok_or minus Malformed → Tells (Err e) (RoomFor (option_copied o))
unsigned None t plus minus e is p none m gone = cc
unsigned (Some u) t (Some x) minus e is p none m gone = absurd (none x refl)
unsigned (Some u) t None (Some y) e is p none m gone = cc
unsigned (Some u) t None None OutOfMemory is p none m gone = cc
unsigned (Some u) t None None Malformed is p none m gone = let same : t ≡ u = cc in λ room h. no_room t.now p m room (subst (λ v. RoomText v.now room) (sym same) h)

pub returns-in_err-name : goal.returns-in_err-name
returns-in_err-name c =
    let p = err_from_is_err_and c.from_residual-in_err-name.result c.from_residual-in_err-name.ensures.1 in
    rw (p.1, p.2) (unsigned c.args.text c.in-Some.text c.strip_prefix.result c.«strip_prefix-2».result c.in_err-name.field-0.0 c.in-Some.is
    (strip_prefix_char 43 c.in-Some.text.now c.strip_prefix.result c.strip_prefix.ensures.cases (lit< tt)) c.in_default-strip_prefix.not-Some
    (strip_prefix_char 45 c.in-Some.text.now c.«strip_prefix-2».result c.«strip_prefix-2».ensures.cases (lit< tt)) c.in_err-name.ensures.value)
