-- Playing: what a line of a scenario does.
--   is_return     a carriage return
--   bare          a line without the carriage return that may end it
--   is_blank      a line of nothing but spaces
--   is_silent     a blank line or a comment, which get no answer
--   reads         what the accumulator reads, if there is one
--   Unasked       the words write no command
--   Done          what a command leaves, with its answer; of a call only that the accumulator stays as it was made
--   Played        a line is malformed and changes nothing, as it is no text or writes no command; or its command is done
--   Answered      a silent line changes nothing; any other is played
use Rattle.std.specs.Prelude.{◌≡◌, ℕ, ◌-◌, Bool, true, false, ◌||◌, ◌==◌, List, [], ◌∷◌, take, length, codes, Option, Some, None, IsTrue, IsFalse, ◌⊎◌, if◌then◌else◌}
use Rattle.std.specs.List.{slice_get, list_all}
use Rattle.std.specs.Option.{option_map}
use Rattle.std.specs.Str.{IsUtf8}
use Rattle.scenario.specs.declared.Reads.{Reads}
use Rattle.scenario.specs.declared.commands.Command.{Command}
use Rattle.scenario.specs.declared.commands.Command.TheVariants.{Make, Open, Call}
use Rattle.scenario.specs.Accumulators.{reads_of, Proper}
use Rattle.scenario.specs.Names.{command_name}
use Rattle.scenario.specs.Words.{words}
use Rattle.replay.specs.Texts.{open_text}
use Rattle.replay.specs.declared.playing.Replay.{Replay}

abbrev pub is_return : Option ℕ → Bool
is_return None = false
is_return (Some b) = b == 13

abbrev pub bare : List ℕ → List ℕ
bare l = if is_return (slice_get l (length l - 1)) then take (length l - 1) l else l

abbrev pub is_blank : List ℕ → Bool
is_blank l = list_all (λ b. b == 32) l

abbrev pub is_silent : List ℕ → Bool
is_silent [] = true
is_silent (b ∷ bs) = (b == 35) || is_blank (b ∷ bs)

abbrev pub reads : Replay → Option Reads
reads r = option_map (λ s. s.reads) r.stage

abbrev pub Done : Command → Replay → Replay → List ℕ → Type 0
Done (Make m) old new a = (a ≡ codes "made") × (reads new ≡ Some (reads_of m)) × (new.«open».items ≡ [])
Done (Open list) old new a = (a ≡ open_text list.items) × (new.stage ≡ old.stage) × (new.«open» ≡ list)
Done (Call call) old new a = reads new ≡ reads old

abbrev pub Unasked : Option Reads → List (List ℕ) → Type 0
Unasked reads ws = (command : Command) → (more : List (List ℕ)) → ws ≡ command_name command ∷ more → Proper reads command more → ⊥

abbrev pub Played : Replay → Replay → List ℕ → List ℕ → Type 0
Played old new text a = ((a ≡ codes "malformed") × (new ≡ old) × (IsUtf8 text → Unasked (reads old) (words text))) ⊎ ((command : Command) × (more : List (List ℕ)) × (words text ≡ command_name command ∷ more) × Proper (reads old) command more × Done command old new a)

abbrev pub Answered : Replay → Replay → List ℕ → Option (List ℕ) → Type 0
Answered old new text None = IsTrue (is_silent text) × (new ≡ old)
Answered old new text (Some a) = IsFalse (is_silent text) × Played old new text a
