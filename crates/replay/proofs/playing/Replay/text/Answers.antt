use Rattle.std.proofs.Common.{◌≡◌, ◌∷◌, List, ℕ, Ok, Err, refl, sym, subst, inl}
use Rattle.std.specs.Prelude.{Result, IfOk, Option, codes, string_bytes}
use Rattle.scenario.specs.declared.Reads.{Reads}
use Rattle.scenario.specs.declared.Unread.{Unread}
use Rattle.scenario.specs.declared.Unread.TheVariants.{Malformed, OutOfMemory}
use Rattle.scenario.specs.declared.commands.Command.{Command}
use Rattle.scenario.specs.Accumulators.{Proper}
use Rattle.scenario.specs.Names.{command_name}
use Rattle.scenario.specs.Reading.{Found}
use Rattle.scenario.specs.Words.{words}
use Rattle.replay.specs.declared.playing.Replay.{Replay}
use Rattle.replay.specs.Playing.{reads, Unasked, Played}
use Rattle.replay.proofs.playing.Replay.text.Goals as goal

-- words that are malformed write no command
unasked : (given had : Option Reads) (ws : List (List ℕ)) (e : Unread) → given ≡ had → e ≡ Malformed
    → Found (Err e) (λ command. (more : List (List ℕ)) × (ws ≡ command_name command ∷ more) × Proper given command more) ((command : Command) → ((more : List (List ℕ)) × (ws ≡ command_name command ∷ more) × Proper given command more) → ⊥)
    → Unasked had ws
unasked given had ws Malformed same is none = λ command more so asks. none command (more, so, subst (λ reads. Proper reads command more) (sym same) asks)
unasked given had ws OutOfMemory same is none = cc

-- where memory suffices, `malformed` is answered
malformed_played : {S E : Type 0} (bytes : S → List ℕ) (r : Result S E) (old : Replay) (text : List ℕ) → IfOk r (λ answer. bytes answer ≡ codes "malformed") → Unasked (reads old) (words text)
    → IfOk r (λ answer. Played old old text (bytes answer))
malformed_played bytes (Ok answer) old text is none = inl (is, refl, λ text. none)
malformed_played bytes (Err e) old text is none = tt

pub returns-in-Err-Malformed : goal.returns-in-Err-Malformed
returns-in-Err-Malformed c =
    malformed_played (λ answer. string_bytes answer) c.malformed.result c.args.self.now c.args.text.now c.malformed.ensures
    (unasked c.reads.result (reads c.args.self.now) (words c.args.text.now) c.in-Err-Malformed.field-0 c.reads.ensures c.in-Err-Malformed.field-0-is c.in-Err-Malformed.ensures.read)
