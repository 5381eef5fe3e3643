use Rattle.std.proofs.Common.{subst}
use Rattle.std.specs.Prelude.{IfOk, string_bytes}
use Rattle.replay.specs.Playing.{Played}
use Rattle.replay.proofs.playing.Replay.answer.Goals as goal

pub returns-in-Ok : goal.returns-in-Ok
returns-in-Ok c = subst (λ text. IfOk c.text.result (λ answer. Played c.args.self.now c.text.new.self text (string_bytes answer))) c.in-Ok.ensures.cases.0 c.text.ensures
