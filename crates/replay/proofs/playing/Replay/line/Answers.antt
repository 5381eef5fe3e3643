use Rattle.std.proofs.Common.{subst, ap, sym, ◌∙◌}
use Rattle.std.specs.Prelude.{string_bytes}
use Rattle.replay.specs.Playing.{is_silent, Played}
use Rattle.replay.proofs.playing.Replay.line.Goals as goal

pub returns : goal.returns
returns c = (
  ap is_silent (sym c.bare-line.ensures) ∙ sym c.is_silent.ensures ∙ c.if-is_silent.false,
  subst (λ text. Played c.args.self.now c.answer.new.self text (string_bytes c.in_ok-answer.field-0)) c.bare-line.ensures c.in_ok-answer.ensures,
)
