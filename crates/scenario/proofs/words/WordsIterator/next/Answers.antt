use Rattle.std.proofs.Common.{◌≡◌, ◌<◌, sym, ap, ◌∙◌, [], length, arith}
use Rattle.scenario.specs.Words.{words}
use Rattle.scenario.proofs.Wording.{trimmed, no_words, first_word}
use Rattle.scenario.proofs.words.WordsIterator.next.Goals as goal

pub returns-then-is_empty-clause-steps : goal.returns-then-is_empty-clause-steps
returns-then-is_empty-clause-steps c =
    let same : words c.args.self.now.rest.now ≡ words c.trim_start_matches-text.result.now = trimmed _ _ c.trim_start_matches-text.ensures.matches in
    let none : words c.trim_start_matches-text.result.now ≡ [] = no_words _ (sym c.is_empty.ensures ∙ c.if-is_empty.true) in
    (same ∙ none, none)

found : goal.returns-clause-steps
found c = first_word _ _ _ _ c.trim_start_matches-text.ensures.matches (sym c.is_empty.ensures ∙ c.if-is_empty.false) c.cut.ensures.word c.cut.ensures.rest

pub returns-clause-steps : goal.returns-clause-steps
returns-clause-steps c = found c

pub returns-clause-goes : goal.returns-clause-goes
returns-clause-goes c =
    let fewer : length (words c.cut.result.1.now) < length (words c.args.self.now.rest.now) = omega (arith, ap length (found c)) in
    record { on = λ _. (tt, tt, fewer); keeps = tt; rests = λ _. tt }
