use Rattle.std.proofs.Common.{◌≡◌, ◌+◌, ◌≤◌, drop}
use Rattle.scenario.specs.Words.{word_length}
use Rattle.scenario.proofs.words.word_end.Given as goal

abbrev pub invariant-loop-at : goal.invariant-loop-at
invariant-loop-at l = record {
  rest : word_length 0 l.fn.text ≡ l.at + word_length l.depth (drop l.at l.fn.text);
  shallow : l.depth ≤ l.at;
}
