use Rattle.std.proofs.Common.{map}
use Rattle.scenario.specs.Fields.{texts_of, Gathers}
use Rattle.scenario.proofs.fields.Fields.of.Given as goal

abbrev pub invariant-loop-word : goal.invariant-loop-word
invariant-loop-word l = Gathers (map (λ x. x.now) l.yielded) (texts_of l.fields)
