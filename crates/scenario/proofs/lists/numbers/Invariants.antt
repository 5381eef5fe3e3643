use Rattle.std.proofs.Common.{Ok, map}
use Rattle.std.specs.List.{AllZip}
use Rattle.scenario.specs.Reading.{ReadsNumber}
use Rattle.scenario.proofs.lists.numbers.Given as goal

abbrev pub invariant-loop-word : goal.invariant-loop-word
invariant-loop-word g l = AllZip (λ word n. ReadsNumber g.T.FromStr.from_str_gives word (Ok n)) (map (λ x. x.now) l.yielded) l.list.items
