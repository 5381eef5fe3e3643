use Rattle.std.proofs.Common.{◌≡◌, ◌≤◌, map, take, length}
use Rattle.scenario.specs.Names.{sorting_name}
use Rattle.scenario.proofs.makings.numbers.Given as goal

abbrev pub invariant-loop-option : goal.invariant-loop-option
invariant-loop-option l = record {
  three : length l.sorts ≡ 3;
  few : l.count ≤ 3;
  options : map sorting_name (take l.count l.sorts) ≡ map (λ x. x.now) l.yielded;
}
