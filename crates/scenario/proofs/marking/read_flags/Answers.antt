use Rattle.std.proofs.Common.{Some, sym, subst}
use Rattle.scenario.specs.Calls.{Shows}
use Rattle.scenario.specs.Reading.{Finds}
use Rattle.scenario.proofs.Counting.{there}
use Rattle.scenario.proofs.marking.read_flags.Goals as goal

pub returns : goal.returns
returns c = subst (λ o. Finds c.read_marks.result (λ m. Shows o (Some m))) (sym (there c.args.text c.in_ok-ok_or.field-0 _ c.in_ok-ok_or.ensures.value)) c.read_marks.ensures
