use Rattle.scenario.proofs.marking.push_mark.Goals as goal

pub returns : goal.returns
returns c = (c.in_ok-bit.bit, c.in_ok-bit.known, c.in_ok-bit.ensures, c.in_ok-push.ensures.items, c.«in_ok-push-2».ensures.items)
