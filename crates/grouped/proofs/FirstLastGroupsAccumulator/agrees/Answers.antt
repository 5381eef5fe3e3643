use Rattle.grouped.proofs.Reached.{winners_decide_of, answers_defined}
use Rattle.grouped.proofs.FirstLastGroupsAccumulator.agrees.Goals as goal

pub returns : goal.returns
returns g c =
    let a = c.args.self.now in
    record {
      holds = c.same_winners.ensures;
      decides = winners_decide_of g.met.S.ValueState.lawful g.met.O.RowOrder.lawful a c.args.other.now;
      defined = (answers_defined a, answers_defined c.args.other.now);
    }
