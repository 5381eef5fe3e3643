use Rattle.std.proofs.Common.{◌∙◌, ap, set}
use Rattle.tables.proofs.Fronts.{middle_set}
use Rattle.tables.proofs.entries.Entries.set.Goals as goal

pub returns-then-i-self : goal.returns-then-i-self
returns-then-i-self g c =
    let e = c.self.inside in
    middle_set e.table e.start e.len c.args.i c.args.entry c.if-i-self.true
    ∙ ap (λ es. set es c.args.i c.args.entry) c.self.view_is
