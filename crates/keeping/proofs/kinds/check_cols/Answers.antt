use Rattle.std.proofs.Common.{◌∙◌, rules}
use Rattle.keeping.proofs.Checking.{cols_same}
use Rattle.keeping.specs.Seen.{made_with}
use Rattle.keeping.proofs.kinds.check_cols.Goals as goal

pub returns : goal.returns
returns g c = λ s first nulls.
    (search rules) ∙ cols_same (made_with s (g.O.GroupTable.settings c.args.order.now) first nulls) c.args.given.now c.args.given.now.three
