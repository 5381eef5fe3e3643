use Rattle.std.proofs.Common.{subst, List}
use Rattle.std.specs.Prelude.{IfSome}
use Rattle.column.specs.Columns.{Column}
use Rattle.tables.specs.Leading.{LeadsIn}
use Rattle.keeping.proofs.KeptRows.{shown_keys}
use Rattle.keeping.proofs.keeper.Keeper.leading.Goals as goal

pub returns : goal.returns
returns g c =
    subst (λ (cs : List Column). IfSome c.leading.result (LeadsIn (g.O.GroupTable.settings c.args.self.now.order) cs))
    (shown_keys c.args.given.now _ c.keys.ensures) c.leading.ensures
