use Rattle.keeping.proofs.KeptRows.{emptied_so}
use Rattle.keeping.proofs.kept.emptied.Goals as goal

pub returns-clause-empty : goal.returns-clause-empty
returns-clause-empty g c = emptied_so (g.T.GroupTable.entries c.args.table) _ _ c.groups-held.ensures c.drop_first.ensures.after
