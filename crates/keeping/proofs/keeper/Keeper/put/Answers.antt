use Rattle.book.specs.Batches.{row_at}
use Rattle.keeping.proofs.KeptRows.{cell_put, key_put, shown_keys}
use Rattle.keeping.proofs.keeper.Keeper.put.Goals as goal

pub returns-clause-puts : goal.returns-clause-puts
unfolding row_at
returns-clause-puts g c = λ t.
    let cs = shown_keys c.args.given.now _ c.keys.ensures in
    record {
      value = cell_put _ _ _ _ _ _ t.cell c.put_cell.ensures.after;
      key = key_put _ _ _ _ _ _ _ _ cs t.key c.put_key.ensures.after;
    }
