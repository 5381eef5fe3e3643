use Rattle.keeping.proofs.Alike.{alike_decides}
use Rattle.keeping.proofs.keeper.Keeper.same_key_cell.Goals as goal

pub returns : goal.returns
returns g c =
    let d = alike_decides _ _ _ _ _ _ _ _ _ _ _ _ c.key_cell.ensures c.key_cell-2.ensures c.answered_alike.ensures in (
      λ e. let p = d.0 e in record { read = p.0; read_too = p.1; held = p.2; held_too = p.3; same = p.4 },
      λ h. d.1 (h.read, h.read_too, h.held, h.held_too, h.same),
    )
