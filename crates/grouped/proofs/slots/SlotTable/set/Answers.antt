use Rattle.std.proofs.Common.{true, take, map, ap, ◌∙◌}
use Rattle.std.proofs.lemmas.List.{map-set}
use Rattle.tables.proofs.Fronts.{front_set}
use Rattle.grouped.specs.declared.slots.Slot.{Slot}
use Rattle.grouped.proofs.slots.SlotTable.set.Goals as goal

pub returns-clause-flags : goal.returns-clause-flags
returns-clause-flags c =
    let t = c.args.self.now in
    let new : Slot = record { set = true } in
    ap (map (λ (s : Slot). s.set)) (front_set t.slots t.len c.args.group new c.requires.held) ∙ map-set (λ (s : Slot). s.set) (take t.len t.slots) c.args.group new
