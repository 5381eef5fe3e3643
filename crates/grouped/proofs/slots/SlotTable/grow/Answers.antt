use Rattle.std.proofs.Common.{◌-◌, false, ◌++◌, map, take, replicate, ap, ◌∙◌}
use Rattle.std.proofs.lemmas.List.{map-append}
use Rattle.grouped.proofs.Fronts.{front_filled}
use Rattle.book.proofs.Following.{map_replicate}
use Rattle.grouped.specs.declared.slots.Slot.{Slot}
use Rattle.grouped.specs.Slots.{flags_held}
use Rattle.grouped.proofs.slots.SlotTable.grow.Goals as goal

pub returns-clause-flags : goal.returns-clause-flags
returns-clause-flags c =
    let t = c.args.self.now in
    let new : Slot = record { set = false } in
    let flag = λ (s : Slot). s.set in
    ap (map flag) (front_filled t.slots c.unset.new.slots new t.len c.args.total c.requires.more c.requires.room c.unset.ensures)
    ∙ map-append flag (take t.len t.slots) (replicate (c.args.total - t.len) new)
    ∙ ap (λ l. flags_held t ++ l) (map_replicate flag (c.args.total - t.len) new)
