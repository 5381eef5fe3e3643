use Rattle.std.proofs.Common.{◌-◌, map, take, sym, ap, ◌∙◌}
use Rattle.std.proofs.lemmas.List.{drop-map}
use Rattle.grouped.proofs.Fronts.{front_moved}
use Rattle.grouped.specs.declared.slots.Slot.{Slot}
use Rattle.grouped.proofs.slots.SlotTable.drop_first.Goals as goal

pub returns-then-n-gt0-clause-flags : goal.returns-then-n-gt0-clause-flags
returns-then-n-gt0-clause-flags c =
    let t = c.args.self.now in
    ap (map (λ (s : Slot). s.set)) (ap (take (t.len - c.args.n)) c.copy_within.ensures.after ∙ front_moved t.slots t.len c.args.n c.requires.held c.requires.places)
    ∙ sym (drop-map (λ (s : Slot). s.set) c.args.n (take t.len t.slots))
