use Rattle.std.proofs.Common.{◌≡◌, ◌-◌, ◌++◌, length, drop, replicate, sym, ap, ◌∙◌, arith}
use Rattle.std.proofs.lemmas.List.{length-take-le, length-drop}
use Rattle.tables.proofs.Declining.{passed, passed_new, grow_within}
use Rattle.tables.proofs.Fronts.{middle_filled}
use Rattle.tables.specs.Refusals.{growing}
use Rattle.tables.proofs.entries.Entries.grow.Goals as goal

pub with_room-start-requires-clause-few : goal.with_room-start-requires-clause-few
with_room-start-requires-clause-few g c = (grow_within _ _ (passed _ _ _ c.in_ok-check_grow.ensures)).0

pub slice_bounds-overwrite-count : goal.slice_bounds-overwrite-count
slice_bounds-overwrite-count g c = let w = grow_within _ _ (passed _ _ _ c.in_ok-check_grow.ensures) in omega arith

pub slice_bounds-overwrite-start : goal.slice_bounds-overwrite-start
slice_bounds-overwrite-start g c = let w = grow_within _ _ (passed _ _ _ c.in_ok-check_grow.ensures) in omega arith

pub returns-clause-after : goal.returns-clause-after
returns-clause-after g c =
    let e = c.self.inside in
    let r = c.with_room-start in
    let p = passed _ _ _ c.in_ok-check_grow.ensures in
    let w = grow_within _ _ p in
    let d = length-drop e.start e.table in
    let h : e.len ≡ length c.args.self.now = sym (length-take-le e.len (drop e.start e.table) (omega arith)) ∙ ap length c.self.view_is in
    middle_filled r.new.table c.overwrite.new.places c.args.fill r.result e.len c.args.total w.1 (omega arith) c.overwrite.ensures
    ∙ ap (λ es. es ++ replicate (c.args.total - e.len) c.args.fill) (r.ensures.kept ∙ c.self.view_is)
    ∙ ap (λ k. c.args.self.now ++ replicate (c.args.total - k) c.args.fill) h
    ∙ passed_new _ _ _ (ap (λ k. growing k c.args.total) (sym h) ∙ p)
