use Rattle.std.proofs.Common.{◌<◌, length, get_or, set, ap, ◌∙◌, arith}
use Rattle.std.proofs.lemmas.List.Edits.{map_over_more}
use Rattle.std.proofs.lemmas.List.{get_or_default}
use Rattle.grouped.specs.Notices.{renumbered}
use Rattle.grouped.proofs.notice.ShiftNotice.renumber.Goals as goal

pub loop-group-preserved : goal.loop-group-preserved
loop-group-preserved c =
    let f = renumbered c.args.self.now.dropped in
    let ys = c.loop-group.«open» in
    let i = c.loop-group.group-index in
    let lt : i < length ys = omega arith in
    ap (set ys i) c.renumber_one.ensures ∙ map_over_more f c.args.«open».now ys i (get_or ys i 0) (omega arith) c.loop-group.invariant (get_or_default ys i 0 _ lt)
