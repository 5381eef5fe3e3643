use Rattle.std.proofs.Common.{ℕ, ◌<◌, ◌≤◌, Bool, Some}
use Rattle.book.specs.Batches.{Given}
use Rattle.ungrouped.specs.Accumulators.{alone}
use Rattle.ungrouped.specs.Found.{TestsBy, RanksBy, outermost_top, Found}
use Rattle.ungrouped.proofs.single.Single.best_row.Given as goal

abbrev pub invariant-loop-row : goal.invariant-loop-row
invariant-loop-row g l =
    (l.best < l.row) × (l.row ≤ l.rows)
    × ((p : ℕ → Bool) (given : Given) → TestsBy (goal.F-post g l.test) p → RanksBy (goal.C-post g l.compare) (alone l.self).making given l.rows
    → Found (outermost_top (alone l.self).making) p given l.row (Some l.best))
