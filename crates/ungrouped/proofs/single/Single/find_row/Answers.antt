use Rattle.std.proofs.Common.{rules, ◌≡◌, true, not, Some, None, refl, ◌∙◌}
use Rattle.column.specs.Cells.{is_null}
use Rattle.column.specs.Columns.{cell_at}
use Rattle.column.specs.Seen.{flags_seen}
use Rattle.keeping.specs.Seen.{given_seen}
use Rattle.ungrouped.specs.Accumulators.{alone}
use Rattle.ungrouped.specs.Rows.{counts}
use Rattle.ungrouped.proofs.Walking.{counts_each, counts_known, found_best}
use Rattle.ungrouped.proofs.single.Single.find_row.Goals as goal

pub returns-in-Some : goal.returns-in-Some
returns-in-Some g c =
    let a = alone c.args.self.now in
    let gs = given_seen c.args.given.now in
    let f = flags_seen c.in-Some.flags in
    rw c.in-Some.is (found_best a (Some f) (counts a.making gs (Some f)) gs _ _ (c.top_row.ensures (counts a.making gs (Some f)) (λ r b q. search rules)) refl)

pub returns-in-None : goal.returns-in-None
returns-in-None g c =
    let a = alone c.args.self.now in
    let gs = given_seen c.args.given.now in
    rw c.in-None.is (c.pick_row.ensures (counts a.making gs None) (λ r b q. let e : b ≡ not (is_null (cell_at gs.value r)) = search rules in e ∙ counts_known a.making gs r c.if-self.true))

pub returns-in-None-2 : goal.returns-in-None-2
returns-in-None-2 g c =
    let a = alone c.args.self.now in
    let gs = given_seen c.args.given.now in
    rw c.in-None-2.is (c.pick_row-in-None-2.ensures (counts a.making gs None) (λ r b q. let e : b ≡ true = search rules in e ∙ counts_each a.making gs r c.if-self.false))
