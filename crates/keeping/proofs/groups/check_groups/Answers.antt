use Rattle.std.proofs.Common.{leb, Some, sym, ap, ◌∙◌}
use Rattle.std.specs.Option.{option_map}
use Rattle.column.specs.Faults.{GROUP, fault, in_accumulator}
use Rattle.faults.specs.Reported.{fault_seen}
use Rattle.keeping.proofs.Walking.{row_found}
use Rattle.keeping.proofs.groups.check_groups.Goals as goal

pub returns-in-Some : goal.returns-in-Some
returns-in-Some c =
    ap (λ f. Some (fault_seen f)) c.own.ensures
    ∙ ap (option_map (λ r. fault GROUP in_accumulator 9 r)) (sym c.in-Some.is ∙ c.first_past.ensures)
    ∙ row_found (leb c.args.total) (λ r. fault GROUP in_accumulator 9 r) c.args.indices.now

pub returns-in-None : goal.returns-in-None
returns-in-None c =
    ap (option_map (λ r. fault GROUP in_accumulator 9 r)) (sym c.in-None.is ∙ c.first_past.ensures)
    ∙ row_found (leb c.args.total) (λ r. fault GROUP in_accumulator 9 r) c.args.indices.now
