use Rattle.std.proofs.Common.{List, ℕ}
use Rattle.std.specs.Prelude.{codes}
use Rattle.scenario.specs.Texts.{IsBytesOrNone}
use Rattle.scenario.proofs.Naming.{field_found}
use Rattle.scenario.proofs.Parting.{found_so, bytes_or_none_found}
use Rattle.scenario.proofs.lists.validity_named.Goals as goal

pub returns : goal.returns
returns c =
    found_so _ _ _ _ c.bytes_or_none.result
    (field_found (λ t v. IsBytesOrNone t v.items) (λ t. (bs : List ℕ) → IsBytesOrNone t bs → ⊥) (Unit {0}) (codes "validity") c.in_ok-named.field-0.now _ _ c.bytes_or_none.result
    c.in_ok-named.ensures (bytes_or_none_found (λ v. v.items) c.in_ok-named.field-0.now c.bytes_or_none.result c.bytes_or_none.ensures.none c.bytes_or_none.ensures.some))
    (λ v h. h)
    (λ why. why tt)
