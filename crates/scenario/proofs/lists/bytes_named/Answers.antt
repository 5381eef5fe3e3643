use Rattle.std.proofs.Common.{List, ℕ}
use Rattle.scenario.specs.Texts.{IsBytes, IsName}
use Rattle.scenario.proofs.Naming.{field_found}
use Rattle.scenario.proofs.Parting.{bytes_found}
use Rattle.scenario.proofs.lists.bytes_named.Goals as goal

pub returns : goal.returns
returns c =
    field_found (λ t v. IsBytes t v.items) (λ t. (bs : List ℕ) → IsBytes t bs → ⊥) (IsName c.args.name.now) c.args.name.now c.in_ok-named.field-0.now _ _ c.bytes.result
    c.in_ok-named.ensures (bytes_found (λ v. v.items) c.in_ok-named.field-0.now c.bytes.result c.bytes.ensures)
