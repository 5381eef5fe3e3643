use Rattle.std.proofs.Common.{Ok, Err}
use Rattle.scenario.specs.Reading.{ReadsNumber}
use Rattle.scenario.specs.Texts.{IsName}
use Rattle.scenario.specs.declared.Unread.TheVariants.{Malformed}
use Rattle.scenario.proofs.Naming.{field_told}
use Rattle.scenario.proofs.lists.number_named.Goals as goal

pub returns : goal.returns
returns g c =
    field_told (λ t n. ReadsNumber g.T.FromStr.from_str_gives t (Ok n)) (λ t. ReadsNumber g.T.FromStr.from_str_gives t (Err Malformed)) (IsName c.args.name.now) c.args.name.now c.in_ok-named.field-0.now _ _ c.number.result
    c.in_ok-named.ensures c.number.ensures
