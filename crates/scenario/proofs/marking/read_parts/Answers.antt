use Rattle.std.proofs.Common.{refl}
use Rattle.scenario.proofs.Naming.{count_read}
use Rattle.scenario.proofs.Parting.{three}
use Rattle.scenario.proofs.Refusing.{no_mark_rows, no_mark_bits, no_mark_validity}
use Rattle.scenario.proofs.Telling.{found_on, told_found}
use Rattle.scenario.proofs.marking.read_parts.Goals as goal

pub returns : goal.returns
returns c = (
  _,
  three _ _ _ _ _ _ _ c.in_ok-rows.ensures.1 c.in_ok-bits.ensures.1 c.in_ok-validity_named.ensures.1,
  (
    c.in_ok-rows.ensures.0,
    c.in_ok-bits.ensures.0,
    c.in_ok-validity_named.ensures.0,
    refl,
    count_read 64 _ _ c.in_ok-rows.ensures.2.0 c.in_ok-rows.ensures.2.1.0,
    c.in_ok-bits.ensures.2,
    c.in_ok-validity_named.ensures.2,
  ),
)

pub returns-in_err-rows : goal.returns-in_err-rows
returns-in_err-rows c =
    found_on _ _ _ _ _ c.number_named.result c.from_residual.result c.in_err-rows.field-0.0 (told_found _ _ c.number_named.result c.number_named.ensures) c.in_err-rows.was c.from_residual.ensures.1 (λ f h. h)
    (λ why. no_mark_rows _ _ why (λ u e h. h.0))

pub returns-in_err-bits : goal.returns-in_err-bits
returns-in_err-bits c =
    found_on _ _ _ _ _ c.bytes_named.result c.from_residual-in_err-bits.result c.in_err-bits.field-0.0 c.bytes_named.ensures c.in_err-bits.was c.from_residual-in_err-bits.ensures.1 (λ f h. h)
    (λ why. no_mark_bits _ _ _ c.in_ok-rows.ensures.1 why)

pub returns-in_err-validity_named : goal.returns-in_err-validity_named
returns-in_err-validity_named c =
    found_on _ _ _ _ _ c.validity_named.result c.from_residual-in_err-validity_named.result c.in_err-validity_named.field-0.0 c.validity_named.ensures c.in_err-validity_named.was c.from_residual-in_err-validity_named.ensures.1 (λ f h. h)
    (λ why. no_mark_validity _ _ _ _ _ c.in_ok-rows.ensures.1 c.in_ok-bits.ensures.1 why)
