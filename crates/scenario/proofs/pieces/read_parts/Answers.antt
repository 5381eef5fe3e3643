use Rattle.std.proofs.Common.{refl}
use Rattle.scenario.proofs.Naming.{count_read}
use Rattle.scenario.proofs.Parting.{five}
use Rattle.scenario.proofs.Refusing.{no_kind, no_rows, no_validity, unnamed_offsets, no_offsets, no_data}
use Rattle.scenario.proofs.Telling.{found_on, told_found}
use Rattle.scenario.proofs.pieces.read_parts.Goals as goal

pub returns : goal.returns
returns c = (
  _,
  five _ _ _ _ _ _ _ _ _ _ _ c.in_ok-number_named.ensures.1 c.«in_ok-number_named-2».ensures.1 c.in_ok-validity_named.ensures.1 c.in_ok-named.ensures c.in_ok-bytes_named.ensures.1,
  (
    c.in_ok-number_named.ensures.0,
    c.«in_ok-number_named-2».ensures.0,
    c.in_ok-validity_named.ensures.0,
    c.in_ok-named.field-0.now,
    c.in_ok-bytes_named.ensures.0,
    refl,
    count_read 32 _ _ c.in_ok-number_named.ensures.2.0 c.in_ok-number_named.ensures.2.1.0,
    count_read 64 _ _ c.«in_ok-number_named-2».ensures.2.0 c.«in_ok-number_named-2».ensures.2.1.0,
    c.in_ok-validity_named.ensures.2,
    c.in_ok-offsets.ensures,
    c.in_ok-bytes_named.ensures.2,
  ),
)

pub returns-in_err-number_named : goal.returns-in_err-number_named
returns-in_err-number_named c =
    found_on _ _ _ _ _ c.number_named.result c.from_residual.result c.in_err-number_named.field-0.0 (told_found _ _ c.number_named.result c.number_named.ensures) c.in_err-number_named.was c.from_residual.ensures.1 (λ f h. h)
    (λ why. no_kind _ _ why (λ u e h. h.0))

pub returns-in_err-number_named-2 : goal.returns-in_err-number_named-2
returns-in_err-number_named-2 c =
    found_on _ _ _ _ _ c.«number_named-2».result c.«from_residual-in_err-number_named-2».result c.«in_err-number_named-2».field-0.0 (told_found _ _ c.«number_named-2».result c.«number_named-2».ensures) c.«in_err-number_named-2».was
    c.«from_residual-in_err-number_named-2».ensures.1 (λ f h. h) (λ why. no_rows _ _ _ _ c.in_ok-number_named.ensures.1 why (λ u e h. h.0))

pub returns-in_err-validity_named : goal.returns-in_err-validity_named
returns-in_err-validity_named c =
    found_on _ _ _ _ _ c.validity_named.result c.from_residual-in_err-validity_named.result c.in_err-validity_named.field-0.0 c.validity_named.ensures c.in_err-validity_named.was c.from_residual-in_err-validity_named.ensures.1 (λ f h. h)
    (λ why. no_validity _ _ _ _ _ c.in_ok-number_named.ensures.1 c.«in_ok-number_named-2».ensures.1 why)

pub returns-in_err-named : goal.returns-in_err-named
returns-in_err-named c =
    found_on _ _ _ _ _ c.named.result c.from_residual-in_err-named.result c.in_err-named.field-0.0 (told_found _ _ c.named.result c.named.ensures) c.in_err-named.was c.from_residual-in_err-named.ensures.1 (λ f h. h)
    (λ why. unnamed_offsets _ _ _ _ _ _ _ c.in_ok-number_named.ensures.1 c.«in_ok-number_named-2».ensures.1 c.in_ok-validity_named.ensures.1 why)

pub returns-in_err-offsets : goal.returns-in_err-offsets
returns-in_err-offsets c =
    found_on _ _ _ _ _ c.offsets.result c.from_residual-in_err-offsets.result c.in_err-offsets.field-0.0 c.offsets.ensures c.in_err-offsets.was c.from_residual-in_err-offsets.ensures.1 (λ f h. h)
    (λ why. no_offsets _ _ _ c.in_ok-named.field-0.now _ _ _ _ _ c.in_ok-number_named.ensures.1 c.«in_ok-number_named-2».ensures.1 c.in_ok-validity_named.ensures.1 c.in_ok-named.ensures (λ parts. why parts.offsets))

pub returns-in_err-bytes_named : goal.returns-in_err-bytes_named
returns-in_err-bytes_named c =
    found_on _ _ _ _ _ c.bytes_named.result c.from_residual-in_err-bytes_named.result c.in_err-bytes_named.field-0.0 c.bytes_named.ensures c.in_err-bytes_named.was c.from_residual-in_err-bytes_named.ensures.1 (λ f h. h)
    (λ why. no_data _ _ _ _ _ _ _ _ _ c.in_ok-number_named.ensures.1 c.«in_ok-number_named-2».ensures.1 c.in_ok-validity_named.ensures.1 c.in_ok-named.ensures why)
