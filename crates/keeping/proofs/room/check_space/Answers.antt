use Rattle.std.proofs.Common.{not, sym, ap, ◌∙◌}
use Rattle.column.specs.Checks.{refuse}
use Rattle.column.specs.Faults.{SPACE, fault, in_accumulator}
use Rattle.layout.proofs.Packing.{flags_fit}
use Rattle.layout.specs.Written.{flag_parts_seen}
use Rattle.keeping.proofs.Checking.{exits, first_declines, second_declines, third_decides}
use Rattle.keeping.proofs.room.check_space.Goals as goal

pub returns-in_err-check_values : goal.returns-in_err-check_values
returns-in_err-check_values g c = λ flags. exits c.from_residual.result _ _ c.from_residual.ensures.1 (first_declines _ _ _ c.in_err-check_values.ensures)

pub returns-in_err-check_keys : goal.returns-in_err-check_keys
returns-in_err-check_keys g c = λ flags. exits c.from_residual-in_err-check_keys.result _ _ c.from_residual-in_err-check_keys.ensures.1 (sym (second_declines _ _ _ _ c.in_ok-check_values.ensures c.in_err-check_keys.ensures))

pub returns : goal.returns
returns g c = λ flags.
    let room = flags_fit flags c.args.n (flag_parts_seen c.args.out.now.flags) in
    sym (third_decides _ _ _ _ c.in_ok-check_values.ensures c.in_ok-check_keys.ensures (c.check_flags.ensures ∙ ap (λ b. refuse (not b) (fault SPACE in_accumulator 4 0)) (sym room)))
