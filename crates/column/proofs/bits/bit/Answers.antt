use Rattle.std.proofs.Common.{◌/◌, arith}
use Rattle.std.proofs.lemmas.List.{get_or_past}
use Rattle.column.specs.Columns.{bit_at}
use Rattle.column.proofs.bits.bit.Goals as goal

pub returns-then-i-bytes : goal.returns-then-i-bytes
unfolding bit_at
returns-then-i-bytes c = grind arith

pub returns-else-i-bytes : goal.returns-else-i-bytes
unfolding bit_at
returns-else-i-bytes c = let e = get_or_past c.args.bytes.now (c.args.i / 8) 0 (omega arith) in grind arith
