use Rattle.std.proofs.Common.{rules}
use Rattle.grouped.proofs.Eights.{byte_is}
use Rattle.grouped.proofs.conversion.byte_of.Goals as goal

pub returns : goal.returns
returns c = byte_is c.args.bytes.now c.args.j c.unwrap_or.result (search rules) (search rules)
