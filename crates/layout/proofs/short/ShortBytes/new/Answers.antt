use Rattle.std.proofs.Common.{length, Some, ap, arith}
use Rattle.std.proofs.lemmas.Bool.{le-leb}
use Rattle.std.proofs.lemmas.List.{take_at}
use Rattle.layout.proofs.Octets.{octets_same}
use Rattle.layout.proofs.short.ShortBytes.new.Goals as goal

pub returns : goal.returns
returns c =
    let bs = c.args.bytes.now in
    let e = c.copy_from_slice.ensures.after in
    let o = octets_same bs c.type_inv.bytes in
    rw (le-leb (length bs) 32 c.if-bytes-gt32.false, e, o) (ap Some (take_at bs _ (length bs) (omega arith)))
