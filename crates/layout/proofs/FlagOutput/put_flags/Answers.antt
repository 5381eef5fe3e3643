use Rattle.std.proofs.Common.{◌≡◌, true, false, sym, ◌∙◌}
use Rattle.layout.specs.Layout.{fits_flags, written_flags}
use Rattle.layout.specs.Written.{flag_parts_seen, flags_laid}
use Rattle.layout.proofs.Contents.{refused, taken, kept, picked}
use Rattle.layout.proofs.Packing.{flags_fit}
use Rattle.layout.proofs.FlagOutput.put_flags.Goals as goal

pub returns-then-not-has_room : goal.returns-then-not-has_room
returns-then-not-has_room g c =
    let old = flag_parts_seen c.args.self.now in
    let laid = flags_laid (g.F.FlagSource.shows c.args.flags.now) c.args.rows in
    let f : fits_flags laid old ≡ false = flags_fit (g.F.FlagSource.shows c.args.flags.now) c.args.rows old ∙ sym c.if-not-has_room.ensures in
    record {
      answer = refused (fits_flags laid old) f;
      after = kept (fits_flags laid old) (written_flags laid old) old f;
    }

pub returns : goal.returns
returns g c =
    let old = flag_parts_seen c.args.self.now in
    let shows = g.F.FlagSource.shows c.args.flags.now in
    let laid = flags_laid shows c.args.rows in
    let f : fits_flags laid old ≡ true = flags_fit shows c.args.rows old ∙ sym c.if-not-has_room.ensures in
    record {
      answer = taken (fits_flags laid old) f;
      after = picked (fits_flags laid old) (written_flags laid old) old _ f (cc);
    }
