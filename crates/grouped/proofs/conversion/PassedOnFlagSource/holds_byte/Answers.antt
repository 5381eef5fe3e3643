use Rattle.std.proofs.Common.{Some, None, sym, refl}
use Rattle.column.specs.Seen.{flags_seen}
use Rattle.layout.specs.Layout.{holds, known}
use Rattle.grouped.proofs.Eights.{both_true, on_filter, ones_are}
use Rattle.grouped.proofs.conversion.PassedOnFlagSource.holds_byte.Goals as goal

pub returns-in-None : goal.returns-in-None
returns-in-None c = λ h. on_filter holds c.args.j 255 c.args.self.now.filter None c.in-None.is (ones_are _ c.args.j (λ r. refl))

pub returns-in-Some : goal.returns-in-Some
returns-in-Some c = λ h. on_filter holds c.args.j _ c.args.self.now.filter (Some c.in-Some.flags) c.in-Some.is
    (both_true (flags_seen c.in-Some.flags) c.args.j _ _ _ refl (on_filter known c.args.j _ (Some c.in-Some.flags) c.args.self.now.filter (sym c.in-Some.is) (c.known_byte.ensures h)) c.byte_of.ensures)
