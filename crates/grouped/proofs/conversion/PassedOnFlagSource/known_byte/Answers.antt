use Rattle.std.proofs.Common.{Some, None, sym, refl, ◌∙◌}
use Rattle.std.proofs.lemmas.Bool.{eqb-true}
use Rattle.column.specs.Seen.{flags_seen}
use Rattle.layout.specs.Layout.{known}
use Rattle.grouped.proofs.Eights.{none_missing, on_filter, ones_are}
use Rattle.grouped.proofs.conversion.PassedOnFlagSource.known_byte.Goals as goal

pub returns-in_default : goal.returns-in_default
returns-in_default c = λ h. on_filter known c.args.j 255 c.args.self.now.filter (Some c.in-Some.flags) c.in-Some.is (none_missing (flags_seen c.in-Some.flags) c.args.j (eqb-true _ _ (sym c.is_empty.ensures ∙ c.if-not-is_empty.false)))

pub returns-in_default-2 : goal.returns-in_default-2
returns-in_default-2 c = λ h. on_filter known c.args.j 255 c.args.self.now.filter None c.in_default.is (ones_are _ c.args.j (λ r. refl))
