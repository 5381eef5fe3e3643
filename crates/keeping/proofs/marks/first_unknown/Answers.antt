use Rattle.std.proofs.Common.{◌≡◌, ℕ, Bool, true, false, cond, not, Some, None, sym, ap, refl, ◌∙◌, arith}
use Rattle.std.specs.Option.{is_some}
use Rattle.column.specs.Columns.{Flags, bit_at, flag_at, present}
use Rattle.column.specs.Seen.{flags_seen}
use Rattle.tables.proofs.Provided.{find_next}
use Rattle.keeping.proofs.marks.first_unknown.Goals as goal

known_flag : (f : Flags) (r : ℕ) → is_some (flag_at f r) ≡ true → not (present f.validity r) ≡ false
known_flag f r e = go (present f.validity r) e
  where
    go : (b : Bool) → is_some (cond b (Some (bit_at f.bits r)) None) ≡ true → not b ≡ false
    go true k = refl
    go false k = cc

pub loop-row-preserved : goal.loop-row-preserved
loop-row-preserved c =
    let flags = flags_seen c.args.flags.now in
    let known = ap is_some (sym c.value.ensures) ∙ c.is_none.ensures ∙ ap not c.if-is_none.false in
    sym (find_next (λ r. not (present flags.validity r)) c.args.rows c.loop-row.row (omega arith) (known_flag flags c.loop-row.row known)) ∙ c.loop-row.invariant
