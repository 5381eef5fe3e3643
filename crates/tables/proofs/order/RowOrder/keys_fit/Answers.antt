use Rattle.std.proofs.Common.{◌≡◌, length, None, Some, sym, ap, ◌∙◌, arith}
use Rattle.column.specs.Checks.{outcome}
use Rattle.layout.specs.Written.{parts_seen}
use Rattle.tables.specs.Refusals.{dropping}
use Rattle.tables.proofs.Declining.{passed, declined, answer_none, answer_some, exits}
use Rattle.tables.proofs.Taking.{writing_is, room_found, room_lacking, room_none, taking_fewer, short_many, short_first, short_second, last_fits, all_fit}
use Rattle.tables.proofs.order.RowOrder.keys_fit.Goals as goal

pub returns-in_err-check_drop : goal.returns-in_err-check_drop
returns-in_err-check_drop g c =
    let s = g.Self.GroupTable.settings c.args.self.now in
    let es = g.Self.GroupTable.entries c.args.self.now in
    let e = ap (λ k. dropping k c.args.n) (sym c.groups.ensures) ∙ declined _ _ _ c.in_err-check_drop.ensures in
    exits _ _ _ _ _ c.from_residual.ensures.1 (answer_some _ _ (tt {0}) (taking_fewer s es c.args.n _ e))

pub returns-then-columns-gt3 : goal.returns-then-columns-gt3
returns-then-columns-gt3 g c =
    let s = g.Self.GroupTable.settings c.args.self.now in
    let es = g.Self.GroupTable.entries c.args.self.now in
    let d : dropping (length es) c.args.n ≡ None = ap (λ k. dropping k c.args.n) (sym c.groups.ensures) ∙ passed _ _ _ c.in_ok-check_drop.ensures in
    answer_some _ _ _ (short_many s es c.args.n _ _ _ d (omega arith))

pub returns-then-columns-eq0 : goal.returns-then-columns-eq0
returns-then-columns-eq0 g c =
    let s = g.Self.GroupTable.settings c.args.self.now in
    let es = g.Self.GroupTable.entries c.args.self.now in
    let d : dropping (length es) c.args.n ≡ None = ap (λ k. dropping k c.args.n) (sym c.groups.ensures) ∙ passed _ _ _ c.in_ok-check_drop.ensures in
    let x = room_none s es c.args.n 0 (parts_seen c.args.out.now.first) (omega arith) in
    let y = room_none s es c.args.n 1 (parts_seen c.args.out.now.second) (omega arith) in
    let z = room_none s es c.args.n 2 (parts_seen c.args.out.now.third) (omega arith) in
    answer_none _ _ (all_fit s es c.args.n _ _ _ (record { held = d; few = omega arith; first = x; second = y; third = z }))

pub returns-in_err-key_fits : goal.returns-in_err-key_fits
returns-in_err-key_fits g c =
    let s = g.Self.GroupTable.settings c.args.self.now in
    let es = g.Self.GroupTable.entries c.args.self.now in
    let d : dropping (length es) c.args.n ≡ None = ap (λ k. dropping k c.args.n) (sym c.groups.ensures) ∙ passed _ _ _ c.in_ok-check_drop.ensures in
    let r = room_lacking s es c.args.n 0 (parts_seen c.args.out.now.first) _ (omega arith) d c.in_err-key_fits.ensures in
    exits _ _ _ _ _ c.from_residual-in_err-key_fits.ensures.1 (answer_some _ _ (tt {0}) (short_first s es c.args.n _ _ _ d r.0 ∙ ap Some r.1))

pub returns-then-columns-eq1 : goal.returns-then-columns-eq1
returns-then-columns-eq1 g c =
    let s = g.Self.GroupTable.settings c.args.self.now in
    let es = g.Self.GroupTable.entries c.args.self.now in
    let d : dropping (length es) c.args.n ≡ None = ap (λ k. dropping k c.args.n) (sym c.groups.ensures) ∙ passed _ _ _ c.in_ok-check_drop.ensures in
    let x = room_found s es c.args.n 0 (parts_seen c.args.out.now.first) (omega arith) d c.in_ok-key_fits.ensures in
    let y = room_none s es c.args.n 1 (parts_seen c.args.out.now.second) (omega arith) in
    let z = room_none s es c.args.n 2 (parts_seen c.args.out.now.third) (omega arith) in
    answer_none _ _ (all_fit s es c.args.n _ _ _ (record { held = d; few = omega arith; first = x; second = y; third = z }))

pub returns-in_err-key_fits-2 : goal.returns-in_err-key_fits-2
returns-in_err-key_fits-2 g c =
    let s = g.Self.GroupTable.settings c.args.self.now in
    let es = g.Self.GroupTable.entries c.args.self.now in
    let d : dropping (length es) c.args.n ≡ None = ap (λ k. dropping k c.args.n) (sym c.groups.ensures) ∙ passed _ _ _ c.in_ok-check_drop.ensures in
    let r = room_lacking s es c.args.n 1 (parts_seen c.args.out.now.second) _ (omega arith) d c.in_err-key_fits-2.ensures in
    exits _ _ _ _ _ c.from_residual-in_err-key_fits-2.ensures.1 (answer_some _ _ (tt {0}) (short_second s es c.args.n _ _ _ d r.0 ∙ ap Some r.1))

pub returns-then-columns-eq2 : goal.returns-then-columns-eq2
returns-then-columns-eq2 g c =
    let s = g.Self.GroupTable.settings c.args.self.now in
    let es = g.Self.GroupTable.entries c.args.self.now in
    let d : dropping (length es) c.args.n ≡ None = ap (λ k. dropping k c.args.n) (sym c.groups.ensures) ∙ passed _ _ _ c.in_ok-check_drop.ensures in
    let x = room_found s es c.args.n 0 (parts_seen c.args.out.now.first) (omega arith) d c.in_ok-key_fits.ensures in
    let y = room_found s es c.args.n 1 (parts_seen c.args.out.now.second) (omega arith) d c.in_ok-key_fits-2.ensures in
    let z = room_none s es c.args.n 2 (parts_seen c.args.out.now.third) (omega arith) in
    answer_none _ _ (all_fit s es c.args.n _ _ _ (record { held = d; few = omega arith; first = x; second = y; third = z }))

pub returns : goal.returns
returns g c =
    let s = g.Self.GroupTable.settings c.args.self.now in
    let es = g.Self.GroupTable.entries c.args.self.now in
    let d : dropping (length es) c.args.n ≡ None = ap (λ k. dropping k c.args.n) (sym c.groups.ensures) ∙ passed _ _ _ c.in_ok-check_drop.ensures in
    let x = room_found s es c.args.n 0 (parts_seen c.args.out.now.first) (omega arith) d c.in_ok-key_fits.ensures in
    let y = room_found s es c.args.n 1 (parts_seen c.args.out.now.second) (omega arith) d c.in_ok-key_fits-2.ensures in
    c.key_fits-3.ensures ∙ ap (λ o. outcome o (tt {0})) (writing_is s es c.args.n 2 (parts_seen c.args.out.now.third) (omega arith) d ∙ sym (last_fits s es c.args.n _ _ _ d (omega arith) x y))
