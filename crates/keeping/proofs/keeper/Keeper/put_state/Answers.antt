use Rattle.std.proofs.Common.{None, not, refl, sym, ap, ◌∙◌, arith}
use Rattle.column.specs.Checks.{refuse}
use Rattle.column.specs.Faults.{SPACE, fault, in_accumulator, in_state}
use Rattle.faults.proofs.Whole.{placed_not, placed_whole}
use Rattle.faults.specs.declared.Place.TheVariants.{Call}
use Rattle.faults.specs.declared.Refusal.TheVariants.{Order}
use Rattle.tables.proofs.Declining.{done_so, passed_new, refused_same}
use Rattle.keeping.proofs.Checking.{exits}
use Rattle.keeping.proofs.Measuring.{roomy}
use Rattle.keeping.specs.Fronts.{state_out, state_short}
use Rattle.keeping.specs.Keepers.{front}
use Rattle.keeping.specs.Seen.{outputs_seen}
use Rattle.keeping.proofs.keeper.Keeper.put_state.Goals as goal

pub check_space-requires-clause-keys : goal.check_space-requires-clause-keys
check_space-requires-clause-keys g c = let l = c.args.self.now.level in omega (arith, l, c.requires)

pub returns-in_err-check_space : goal.returns-in_err-check_space
returns-in_err-check_space g c =
    let e = c.in_err-check_space.ensures (g.F.FlagSource.shows c.args.flags.now) in
    record {
      answer = exits c.from_residual.result _ _ c.from_residual.ensures.1 e;
      after = refused_same _ _ _ _ (sym e);
    }

pub put_keys-requires : goal.put_keys-requires
put_keys-requires g c =
    let f = front c.args.self.now (g.F.FlagSource.shows c.args.flags.now) in
    let l = c.args.self.now.level in
    (roomy f c.args.n (outputs_seen c.args.out.now) (omega (arith, l, c.requires)) (sym (c.in_ok-check_space.ensures f.flags))).keys

pub returns-in_err-located : goal.returns-in_err-located
returns-in_err-located g c = absurd (placed_not Order _ Call 0 None _ c.put_keys.ensures.answer refl _ (placed_whole Order _ _ _ _ c.in_err-located.ensures))

pub returns : goal.returns
returns g c =
    let f = front c.args.self.now (g.F.FlagSource.shows c.args.flags.now) in
    let n = c.args.n in
    let before = outputs_seen c.args.out.now in
    let e = c.in_ok-check_space.ensures f.flags in
    let l = c.args.self.now.level in
    let r = roomy f n before (omega (arith, l, c.requires)) (sym e) in
    let short = ap (λ b. refuse (not b) (fault SPACE in_accumulator 4 0)) r.flags in
    let values = done_so _ _ _ _ c.put_values.ensures.after (ap (λ b. refuse (not b) (fault SPACE in_state 0 0)) r.values) in
    let keys = c.put_keys.ensures.after in
    let sets = done_so _ _ _ _ c.write_flags.ensures.after short in
    record {
      answer = c.write_flags.ensures.answer ∙ short ∙ e;
      after = (λ i. record { values = values i; keys = keys i; flags = sets i }) ∙ passed_new (state_short f n before) (state_out f n before) before (sym e);
    }
