-- What the output's own answer says of the call that writes a key column.
use Rattle.std.proofs.Common.{◌≡◌, ℕ, not, List, None, Ok, Err, IsErrAnd, Result, sym, ap, ◌∙◌}
use Rattle.column.specs.Cells.{Cell}
use Rattle.column.specs.Checks.{outcome, refuse, unless_refused, Settles}
use Rattle.layout.specs.declared.OutputFault.{OutputFault}
use Rattle.layout.specs.declared.OutputFault.TheVariants as output
use Rattle.layout.specs.Layout.{Parts, fits, written}
use Rattle.tables.specs.declared.OrderFault.{OrderFault}
use Rattle.tables.specs.declared.OrderFault.TheVariants as order
use Rattle.tables.specs.Meaning.{Settings}
use Rattle.tables.specs.Refusals.{key_laid, measuring_key, writing_key}
use Rattle.tables.proofs.Declining.{declined, answer_none, answer_some, passed_new, refused_same, exits}
use Rattle.tables.proofs.Passing.{writing_key_declined, writing_key_short, writing_key_fine, put_fails, put_fits}

module _ (s : Settings) (es : List (List Cell)) (j n : ℕ) (before : Parts) where
  -- the column cannot be measured
  pub unmeasured : (f : OrderFault) (r : Result (Unit {0}) OrderFault) → IsErrAnd r (λ e. e ≡ f) → Err f ≡ outcome (measuring_key s es j n) (tt {0})
      → Settles (writing_key s es j n before) (tt {0}) (written (key_laid s es j n) before) before r before
  unmeasured f r b e =
      let w = writing_key_declined s es j n before (declined _ _ _ e) in
      record { answered = exits _ _ _ _ _ b (answer_some _ _ (tt {0}) w); left = refused_same _ _ _ _ w }

module _ (s : Settings) (es : List (List Cell)) (j n : ℕ) (before after laid : Parts) (p : measuring_key s es j n ≡ None) (l : laid ≡ key_laid s es j n)
    (a : after ≡ unless_refused (refuse (not (fits laid before)) output.Space) (written laid before) before) where
  -- it has no room
  pub unput : (f : OutputFault) (r : Result (Unit {0}) OrderFault) → IsErrAnd r (λ e. e ≡ order.Space) → Err f ≡ outcome (refuse (not (fits laid before)) output.Space) (tt {0})
      → Settles (writing_key s es j n before) (tt {0}) (written (key_laid s es j n) before) before r after
  unput f r b e =
      let t = put_fails (fits laid before) f e in
      let w = writing_key_short s es j n before p (ap (λ x. fits x before) (sym l) ∙ t) in
      record {
        answered = exits _ _ _ _ _ b (answer_some _ _ (tt {0}) w);
        left = a ∙ ap (λ q. unless_refused (refuse (not q) output.Space) (written laid before) before) t ∙ refused_same _ _ _ _ w;
      }

  pub put : Ok (tt {0}) ≡ outcome (refuse (not (fits laid before)) output.Space) (tt {0})
      → Settles (writing_key s es j n before) (tt {0}) (written (key_laid s es j n) before) before (Ok (tt {0})) after
  put e =
      let t = put_fits (fits laid before) e in
      let w = writing_key_fine s es j n before p (ap (λ x. fits x before) (sym l) ∙ t) in
      record {
        answered = answer_none _ _ w;
        left = a ∙ ap (λ q. unless_refused (refuse (not q) output.Space) (written laid before) before) t ∙ ap (λ x. written x before) l ∙ passed_new _ _ _ w;
      }
