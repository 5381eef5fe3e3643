-- Checks: how a call declines.
--   refuse          a check, that is a refusal where a test is true, and None where it is not
--   first_of        the first check of a list that holds: it alone declines the call
--   outcome         what a call answers: its result, unless a check holds
--   unless_refused  what is there afterwards: the new, or unchanged the old where a check holds
--   Settles         what a call answers and what it leaves: refused and unchanged where a check holds, else this answer and this change
use Rattle.std.specs.Prelude.{◌≡◌, Bool, List, [], ◌∷◌, Some, None, Ok, Err, Option, Result, if◌then◌else◌}

abbrev pub refuse : {F : Type 0} → Bool → F → Option F
refuse t f = if t then Some f else None

abbrev pub first_of : {F : Type 0} → List (Option F) → Option F
first_of [] = None
first_of (None ∷ cs) = first_of cs
first_of (Some f ∷ cs) = Some f

abbrev pub outcome : {F X : Type 0} → Option F → X → Result X F
outcome None x = Ok x
outcome (Some f) x = Err f

abbrev pub unless_refused : {F X : Type 0} → Option F → X → X → X
unless_refused None new old = new
unless_refused (Some f) new old = old

-- one call: refused so, and what it changes stays as it was, or answered so, and changed so
pub record Settles {F X S : Type 0} (check : Option F) (answer : X) (changed before : S) (result : Result X F) (after : S) : Type 0 where
  pub answered : result ≡ outcome check answer
  pub left : after ≡ unless_refused check changed before
