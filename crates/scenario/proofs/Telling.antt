-- What is told of a refusal that is handed on.
use Rattle.std.proofs.Common.{◌≡◌, refl, subst, Ok, Err}
use Rattle.std.specs.Prelude.{Result, IsOk, IsErrAnd}
use Rattle.scenario.specs.declared.Unread.{Unread}
use Rattle.scenario.specs.declared.Unread.TheVariants.{Malformed, OutOfMemory}
use Rattle.scenario.specs.Reading.{Told, Found, Tells, Finds}

pub told_on : {X Y : Type 0} (P : X → Type 0) (Q : Type 0) (R : Y → Type 0) (S : Type 0) (G : Unread → Type 0) (r : Result X Unread) (q : Result Y Unread) (e : Unread)
    → Told r P Q → r ≡ Err e → IsErrAnd q G → ((f : Unread) → G f → f ≡ e) → (Q → S) → Told q R S
told_on P Q R S G (Ok x) q e told is passed same so = cc
told_on P Q R S G (Err Malformed) (Ok y) e told is passed same so = absurd passed
told_on P Q R S G (Err Malformed) (Err Malformed) e told is passed same so = so told
told_on P Q R S G (Err Malformed) (Err OutOfMemory) e told is passed same so = let other = same OutOfMemory passed in cc
told_on P Q R S G (Err OutOfMemory) q e told is passed same so = absurd told

-- why a part was refused
pub told_of : {X : Type 0} (P : X → Type 0) (Q : Type 0) (r : Result X Unread) (e : Unread) → Told r P Q → r ≡ Err e → Q
told_of P Q (Ok x) e told is = cc
told_of P Q (Err Malformed) e told is = told
told_of P Q (Err OutOfMemory) e told is = absurd told

pub found_on : {X Y : Type 0} (P : X → Type 0) (Q : Type 0) (R : Y → Type 0) (S : Type 0) (G : Unread → Type 0) (r : Result X Unread) (q : Result Y Unread) (e : Unread)
    → Found r P Q → r ≡ Err e → IsErrAnd q G → ((f : Unread) → G f → f ≡ e) → (Q → S) → Found q R S
found_on P Q R S G (Ok x) q e found is passed same so = cc
found_on P Q R S G (Err Malformed) (Ok y) e found is passed same so = absurd passed
found_on P Q R S G (Err Malformed) (Err Malformed) e found is passed same so = so found
found_on P Q R S G (Err Malformed) (Err OutOfMemory) e found is passed same so = tt
found_on P Q R S G (Err OutOfMemory) (Ok y) e found is passed same so = absurd passed
found_on P Q R S G (Err OutOfMemory) (Err Malformed) e found is passed same so = let other = same Malformed passed in cc
found_on P Q R S G (Err OutOfMemory) (Err OutOfMemory) e found is passed same so = tt

-- what is told is found
pub told_found : {X : Type 0} (P : X → Type 0) (Q : Type 0) (r : Result X Unread) → Told r P Q → Found r P Q
told_found P Q (Ok x) told = told
told_found P Q (Err Malformed) told = told
told_found P Q (Err OutOfMemory) told = absurd told

-- what was found
pub found_ok : {X : Type 0} (P : X → Type 0) (Q : Type 0) (r : Result X Unread) (x : X) → Found r P Q → r ≡ Ok x → P x
found_ok P Q (Ok y) x found is = let same : y ≡ x = cc in subst P same found
found_ok P Q (Err e) x found is = cc

pub told_ok : {X : Type 0} (P : X → Type 0) (Q : Type 0) (r : Result X Unread) (x : X) → Told r P Q → r ≡ Ok x → P x
told_ok P Q (Ok y) x told is = let same : y ≡ x = cc in subst P same told
told_ok P Q (Err e) x told is = cc

-- a refusal that is handed on: where the whole were so, the part would be
pub finds_on : {X Y : Type 0} (P : X → Type 0) (R : Y → Type 0) (G : Unread → Type 0) (r : Result X Unread) (q : Result Y Unread) (e : Unread)
    → Finds r P → r ≡ Err e → IsErrAnd q G → ((f : Unread) → G f → f ≡ e) → ((y : Y) → R y → (x : X) × P x) → Finds q R
finds_on P R G r q e found is passed same so = found_on P _ R _ G r q e found is passed same (λ none y h. let part = so y h in none part.0 part.1)

pub tells_on : {X Y : Type 0} (P : X → Type 0) (R : Y → Type 0) (G : Unread → Type 0) (r : Result X Unread) (q : Result Y Unread) (e : Unread)
    → Tells r P → r ≡ Err e → IsErrAnd q G → ((f : Unread) → G f → f ≡ e) → ((y : Y) → R y → (x : X) × P x) → Tells q R
tells_on P R G r q e told is passed same so = told_on P _ R _ G r q e told is passed same (λ none y h. let part = so y h in none part.0 part.1)

-- what is found is also said otherwise
pub finds_as : {X : Type 0} (P R : X → Type 0) (r : Result X Unread) → Finds r P → ((x : X) → P x → R x) → ((x : X) → R x → P x) → Finds r R
finds_as P R (Ok x) found so back = so x found
finds_as P R (Err Malformed) found so back = λ x h. found x (back x h)
finds_as P R (Err OutOfMemory) found so back = tt

-- where something is so, it is read
pub tells_ok : {X : Type 0} (P : X → Type 0) (r : Result X Unread) (x : X) → Tells r P → P x → IsOk r
tells_ok P (Ok y) x told is = refl
tells_ok P (Err Malformed) x told is = absurd (told x is)
tells_ok P (Err OutOfMemory) x told is = absurd told

pub never_refused : {X Z : Type 0} (P : X → Type 0) (r : Result X Unread) (e : Unread) (x : X) → Tells r P → P x → r ≡ Err e → Z
never_refused P (Ok y) e x told is refused = cc
never_refused P (Err Malformed) e x told is refused = absurd (told x is)
never_refused P (Err OutOfMemory) e x told is refused = absurd told
