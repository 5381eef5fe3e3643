use Rattle.std.proofs.Common.{◌≡◌, ◌∷◌, ◌++◌, ap, ◌∙◌, sym, lit<, Some}
use Rattle.std.proofs.lemmas.Str.Pattern.{split_parts}
use Rattle.std.proofs.lemmas.Slice.Eq.{bytes_eq-Decides}
use Rattle.scenario.specs.Texts.{field}
use Rattle.scenario.specs.Words.{words}
use Rattle.scenario.proofs.Naming.{first_same, unparted, other_name}
use Rattle.scenario.proofs.words.Words.named.Goals as goal
use Rattle.scenario.proofs.words.Words.named.Goals.{in_default-via-in-Some+else-eq, in_default-via-in_default}

pub returns-in-Some : goal.returns-in-Some
returns-in-Some c =
    let parts = split_parts 61 c.in_ok-needed.field-0.now (Some (c.in-Some.found, c.in-Some.text)) c.in-Some.ensures.cases (lit< tt) in
    let same : c.in-Some.found.now ≡ c.args.name.now = (bytes_eq-Decides _ _).0 (sym c.eq.ensures ∙ c.if-eq.true) in
    c.in_ok-needed.ensures ∙ ap (λ w. w ∷ words c.needed.new.self.rest.now) (parts.0 ∙ ap (λ n. n ++ 61 ∷ c.in-Some.text.now) same)

pub returns-in_default : goal.returns-in_default
returns-in_default c = λ named text more is.
    let word : c.in_ok-needed.field-0.now ≡ field c.args.name.now text = first_same _ _ _ _ _ c.in_ok-needed.ensures is in
    elim c.in_default.branch [
      | in_default-via-in-Some+else-eq w ↦ other_name c.args.name.now text c.in_ok-needed.field-0.now c.split_once.result (w.in-Some.found, w.in-Some.text) c.split_once.ensures.cases w.in-Some.is (sym w.eq.ensures ∙ w.if-eq.false) named word
      | in_default-via-in_default w ↦ unparted c.args.name.now text c.in_ok-needed.field-0.now c.split_once.result c.split_once.ensures.cases w.in_default.is named word
    ]
