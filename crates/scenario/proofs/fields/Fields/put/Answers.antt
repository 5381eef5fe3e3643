use Rattle.std.proofs.Common.{refl, sym, append-nil, ap, ◌∙◌, [], ◌∷◌, map}
use Rattle.std.proofs.lemmas.List.{map-append}
use Rattle.std.proofs.lemmas.Result.{err_from_is_err_and}
use Rattle.scenario.specs.Fields.{values, key, groups, total, filter, flags, room, texts_of}
use Rattle.scenario.proofs.Gathering.{each, taken, filled, first_text, named_text, one_at_most, some_held, twice, unparted, unknown}
use Rattle.scenario.proofs.fields.Fields.put.Goals as goal

pub returns-in-values : goal.returns-in-values
returns-in-values c =
    let is = named_text c.args.word.now c.split_once.result c.in_ok-name.name c.in_ok-name.text _ _ c.split_once.ensures.cases c.in_ok-name.ensures.value c.in-values.is in
    filled _ _ _ c.fill.result c.args.self.now.values c.fill.new.place c.in_ok-name.text c.fill.ensures.answer c.fill.ensures.after
    (λ none some. taken values c.args.word.now c.in_ok-name.text.now (texts_of c.args.self.now) _ is (each _ (first_text _ _ _ none some) (sym (append-nil _)) (sym (append-nil _)) (sym (append-nil _)) (sym (append-nil _)) (sym (append-nil _)) (sym (append-nil _))))
    (λ some. twice values c.args.word.now c.in_ok-name.text.now (texts_of c.args.self.now) is refl (some_held c.args.self.now.values some) (λ f. one_at_most f.values))

pub returns-in_ok-push-in-key : goal.returns-in_ok-push-in-key
returns-in_ok-push-in-key c = taken key c.args.word.now c.in_ok-name.text.now (texts_of c.args.self.now) _
    (named_text c.args.word.now c.split_once.result c.in_ok-name.name c.in_ok-name.text _ _ c.split_once.ensures.cases c.in_ok-name.ensures.value c.in-key.is)
    (each _ (sym (append-nil _)) (ap (map (λ t. t.now)) c.in_ok-push-in-key.ensures.items ∙ map-append (λ t. t.now) c.args.self.now.keys.items (c.in_ok-name.text ∷ [])) (sym (append-nil _)) (sym (append-nil _)) (sym (append-nil _)) (sym (append-nil _)) (sym (append-nil _)))

pub returns-in-groups : goal.returns-in-groups
returns-in-groups c =
    let is = named_text c.args.word.now c.split_once.result c.in_ok-name.name c.in_ok-name.text _ _ c.split_once.ensures.cases c.in_ok-name.ensures.value c.in-groups.is in
    filled _ _ _ c.fill-in-groups.result c.args.self.now.groups c.fill-in-groups.new.place c.in_ok-name.text c.fill-in-groups.ensures.answer c.fill-in-groups.ensures.after
    (λ none some. taken groups c.args.word.now c.in_ok-name.text.now (texts_of c.args.self.now) _ is (each _ (sym (append-nil _)) (sym (append-nil _)) (first_text _ _ _ none some) (sym (append-nil _)) (sym (append-nil _)) (sym (append-nil _)) (sym (append-nil _))))
    (λ some. twice groups c.args.word.now c.in_ok-name.text.now (texts_of c.args.self.now) is refl (some_held c.args.self.now.groups some) (λ f. one_at_most f.groups))

pub returns-in-total : goal.returns-in-total
returns-in-total c =
    let is = named_text c.args.word.now c.split_once.result c.in_ok-name.name c.in_ok-name.text _ _ c.split_once.ensures.cases c.in_ok-name.ensures.value c.in-total.is in
    filled _ _ _ c.fill-in-total.result c.args.self.now.total c.fill-in-total.new.place c.in_ok-name.text c.fill-in-total.ensures.answer c.fill-in-total.ensures.after
    (λ none some. taken total c.args.word.now c.in_ok-name.text.now (texts_of c.args.self.now) _ is (each _ (sym (append-nil _)) (sym (append-nil _)) (sym (append-nil _)) (first_text _ _ _ none some) (sym (append-nil _)) (sym (append-nil _)) (sym (append-nil _))))
    (λ some. twice total c.args.word.now c.in_ok-name.text.now (texts_of c.args.self.now) is refl (some_held c.args.self.now.total some) (λ f. one_at_most f.total))

pub returns-in-filter : goal.returns-in-filter
returns-in-filter c =
    let is = named_text c.args.word.now c.split_once.result c.in_ok-name.name c.in_ok-name.text _ _ c.split_once.ensures.cases c.in_ok-name.ensures.value c.in-filter.is in
    filled _ _ _ c.fill-in-filter.result c.args.self.now.filter c.fill-in-filter.new.place c.in_ok-name.text c.fill-in-filter.ensures.answer c.fill-in-filter.ensures.after
    (λ none some. taken filter c.args.word.now c.in_ok-name.text.now (texts_of c.args.self.now) _ is (each _ (sym (append-nil _)) (sym (append-nil _)) (sym (append-nil _)) (sym (append-nil _)) (first_text _ _ _ none some) (sym (append-nil _)) (sym (append-nil _))))
    (λ some. twice filter c.args.word.now c.in_ok-name.text.now (texts_of c.args.self.now) is refl (some_held c.args.self.now.filter some) (λ f. one_at_most f.filter))

pub returns-in-flags : goal.returns-in-flags
returns-in-flags c =
    let is = named_text c.args.word.now c.split_once.result c.in_ok-name.name c.in_ok-name.text _ _ c.split_once.ensures.cases c.in_ok-name.ensures.value c.in-flags.is in
    filled _ _ _ c.fill-in-flags.result c.args.self.now.flags c.fill-in-flags.new.place c.in_ok-name.text c.fill-in-flags.ensures.answer c.fill-in-flags.ensures.after
    (λ none some. taken flags c.args.word.now c.in_ok-name.text.now (texts_of c.args.self.now) _ is (each _ (sym (append-nil _)) (sym (append-nil _)) (sym (append-nil _)) (sym (append-nil _)) (sym (append-nil _)) (first_text _ _ _ none some) (sym (append-nil _))))
    (λ some. twice flags c.args.word.now c.in_ok-name.text.now (texts_of c.args.self.now) is refl (some_held c.args.self.now.flags some) (λ f. one_at_most f.flags))

pub returns-in-room : goal.returns-in-room
returns-in-room c =
    let is = named_text c.args.word.now c.split_once.result c.in_ok-name.name c.in_ok-name.text _ _ c.split_once.ensures.cases c.in_ok-name.ensures.value c.in-room.is in
    filled _ _ _ c.fill-in-room.result c.args.self.now.room c.fill-in-room.new.place c.in_ok-name.text c.fill-in-room.ensures.answer c.fill-in-room.ensures.after
    (λ none some. taken room c.args.word.now c.in_ok-name.text.now (texts_of c.args.self.now) _ is (each _ (sym (append-nil _)) (sym (append-nil _)) (sym (append-nil _)) (sym (append-nil _)) (sym (append-nil _)) (sym (append-nil _)) (first_text _ _ _ none some)))
    (λ some. twice room c.args.word.now c.in_ok-name.text.now (texts_of c.args.self.now) is refl (some_held c.args.self.now.room some) (λ f. one_at_most f.room))

pub returns-in_err-name : goal.returns-in_err-name
returns-in_err-name c =
    let p = err_from_is_err_and c.from_residual.result c.from_residual.ensures.1 in
    let none = unparted c.args.word.now c.split_once.result c.in_err-name.field-0.0 c.split_once.ensures.cases c.in_err-name.ensures.value in
    rw (p.1, p.2, none.0) (λ ws more h f g. none.1 ws more f g)

pub returns-in_default : goal.returns-in_default
returns-in_default c = λ ws more h f g. unknown c.args.word.now c.split_once.result c.in_ok-name.name c.in_ok-name.text c.split_once.ensures.cases c.in_ok-name.ensures.value
    (each _ c.in_default.not-values c.in_default.not-key c.in_default.not-groups c.in_default.not-total c.in_default.not-filter c.in_default.not-flags c.in_default.not-room) ws more f g
