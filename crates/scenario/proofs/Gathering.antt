-- Fields that are taken in, one after another.
use Rattle.std.proofs.Common.{◌≡◌, ◌≢◌, ◌<◌, ◌≤◌, ℕ, length, get_or, length-append, arith, List, [], ◌∷◌, ◌++◌, map, Option, Some, None, Ok, Err, Result, refl, sym, ap, ◌∙◌, append_assoc, lit<}
use Rattle.std.specs.Prelude.{if◌then◌else◌, is_ok, IsSome}
use Rattle.std.specs.List.{AllByRecursion}
use Rattle.std.specs.Option.{option_copied, option_to_list, ok_or}
use Rattle.std.proofs.lemmas.Str.Pattern.{split_parts, split_after, IsSplitOnceResult}
use Rattle.scenario.specs.declared.Unread.{Unread}
use Rattle.scenario.specs.declared.Unread.TheVariants.{Malformed, OutOfMemory}
use Rattle.scenario.specs.declared.fields.Fields.{Fields}
use Rattle.scenario.specs.Fields.{FieldName, values, key, groups, total, filter, flags, room, field_name, IsFieldWord, text_behind, texts_named, Texts, texts_of, held, Gathers}
use Rattle.scenario.specs.Plain.{Fieldless}
use Rattle.scenario.specs.Reading.{Told, Found}
use Rattle.scenario.specs.Texts.{field}
use Rattle.scenario.proofs.Naming.{no_sign}
use denote.Ref.{Bor}

-- what holds of each name
pub each : (P : FieldName → Type 0) → P values → P key → P groups → P total → P filter → P flags → P room → (name : FieldName) → P name
each P a b c d e f g values = a
each P a b c d e f g key = b
each P a b c d e f g groups = c
each P a b c d e f g total = d
each P a b c d e f g filter = e
each P a b c d e f g flags = f
each P a b c d e f g room = g

-- a name has no equals sign
name_free : (name : FieldName) → (i : ℕ) → i < length (field_name name) → get_or (field_name name) i 0 ≢ 61
name_free values = no_sign (field_name values) refl
name_free key = no_sign (field_name key) refl
name_free groups = no_sign (field_name groups) refl
name_free total = no_sign (field_name total) refl
name_free filter = no_sign (field_name filter) refl
name_free flags = no_sign (field_name flags) refl
name_free room = no_sign (field_name room) refl

texts-append : (name : FieldName) (us ws : List (List ℕ)) → texts_named name (us ++ ws) ≡ texts_named name us ++ texts_named name ws
texts-append name [] ws = refl
texts-append name (u ∷ us) ws =
    ap (λ ts. option_to_list (text_behind (field (field_name name) []) u) ++ ts) (texts-append name us ws)
    ∙ sym (append_assoc (option_to_list (text_behind (field (field_name name) []) u)) (texts_named name us) (texts_named name ws))

all-push : (ws : List (List ℕ)) (w : List ℕ) → AllByRecursion IsFieldWord ws → IsFieldWord w → AllByRecursion IsFieldWord (ws ++ w ∷ [])
all-push [] w all one = (one, tt)
all-push (v ∷ ws) w all one = (all.0, all-push ws w all.1 one)

-- one more field, whose text stands behind those of its name
pub taken : (name : FieldName) (w t : List ℕ) (old new : Texts) → w ≡ field (field_name name) t → ((m : FieldName) → held m new ≡ held m old ++ texts_named m (field (field_name name) t ∷ []))
    → (ws : List (List ℕ)) → Gathers ws old → Gathers (ws ++ w ∷ []) new
taken name w t old new is held_more ws h = (
  all-push ws w h.0 (name, t, is),
  λ m. texts-append m ws (w ∷ []) ∙ ap (λ ts. ts ++ texts_named m (w ∷ [])) (h.1 m) ∙ ap (λ u. held m old ++ texts_named m (u ∷ [])) is ∙ sym (held_more m),
)

-- a text that is put where none was
pub first_text : (old new : Option (Bor (List ℕ))) (t : Bor (List ℕ)) → old ≡ None → new ≡ Some t → option_to_list (option_copied new) ≡ option_to_list (option_copied old) ++ t.now ∷ []
first_text old new t none some = ap (λ o. option_to_list (option_copied o)) some ∙ sym (ap (λ o. option_to_list (option_copied o) ++ t.now ∷ []) none)

-- a field is filled where it was not
pub filled : {V : Type 0} (P Q S : Type 0) (r : Result V Unread) (old new : Option (Bor (List ℕ))) (t : Bor (List ℕ)) → Told r (λ _. old ≡ None) Q → new ≡ (if is_ok r then Some t else old)
    → (old ≡ None → new ≡ Some t → P) → (Q → S) → Found r (λ _. P) S
filled P Q S (Ok v) old new t none after so twice = so none after
filled P Q S (Err Malformed) old new t some after so twice = twice some
filled P Q S (Err OutOfMemory) old new t none after so twice = tt

-- of a name there is one text at most
pub one_at_most : (o : Option (List ℕ)) → length (option_to_list o) ≤ 1
one_at_most None = omega arith
one_at_most (Some t) = omega arith

pub some_held : (o : Option (Bor (List ℕ))) → IsSome o → 0 < length (option_to_list (option_copied o))
some_held None some = cc
some_held (Some t) some = omega arith

-- so a field that is there does not come again
pub twice : (name : FieldName) (w t : List ℕ) (old : Texts) → w ≡ field (field_name name) t → option_to_list (text_behind (field (field_name name) []) (field (field_name name) t)) ≡ t ∷ [] → 0 < length (held name old)
    → ((f : Texts) → length (held name f) ≤ 1) → (ws more : List (List ℕ)) → Gathers ws old → (f : Texts) → Gathers (ws ++ w ∷ more) f → ⊥
twice name w t old is one some few ws more h f g =
    let here : option_to_list (text_behind (field (field_name name) []) w) ≡ t ∷ [] = ap (λ u. option_to_list (text_behind (field (field_name name) []) u)) is ∙ one in
    let parts : texts_named name (ws ++ w ∷ more) ≡ held name old ++ (t ∷ texts_named name more) = texts-append name ws (w ∷ more) ∙ ap (λ ts. ts ++ texts_named name (w ∷ more)) (h.1 name) ∙ ap (λ ts. held name old ++ (ts ++ texts_named name more)) here in
    let long = ap length (sym parts ∙ g.1 name) in
    omega (arith, long, length-append (held name old) (t ∷ texts_named name more), some, few f)

-- a word among the fields is a field
middle : (ws more : List (List ℕ)) (w : List ℕ) → AllByRecursion IsFieldWord (ws ++ w ∷ more) → IsFieldWord w
middle [] more w all = all.0
middle (v ∷ ws) more w all = middle ws more w all.1

-- a field has an equals sign
pub unparted : (w : List ℕ) (r : Option (Bor (List ℕ) × Bor (List ℕ))) (e : Unread) → IsSplitOnceResult 61 w r → Err e ≡ ok_or r Malformed → (e ≡ Malformed) × ((ws more : List (List ℕ)) → (f : Texts) → Gathers (ws ++ w ∷ more) f → ⊥)
unparted w (Some x) e parts is = cc
unparted w None e parts is = (cc, λ ws more f g. let word = middle ws more w g.0 in split_after 61 w (field_name word.0) word.1 None parts (lit< tt) word.2 (name_free word.0))

-- a word of no known name is no field
pub unknown : (w : List ℕ) (r : Option (Bor (List ℕ) × Bor (List ℕ))) (name text : Bor (List ℕ)) → IsSplitOnceResult 61 w r → Ok (name, text) ≡ ok_or r Malformed → ((n : FieldName) → name.now ≢ field_name n)
    → (ws more : List (List ℕ)) → (f : Texts) → Gathers (ws ++ w ∷ more) f → ⊥
unknown w None name text parts is none ws more f g = cc
unknown w (Some x) name text parts is none ws more f g =
    let word = middle ws more w g.0 in
    let same : x ≡ (name, text) = cc in
    none word.0 (ap (λ y. y.0.now) (sym same) ∙ (split_after 61 w (field_name word.0) word.1 (Some x) parts (lit< tt) word.2 (name_free word.0)).0)

-- no field
pub gathers_none : (f : Fields) → Fieldless f → Gathers [] (texts_of f)
gathers_none f h = (
  tt,
  each (λ name. [] ≡ held name (texts_of f)) (without f.values h.0) (ap (map (λ t. t.now)) (sym h.1)) (without f.groups h.2) (without f.total h.3) (without f.filter h.4) (without f.flags h.5) (without f.room h.6),
)
  where
    without : (o : Option (Bor (List ℕ))) → o ≡ None → [] ≡ option_to_list (option_copied o)
    without o none = ap (λ p. option_to_list (option_copied p)) (sym none)

-- a word is parted at its first equals sign
pub named_text : (w : List ℕ) (r : Option (Bor (List ℕ) × Bor (List ℕ))) (name text : Bor (List ℕ)) (known : List ℕ) (e : Unread) → IsSplitOnceResult 61 w r → Ok (name, text) ≡ ok_or r e → name.now ≡ known → w ≡ field known text.now
named_text w None name text known e parts is same = cc
named_text w (Some x) name text known e parts is same =
    (split_parts 61 w (Some x) parts (lit< tt)).0 ∙ ap (λ y. y.0.now ++ 61 ∷ y.1.now) (value is) ∙ ap (λ n. n ++ 61 ∷ text.now) same
  where
    value : Ok (name, text) ≡ ok_or (Some x) e → x ≡ (name, text)
    value is = cc

-- where nothing is gathered there is no field
pub none_gathered : (f : Fields) (ws : List (List ℕ)) → Gathers ws (texts_of f) → ws ≡ [] → Fieldless f
none_gathered f ws h none = (without f.values (at values), empty f.keys.items (at key), without f.groups (at groups), without f.total (at total), without f.filter (at filter), without f.flags (at flags), without f.room (at room))
  where
    at : (name : FieldName) → [] ≡ held name (texts_of f)
    at name = ap (texts_named name) (sym none) ∙ h.1 name

    without : (o : Option (Bor (List ℕ))) → [] ≡ option_to_list (option_copied o) → o ≡ None
    without None is = refl
    without (Some t) is = cc

    empty : (ts : List (Bor (List ℕ))) → [] ≡ map (λ t. t.now) ts → ts ≡ []
    empty [] is = refl
    empty (t ∷ ts) is = cc

-- the words are the fields of no other texts
only_text : (o p : Option (List ℕ)) → option_to_list o ≡ option_to_list p → o ≡ p
only_text None None is = refl
only_text None (Some t) is = cc
only_text (Some t) None is = cc
only_text (Some t) (Some u) is = cc

pub one_gathering : (ws : List (List ℕ)) (f g : Texts) → Gathers ws f → Gathers ws g → f ≡ g
one_gathering ws f g h k =
    let same : (name : FieldName) → held name f ≡ held name g = λ name. sym (h.1 name) ∙ k.1 name in
    λ i. record {
      values = only_text f.values g.values (same values) i;
      keys = same key i;
      groups = only_text f.groups g.groups (same groups) i;
      total = only_text f.total g.total (same total) i;
      filter = only_text f.filter g.filter (same filter) i;
      flags = only_text f.flags g.flags (same flags) i;
      room = only_text f.room g.room (same room) i;
    }
