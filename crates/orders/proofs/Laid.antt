-- The key columns of both orders as they are laid out.
use Rattle.std.proofs.Common.{◌≡◌, ℕ, zero, suc, ◌<◌, ◌≤◌, List, [], ◌∷◌, map, length, get_or, take, ℤ, None, Option, sym, refl, ap, ap₂, ◌∙◌, arith}
use Rattle.std.proofs.lemmas.List.{length-map, take-map}
use Rattle.column.specs.Cells.{numbers, strings, Cell, null, number_cell}
use Rattle.column.specs.Columns.{count_up}
use Rattle.layout.specs.Layout.{laid_out}
use Rattle.layout.specs.Written.{rows_laid, short_cell}
use Rattle.layout.proofs.Sources.{rows_front}
use Rattle.tables.specs.Meaning.{column_cells}
use Rattle.tables.specs.Refusals.{key_laid, measuring_key}
use Rattle.tables.proofs.Declining.{drop_within}
use Rattle.tables.proofs.Held.{cell_first}
use Rattle.tables.proofs.Ordering.{number_kinds}
use Rattle.tables.proofs.Passing.{measuring_within}
use Rattle.orders.specs.declared.number.NumberOrder.{NumberOrder}
use Rattle.orders.specs.declared.text.TextOrder.{TextOrder}
use Rattle.orders.specs.Texts as text
use Rattle.orders.specs.Numbers.{key_cells, order_entries, order_settings}
use Rattle.orders.proofs.Numbers.{kinds_long, held_cell}

-- what a key column shows in a row
abbrev pub number_of : List (List (Option ℤ)) → ℕ → ℕ → Cell
number_of ks j r = number_cell (get_or (get_or ks r []) j None)

number_in_column : (n j : ℕ) (ks : List (List (Option ℤ))) → j < n → (r : ℕ) → number_of ks j r ≡ get_or (column_cells j (map (key_cells n) ks)) r null
number_in_column n j [] h r = refl
number_in_column n j (k ∷ ks) h zero = sym (held_cell k n j h)
number_in_column n j (k ∷ ks) h (suc r) = number_in_column n j ks h r

map_same : {X Y : Type 0} (f g : X → Y) → ((x : X) → f x ≡ g x) → (xs : List X) → map f xs ≡ map g xs
map_same f g e [] = refl
map_same f g e (x ∷ xs) = ap₂ (λ y ys. y ∷ ys) (e x) (map_same f g e xs)

pub order_within : (o : NumberOrder) (j n : ℕ) → measuring_key (order_settings o) (order_entries o) j n ≡ None → (j < o.sorts.count) × (n ≤ length o.keys)
order_within o j n e =
    let w = measuring_within (order_settings o) (order_entries o) j n e in
    let s = o.sorts.whole in
    let t = o.sorts.few in
    let a = kinds_long o.sorts.table o.sorts.count (omega arith) in
    let b = length-map o.keys (key_cells o.sorts.count) in
    let d = drop_within (length (order_entries o)) n w.1 in
    (let i = w.0 in omega arith, omega arith)

pub column_laid : (o : NumberOrder) (j n : ℕ) → measuring_key (order_settings o) (order_entries o) j n ≡ None → rows_laid numbers (λ r. number_of o.keys j r) n ≡ key_laid (order_settings o) (order_entries o) j n
column_laid o j n e =
    let w = order_within o j n e in
    let h = w.0 in
    let k = w.1 in
    let l = length-map (order_entries o) (λ e. get_or e j null) in
    let m = length-map o.keys (key_cells o.sorts.count) in
    ap (laid_out numbers)
    (map_same (λ r. number_of o.keys j r) (λ r. get_or (column_cells j (order_entries o)) r null) (number_in_column o.sorts.count j o.keys h) (count_up 0 n)
    ∙ rows_front (column_cells j (order_entries o)) null n (omega arith))
    ∙ ap (λ x. laid_out x (take n (column_cells j (order_entries o)))) (sym (number_kinds (take o.sorts.count o.sorts.table) j))

-- by the column that the code makes of the order's keys
pub made_laid : (o : NumberOrder) (j n : ℕ) (ks : List (List (Option ℤ))) (i : ℕ) → ks ≡ o.keys → i ≡ j → measuring_key (order_settings o) (order_entries o) j n ≡ None → rows_laid numbers (λ r. number_of ks i r) n ≡ key_laid (order_settings o) (order_entries o) j n
made_laid o j n ks i e f p = ap₂ (λ ms m. rows_laid numbers (λ r. number_of ms m r) n) e f ∙ column_laid o j n p

-- Texts

pub text_within : (o : TextOrder) (j n : ℕ) → measuring_key (text.order_settings o) (text.order_entries o) j n ≡ None → (j ≡ 0) × (n ≤ length o.keys)
text_within o j n e =
    let w = measuring_within (text.order_settings o) (text.order_entries o) j n e in
    let b = length-map o.keys text.text_key in
    let d = drop_within (length (text.order_entries o)) n w.1 in
    (let i = w.0 in omega arith, omega arith)

pub texts_laid : (o : TextOrder) (j n : ℕ) → measuring_key (text.order_settings o) (text.order_entries o) j n ≡ None → laid_out strings (map short_cell (take n o.keys)) ≡ key_laid (text.order_settings o) (text.order_entries o) j n
texts_laid o j n p =
    sym (ap (λ i. key_laid (text.order_settings o) (text.order_entries o) i n) (text_within o j n p).0
    ∙ ap (λ cs. laid_out strings (take n cs)) (cell_first short_cell o.keys)
    ∙ ap (laid_out strings) (take-map short_cell n o.keys))
