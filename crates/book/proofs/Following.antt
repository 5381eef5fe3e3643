-- What a call answers, and the winners after it, follow from the winners before it.
use Rattle.std.proofs.Common.{◌≡◌, ℕ, zero, suc, ◌-◌, List, [], ◌∷◌, ◌++◌, map, length, get_or, drop, set, replicate, Some, None, Option, sym, refl, ap, ◌∙◌, ap₂}
use lib.ListN.{length-map, get_or-map}
use Rattle.std.proofs.lemmas.List.{map-append, map-set, drop-map}
use Rattle.book.proofs.Winning.{challenge, winner_append}
use Rattle.book.specs.Batches.{Book, Batch, grown, entered, entries}
use Rattle.book.specs.Calls.{Call, update, merge, convert, evaluate, state, Answer, declined, answered, answer_unless, answer, taken_in, after, book_after, answers}
use Rattle.book.specs.Emission.{Outputs, emits}
use Rattle.book.specs.Winners.{Row, Making, Lawful, winner, winners, top_rows}
use Rattle.column.specs.Checks.{unless_refused}
use Rattle.column.specs.Columns.{Flags}
use Rattle.column.specs.Faults.{Fault}

pub map_replicate : {X Y : Type 0} (f : X → Y) (n : ℕ) (x : X) → map f (replicate n x) ≡ replicate n (f x)
map_replicate f zero x = refl
map_replicate f (suc n) x = ap (λ l. f x ∷ l) (map_replicate f n x)

abbrev pub Held : Type 0
Held = List (Option Row)

-- each row against what its group holds
abbrev pub met : Making → Held → List (ℕ × Row) → Held
met m ws [] = ws
met m ws (e ∷ es) = met m (set ws e.0 (challenge m (get_or ws e.0 None) e.1)) es

abbrev pub batch_held : Making → Held → Batch → Option Flags → Held
batch_held m ws b marks = met m (ws ++ replicate (b.total - length ws) None) (entries m b marks)

abbrev pub held_taken : Making → Held → Call → Held
held_taken m ws (update b marks) = batch_held m ws b marks
held_taken m ws (merge b flags) = batch_held m ws b (Some flags)
held_taken m ws (convert g marks) = ws
held_taken m ws (evaluate to) = drop (emits to (length ws)) ws
held_taken m ws (state to) = drop (emits to (length ws)) ws

-- what is held after a call
abbrev pub held_after : Making → Held → Call → Outputs → Held
held_after m ws c o = unless_refused (declined m ws c o) (held_taken m ws c) ws

-- what a call answers where ws are held
abbrev pub reply : Making → Held → Call → Outputs → Answer
reply m ws c o = answer_unless (declined m ws c o) o (answered m ws c o)

module _ (m : Making) (laws : Lawful m) where
  pub winners_length : (b : Book) → length (winners m b) ≡ length b
  unfolding winners
  winners_length b = length-map b (winner m)

  winners_grown : (b : Book) (t : ℕ) → winners m (grown b t) ≡ winners m b ++ replicate (t - length (winners m b)) None
  unfolding winners winner top_rows
  winners_grown b t =
      map-append (winner m) b (replicate (t - length b) []) ∙ ap (λ l. map (winner m) b ++ l) (map_replicate (winner m) (t - length b) [])
      ∙ ap (λ n. map (winner m) b ++ replicate (t - n) None) (sym (length-map b (winner m)))

  winners_enter : (b : Book) (i : ℕ) (r : Row) → winners m (set b i (get_or b i [] ++ r ∷ [])) ≡ set (winners m b) i (challenge m (get_or (winners m b) i None) r)
  unfolding winners winner top_rows
  winners_enter b i r =
      map-set (winner m) b i (get_or b i [] ++ r ∷ [])
      ∙ ap (set (map (winner m) b) i) (winner_append m laws (get_or b i []) (r ∷ []) ∙ ap (λ o. challenge m o r) (sym (get_or-map (winner m) b i [])))

  winners_entered : (b : Book) (es : List (ℕ × Row)) → winners m (entered b es) ≡ met m (winners m b) es
  winners_entered b [] = refl
  winners_entered b (e ∷ es) =
      winners_entered (set b e.0 (get_or b e.0 [] ++ e.1 ∷ [])) es ∙ ap (λ ws. met m ws es) (winners_enter b e.0 e.1)

  winners_batch : (b : Book) (x : Batch) (marks : Option Flags) → winners m (entered (grown b x.total) (entries m x marks)) ≡ batch_held m (winners m b) x marks
  winners_batch b x marks = winners_entered (grown b x.total) (entries m x marks) ∙ ap (λ ws. met m ws (entries m x marks)) (winners_grown b x.total)

  winners_dropped : (b : Book) (n k : ℕ) → n ≡ k → winners m (drop n b) ≡ drop k (winners m b)
  unfolding winners
  winners_dropped b n k e = sym (drop-map (winner m) n b) ∙ ap (λ j. drop j (map (winner m) b)) e

  winners_taken : (b : Book) (c : Call) → winners m (taken_in m b c) ≡ held_taken m (winners m b) c
  winners_taken b (update x marks) = winners_batch b x marks
  winners_taken b (merge x flags) = winners_batch b x (Some flags)
  winners_taken b (convert g marks) = refl
  winners_taken b (evaluate to) = winners_dropped b _ _ (ap (emits to) (sym (winners_length b)))
  winners_taken b (state to) = winners_dropped b _ _ (ap (emits to) (sym (winners_length b)))

  pub winners_after : (b : Book) (c : Call) (o : Outputs) → winners m (after m b c o) ≡ held_after m (winners m b) c o
  unfolding after
  winners_after b c o = go (declined m (winners m b) c o)
    where
      go : (d : Option Fault) → winners m (unless_refused d (taken_in m b c) b) ≡ unless_refused d (held_taken m (winners m b) c) (winners m b)
      go None = winners_taken b c
      go (Some f) = refl

  pub answers_same : (further : List (Call × Outputs)) (b c : Book) → winners m b ≡ winners m c → answers m b further ≡ answers m c further
  unfolding answer
  answers_same [] b c e = refl
  answers_same (x ∷ xs) b c e =
      ap₂ (λ a l. a ∷ l) (ap (λ ws. answer_unless (declined m ws x.0 x.1) x.1 (answered m ws x.0 x.1)) e)
      (answers_same xs (after m b x.0 x.1) (after m c x.0 x.1)
      (winners_after b x.0 x.1 ∙ ap (λ ws. held_after m ws x.0 x.1) e ∙ sym (winners_after c x.0 x.1)))

  pub answer_is : (b : Book) (c : Call) (o : Outputs) → answer m b c o ≡ reply m (winners m b) c o
  unfolding answer
  answer_is b c o = refl

pub book_push : (m : Making) (b : Book) (past : List (Call × Outputs)) (c : Call) (o : Outputs) → book_after m b (past ++ (c, o) ∷ []) ≡ after m (book_after m b past) c o
book_push m b [] c o = refl
book_push m b (x ∷ xs) c o = book_push m (after m b x.0 x.1) xs c o
