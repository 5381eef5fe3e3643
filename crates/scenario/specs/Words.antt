-- Words: what spaces part, but for those between brackets.
--   opens, closes  whether a byte is an opening or a closing bracket, square or curly
--   deeper       how many brackets are open behind a byte
--   parts        whether a byte behind so many open brackets parts words
--   word_length  how long the rest of a word is, behind so many open brackets
--   finished     a word that ends here, if it has a byte, and then the others
--   words_from   the words of a text, of which the first has begun, behind so many open brackets
--   words        the words of a text
use Rattle.std.specs.Prelude.{ℕ, suc, ◌+◌, ◌-◌, Bool, ◌&&◌, ◌||◌, List, [], ◌∷◌, ◌++◌, ◌==◌, if◌then◌else◌}

abbrev pub opens : ℕ → Bool
opens b = (b == 91) || (b == 123)

abbrev pub closes : ℕ → Bool
closes b = (b == 93) || (b == 125)

abbrev pub deeper : ℕ → ℕ → ℕ
deeper d b = if opens b then d + 1 else if closes b then d - 1 else d

abbrev pub parts : ℕ → ℕ → Bool
parts d b = (b == 32) && (d == 0)

abbrev pub word_length : ℕ → List ℕ → ℕ
word_length d [] = 0
word_length d (b ∷ bs) = if parts d b then 0 else suc (word_length (deeper d b) bs)

abbrev pub finished : List ℕ → List (List ℕ) → List (List ℕ)
finished [] ws = ws
finished (b ∷ bs) ws = (b ∷ bs) ∷ ws

abbrev pub words_from : List ℕ → ℕ → List ℕ → List (List ℕ)
words_from w d [] = finished w []
words_from w d (b ∷ bs) = if parts d b then finished w (words_from [] 0 bs) else words_from (w ++ b ∷ []) (deeper d b) bs

abbrev pub words : List ℕ → List (List ℕ)
words t = words_from [] 0 t
