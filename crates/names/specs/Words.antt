-- Names that are fixed words.
use Rattle.std.specs.Prelude.{ℕ, Bool, true, false, ◌&&◌, cond, List, [], ◌∷◌, eqb, length, Option, None, Some}
use denote.Ref.{Bor}
use Prim.Native.String.{String}
use Rattle.names.specs.Ascii.{bytes}

unfoldable pub starts_with : List ℕ → List ℕ → Bool
starts_with n [] = true
starts_with [] (w ∷ ws) = false
starts_with (b ∷ bs) (w ∷ ws) = eqb b w && starts_with bs ws

-- the whole name is the word: it starts with it, and is as long
abbrev pub is_word : List ℕ → List ℕ → Bool
is_word n w = eqb (length n) (length w) && starts_with n w

-- the id that stands beside the name in a table; the first match wins
unfoldable pub look_up : List (String × ℕ) → List ℕ → Option ℕ
look_up [] n = None
look_up (entry ∷ entries) n = cond (is_word n (bytes entry.0)) (Some entry.1) (look_up entries n)

-- the same of the table that the code reads, whose words are lent
unfoldable pub find_row : List (Bor (List ℕ) × ℕ) → List ℕ → Option ℕ
find_row [] n = None
find_row (row ∷ rows) n = cond (is_word n row.0.now) (Some row.1) (find_row rows n)
