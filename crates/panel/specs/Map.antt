-- Where the keys and LEDs stand (their ids by row and column), and the encoders' contacts (column and row of A, then of B).
use Rattle.std.specs.Prelude.{◌≡◌, ℕ, ◌+◌, ◌*◌, ◌<◌, [], ◌∷◌, slice_index}
use Rattle.panel.specs.declared.map.Map.{Map}

-- "six rows by eleven columns"
abbrev pub rows : ℕ
rows = 6

abbrev pub cols : ℕ
cols = 11

-- ids 0 to 40 are keys; any other number is none
abbrev pub keys : ℕ
keys = 41

abbrev pub id_at : Map → ℕ → ℕ → ℕ
id_at m row col = slice_index m.ids (row * cols + col)

-- "no id stands twice": two places with one key's id are one place
abbrev pub NoneTwice : Map → Type 0
NoneTwice m = (i j : ℕ) → i < 66 → j < 66 → slice_index m.ids i < keys → slice_index m.ids i ≡ slice_index m.ids j → i ≡ j

-- the source's KEYMAP and ENC, where 255 stands for its -1
unfoldable pub fm1_map : Map
fm1_map = record {
  ids =
      255 ∷ 255 ∷ 255 ∷ 255 ∷ 255 ∷ 255 ∷ 255 ∷ 255 ∷ 255 ∷ 255 ∷ 255
      ∷ 5 ∷ 11 ∷ 4 ∷ 10 ∷ 3 ∷ 9 ∷ 2 ∷ 8 ∷ 255 ∷ 255 ∷ 255
      ∷ 34 ∷ 35 ∷ 36 ∷ 37 ∷ 38 ∷ 40 ∷ 39 ∷ 13 ∷ 7 ∷ 6 ∷ 12
      ∷ 23 ∷ 24 ∷ 25 ∷ 26 ∷ 27 ∷ 28 ∷ 29 ∷ 30 ∷ 31 ∷ 32 ∷ 33
      ∷ 0 ∷ 1 ∷ 15 ∷ 14 ∷ 17 ∷ 16 ∷ 19 ∷ 18 ∷ 20 ∷ 21 ∷ 22
      ∷ 255 ∷ 255 ∷ 255 ∷ 255 ∷ 255 ∷ 255 ∷ 255 ∷ 255 ∷ 255 ∷ 255 ∷ 255
      ∷ [];
  contacts =
      0 ∷ 0 ∷ 1 ∷ 0
      ∷ 2 ∷ 0 ∷ 3 ∷ 0
      ∷ 8 ∷ 1 ∷ 9 ∷ 1
      ∷ 8 ∷ 0 ∷ 9 ∷ 0
      ∷ 6 ∷ 0 ∷ 7 ∷ 0
      ∷ 4 ∷ 0 ∷ 5 ∷ 0
      ∷ 0 ∷ 5 ∷ 1 ∷ 5
      ∷ [];
}
