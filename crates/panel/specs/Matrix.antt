-- The key matrix: which rows are pulled low by a closed contact in a selected column, and how ports A and B read it.
use Rattle.std.specs.Prelude.{ℕ, zero, suc, ◌+◌, ◌-◌, ◌*◌, ◌/◌, ◌%◌, ◌^◌, Bool, cond, ◌&&◌, List, ◌==◌, bit_and, bit_or, nat_lt, slice_index}
use Rattle.base.specs.Bits.{when_of, bit_of, has_bit}
use Rattle.keys.specs.Keys.{is_down}
use Rattle.panel.specs.declared.map.Map.{Map}

-- the rows of the first n, put together
unfoldable pub or_to : (ℕ → ℕ) → ℕ → ℕ
or_to f zero = 0
or_to f (suc n) = bit_or (or_to f n) (f n)

-- "a low bit selects the column"
abbrev pub selected : ℕ → ℕ → Bool
selected latched col = bit_of latched col == 0

-- a row's bit, none outside the six rows
abbrev pub row_bit : ℕ → ℕ
row_bit row = cond (nat_lt row 6) (2 ^ row) 0

abbrev pub key_row : List ℕ → ℕ → ℕ → ℕ → ℕ
key_row ids down col row = when_of (is_down down (slice_index ids (row * 11 + col))) (row_bit row)

unfoldable pub keys_in : List ℕ → ℕ → ℕ → ℕ
keys_in ids down col = or_to (key_row ids down col) 6

-- contact k of the fourteen (A, B of the first encoder, A, B of the second, ..) lies in that column, closed: its row
abbrev pub contact_row : List ℕ → ℕ → ℕ → ℕ → ℕ
contact_row contacts closed col k =
    when_of (slice_index contacts (k * 2) == col && has_bit closed k) (row_bit (slice_index contacts (k * 2 + 1)))

unfoldable pub contacts_in : List ℕ → ℕ → ℕ → ℕ
contacts_in contacts closed col = or_to (contact_row contacts closed col) 14

abbrev pub closed_in : Map → ℕ → ℕ → ℕ → ℕ → ℕ
closed_in m down closed latched col =
    when_of (selected latched col) (bit_or (keys_in m.ids down col) (contacts_in m.contacts closed col))

-- "Row bits (0..5) pulled low by a closed contact in a selected column"
unfoldable pub closed_rows : Map → ℕ → ℕ → ℕ → ℕ
closed_rows m down closed latched = or_to (closed_in m down closed latched) 11

-- PA: row 0 is PA0, rows 1 to 4 are PA5 to PA8; everything else reads as pulled up
abbrev pub pa_in : ℕ → ℕ → ℕ
pa_in out rows = bit_and (bit_or out 0xffff) (2 ^ 32 - 1 - (rows % 2 + rows / 2 % 16 * 32))

-- PB: row 5 is PB7
abbrev pub pb_in : ℕ → ℕ
pb_in rows = 0xffff - bit_of rows 5 * 128
