-- What is put behind the bytes that wait in a buffer. A byte for which there is no room is left out.
use Rattle.std.specs.Prelude.{ℕ, zero, suc, ◌+◌, ◌-◌, ◌^◌, min, max, cond, List, [], ◌∷◌, ltb, leb, length, set, take}
use Rattle.io.specs.Digits.{last_digits}

-- the place behind one more byte, in a buffer of `room` bytes
abbrev pub place_after : ℕ → ℕ → ℕ
place_after room at = cond (ltb at room) (at + 1) at

-- "one byte behind the others where there is room, else nothing"
abbrev pub put_byte : List ℕ → ℕ → ℕ → List ℕ
put_byte out at b = cond (ltb at (length out)) (set out at b) out

-- the same for each byte of a text, one after the other
unfoldable pub place_after_all : ℕ → ℕ → List ℕ → ℕ
place_after_all room at [] = at
place_after_all room at (b ∷ text) = place_after_all room (place_after room at) text

unfoldable pub put_all : List ℕ → ℕ → List ℕ → List ℕ
put_all out at [] = out
put_all out at (b ∷ text) = put_all (put_byte out at b) (place_after (length out) at) text

-- the fewest digits in base b that hold n, no fewer than `least`: tried one after the other, `more` of them above `least`
unfoldable pub places : ℕ → ℕ → ℕ → ℕ → ℕ
places b least zero n = least
places b least (suc more) n = cond (ltb n (b ^ least)) least (places b (suc least) more n)

-- A number of 64 bits in decimal has at most 20 digits.
unfoldable pub decimal_of : ℕ → List ℕ
decimal_of n = last_digits 10 (places 10 1 19 n) n

-- "a width of 0 counts as 1, and one above 16 as 16"
abbrev pub hex_width : ℕ → ℕ
hex_width width = min (max width 1) 16

-- In hexadecimal it has at most 16, in lower case, with zeros in front up to the width.
unfoldable pub hex_of : ℕ → ℕ → List ℕ
hex_of n width = last_digits 16 (places 16 (hex_width width) (16 - hex_width width) n) n

-- the first n bytes; none where there are not so many
abbrev pub first_of : List ℕ → ℕ → List ℕ
first_of s n = cond (leb n (length s)) (take n s) []
