-- Numbers in words. A value is exact, of any size: one that does not fit 64 bits is no number.
use Rattle.std.specs.Prelude.{ℕ, ◌+◌, ◌-◌, ◌*◌, ◌^◌, Bool, true, ◌&&◌, cond, List, [], ◌∷◌, ltb, leb, length, Option, Some, None}
use Prim.Native.Char.{code}

abbrev pub is_between : ℕ → ℕ → ℕ → Bool
is_between first last b = leb first b && leb b last

-- a hex digit's value, of either case; 16 for any other byte. A decimal digit is one whose value is below 10.
unfoldable pub digit_of : ℕ → ℕ
digit_of b =
    cond (is_between (code "0") (code "9") b) (b - code "0")
    (cond (is_between (code "A") (code "F") b) (b - code "A" + 10)
    (cond (is_between (code "a") (code "f") b) (b - code "a" + 10)
    16))

-- the value of a digit of the base, of 16 at most
abbrev pub digit_in : ℕ → ℕ → Option ℕ
digit_in base b = cond (ltb (digit_of b) base) (Some (digit_of b)) None

-- each byte is a digit of the base
unfoldable pub all_digits : ℕ → List ℕ → Bool
all_digits base [] = true
all_digits base (b ∷ s) = ltb (digit_of b) base && all_digits base s

-- what digits are worth, behind digits that are worth v
unfoldable pub value_after : ℕ → ℕ → List ℕ → ℕ
value_after base v [] = v
value_after base v (b ∷ s) = value_after base (v * base + digit_of b) s

abbrev pub value_of : ℕ → List ℕ → ℕ
value_of base s = value_after base 0 s

-- "one or more decimal digits that fit 64 bits", with no sign
unfoldable pub decimal_in : List ℕ → Option ℕ
decimal_in s =
    cond (ltb 0 (length s) && all_digits 10 s && ltb (value_of 10 s) (2 ^ 64))
    (Some (value_of 10 s))
    None

-- "one to `most` hex digits of either case", 16 at most, whose value then fits 64 bits
unfoldable pub hex_in : ℕ → List ℕ → Option ℕ
hex_in most s =
    cond (ltb 0 (length s) && leb (length s) most && leb (length s) 16 && all_digits 16 s)
    (Some (value_of 16 s))
    None
