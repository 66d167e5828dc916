-- Words as numbers of a type: "bytes and ids u8, ADC values and register addresses of the port u16, SPI numbers, CORE, A and V u32, CLICKS i32, the rest u64;
-- a flag other than 0 and 1 does not fit. Numbers are decimal, except addresses and values (1 to 8 hex digits in a call)."
use Rattle.std.specs.Prelude.{ℕ, ◌-◌, ◌%◌, ◌^◌, Bool, true, false, cond, List, [], ◌∷◌, eqb, ltb, Option, Some, None}
use Rattle.std.specs.Option.{option_map, option_and_then}
use Prim.Native.Char.{code}
use Rattle.text.specs.Numerals.{decimal_in, hex_in}
use Rattle.text.specs.Spans.{bytes_in}
use Rattle.text.specs.declared.Span.{Span}
use Rattle.line_ask.specs.WordsIn.{behind, is_none}
use Rattle.line_ask.specs.declared.numbers.Hex.{Hex}
use Rattle.line_ask.specs.declared.numbers.Signed.{Signed}

abbrev pub below : ℕ → ℕ → Option ℕ
below end n = cond (ltb n end) (Some n) None

-- of 32, 16 and 8 bits
abbrev pub u32_of : List ℕ → Option ℕ
u32_of word = option_and_then (below (2 ^ 32)) (decimal_in word)

abbrev pub u16_of : List ℕ → Option ℕ
u16_of word = option_and_then (below (2 ^ 16)) (decimal_in word)

abbrev pub u8_of : List ℕ → Option ℕ
u8_of word = option_and_then (below (2 ^ 8)) (decimal_in word)

abbrev pub as_flag : ℕ → Option Bool
as_flag n = cond (eqb n 0) (Some false) (cond (eqb n 1) (Some true) None)

abbrev pub flag_of : List ℕ → Option Bool
flag_of word = option_and_then as_flag (decimal_in word)

-- 1 to 8 hex digits, which fit 32 bits
abbrev pub hex_of : List ℕ → Option Hex
hex_of word = option_map (λ n. record { 0 = n }) (option_and_then (below (2 ^ 32)) (hex_in 8 word))

-- so much below 0, as 32 bits
unfoldable pub negative_of : ℕ → Option Signed
negative_of n = cond (ltb (2 ^ 31) n) None (Some (record { 0 = (2 ^ 32 - n) % 2 ^ 32 }))

unfoldable pub positive_of : ℕ → Option Signed
positive_of n = cond (ltb (2 ^ 31 - 1) n) None (Some (record { 0 = n }))

-- an i32, as its bits
abbrev pub signed_of : List ℕ → Option Signed
signed_of [] = None
signed_of (b ∷ digits) =
    cond (eqb b (code "-"))
    (option_and_then negative_of (decimal_in digits))
    (option_and_then positive_of (decimal_in (b ∷ digits)))

-- one number, two, three, and no word more
abbrev pub one_in : {A : Type 0} → (List ℕ → Option A) → List ℕ → Span → Option A
one_in a line w = cond (is_none (behind line w)) (a (bytes_in line w)) None

abbrev pub two_in : {A B : Type 0} → (List ℕ → Option A) → (List ℕ → Option B) → List ℕ → Span → Option (A × B)
two_in a b line w =
    option_and_then (λ x. option_map (λ y. (x, y)) (one_in b line (behind line w))) (a (bytes_in line w))

abbrev pub three_in : {A B C : Type 0} → (List ℕ → Option A) → (List ℕ → Option B) → (List ℕ → Option C) → List ℕ → Span → Option (A × B × C)
three_in a b c line w =
    option_and_then (λ x. option_map (λ p. (x, p.0, p.1)) (two_in b c line (behind line w))) (a (bytes_in line w))
