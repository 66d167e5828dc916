-- The driver's lines, document 01: "Per record, a line". "Addresses, values and bytes are hex (8, 8, 2 digits), the rest decimal." One space between fields, a line feed at the end.
use Rattle.std.specs.Prelude.{ℕ, Bool, cond, List, [], ◌∷◌, ◌++◌, Option, Some, None}
use Rattle.audio.specs.declared.Half.{Half}
use Rattle.driver_carry.specs.declared.Answer.{Answer}
use Rattle.driver_carry.specs.declared.Answer.TheVariants.{Pushed, Read, Wrote, Stepped, Refused, Broken, Nothing}
use Rattle.text.specs.Ascii.{bytes}
use Rattle.text.specs.Putting.{decimal_of, hex_of}
use Rattle.uart.specs.declared.Byte.{Byte}

abbrev pub space : List ℕ
space = bytes " "

abbrev pub end : List ℕ
end = 10 ∷ []

-- "value or `none`"
abbrev pub value_text : Option ℕ → List ℕ
value_text (Some n) = hex_of n 8
value_text None = bytes "none"

-- "audio (address/words) or `-`"
abbrev pub half_text : Option Half → List ℕ
half_text (Some h) = hex_of h.addr 8 ++ (bytes "/" ++ decimal_of h.words)
half_text None = bytes "-"

-- "byte (address/byte) or `-`"
abbrev pub byte_text : Option Byte → List ℕ
byte_text (Some x) = hex_of x.addr 8 ++ (bytes "/" ++ hex_of x.b 2)
byte_text None = bytes "-"

-- "1 or 0"
abbrev pub flag_text : Bool → List ℕ
flag_text t = cond t (bytes "1") (bytes "0")

abbrev pub number_line : List ℕ → ℕ → List ℕ
number_line letter n = letter ++ (decimal_of n ++ end)

-- "`R` address, value or `none`"
abbrev pub read_line : ℕ → Option ℕ → List ℕ
read_line addr v = bytes "R " ++ (hex_of addr 8 ++ (space ++ (value_text v ++ end)))

-- "`W` address, value, 1 or 0"
abbrev pub write_line : ℕ → ℕ → Bool → List ℕ
write_line addr v handled = bytes "W " ++ (hex_of addr 8 ++ (space ++ (hex_of v 8 ++ (space ++ (flag_text handled ++ end)))))

-- "`A` clock, audio (address/words) or `-`, byte (address/byte) or `-`, actions applied"
abbrev pub step_line : ℕ → Option Half → Option Byte → ℕ → List ℕ
step_line clock half byte applied =
    bytes "A " ++ (decimal_of clock ++ (space ++ (half_text half ++ (space ++ (byte_text byte ++ (space ++ (decimal_of applied ++ end)))))))

-- "`S` number (0 pushed)"; "A refused read or step prints `E` number; a broken or cut-off record prints `X` and its first byte's offset"
unfoldable pub line_of : Answer → List ℕ
line_of (Pushed number) = number_line (bytes "S ") number
line_of (Read addr value) = read_line addr value
line_of (Wrote addr value handled) = write_line addr value handled
line_of (Stepped clock audio byte applied) = step_line clock audio byte applied
line_of (Refused number) = number_line (bytes "E ") number
line_of (Broken at) = number_line (bytes "X ") at
line_of Nothing = []
