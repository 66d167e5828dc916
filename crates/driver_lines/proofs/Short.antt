-- No line is long: whoever keeps room for 116 bytes has all of it put.
use mathlib.Core.Path.{◌≡◌, refl}
use mathlib.Core.Bool.{Bool, true, false, cond}
use mathlib.Core.List.{[], ◌∷◌, ◌++◌}
use Prim.Native.Nat.{ℕ, zero, suc, ◌+◌, ◌-◌, ◌/◌, ◌^◌, ◌≤◌}
use native.Mathlib.Omega.{arith}
use lib.Dec.{ltb}
use lib.ListN.{length, length-append}
use Rattle.audio.specs.declared.Half.{Half}
use Rattle.std.specs.Prelude.{Option, Some, None}
use Rattle.driver_carry.specs.declared.Answer.{Answer}
use Rattle.driver_carry.specs.declared.Answer.TheVariants.{Pushed, Read, Wrote, Stepped, Refused, Broken, Nothing}
use Rattle.io.specs.Digits.{last_digits}
use Rattle.text.specs.Putting.{places, decimal_of, hex_width, hex_of}
use Rattle.uart.specs.declared.Byte.{Byte}
use Rattle.driver_lines.specs.Lines.{value_text, half_text, byte_text, flag_text, line_of}

digits_long : (b k n : ℕ) → length (last_digits b k n) ≡ k
digits_long b zero n = refl
digits_long b (suc k) n = simp length-append (let h = digits_long b k (n / b) in omega (arith, h))

places-most : (b least more n : ℕ) → places b least more n ≤ least + more
unfolding places
places-most b least zero n = omega arith
places-most b least (suc more) n = go (ltb n (b ^ least)) (places-most b (suc least) more n)
  where
    go : (t : Bool) → places b (suc least) more n ≤ suc least + more → cond t least (places b (suc least) more n) ≤ least + suc more
    go true h = omega arith
    go false h = omega arith

decimal-short : (n : ℕ) → length (decimal_of n) ≤ 20
unfolding decimal_of
decimal-short n = rw (digits_long 10 (places 10 1 19 n) n) (places-most 10 1 19 n)

hex-short : (n width : ℕ) → hex_width width ≤ 16 → length (hex_of n width) ≤ 16
unfolding hex_of
hex-short n width h =
    let m = places-most 16 (hex_width width) (16 - hex_width width) n in
    rw (digits_long 16 (places 16 (hex_width width) (16 - hex_width width) n) n) (omega (arith, m, h))

eight : (n : ℕ) → length (hex_of n 8) ≤ 16
eight n = hex-short n 8 (omega arith)

value-short : (v : Option ℕ) → length (value_text v) ≤ 16
value-short (Some n) = eight n
value-short None = omega arith

half-short : (h : Option Half) → length (half_text h) ≤ 37
half-short (Some h) = simp length-append (let x = eight h.addr in let y = decimal-short h.words in omega (arith, x, y))
half-short None = omega arith

byte-short : (x : Option Byte) → length (byte_text x) ≤ 33
byte-short (Some z) = simp length-append (let x = eight z.addr in let y = hex-short z.b 2 (omega arith) in omega (arith, x, y))
byte-short None = omega arith

flag-short : (t : Bool) → length (flag_text t) ≤ 1
flag-short true = omega arith
flag-short false = omega arith

number_short : (n : ℕ) → length (decimal_of n ++ (10 ∷ [])) ≤ 21
number_short n = simp length-append (let x = decimal-short n in omega (arith, x))

pub line-short : (a : Answer) → length (line_of a) ≤ 116
unfolding line_of
line-short (Pushed number) = let x = number_short number in omega (arith, x)
line-short (Read addr value) = simp length-append (let x = eight addr in let y = value-short value in omega (arith, x, y))
line-short (Wrote addr value handled) =
    simp length-append (let x = eight addr in let y = eight value in let z = flag-short handled in omega (arith, x, y, z))
line-short (Stepped clock audio byte applied) =
    simp length-append
    (let x = decimal-short clock in
    let y = half-short audio in
    let z = byte-short byte in
    let w = decimal-short applied in
    omega (arith, x, y, z, w))
line-short (Refused number) = let x = number_short number in omega (arith, x)
line-short (Broken at) = let x = number_short at in omega (arith, x)
line-short Nothing = omega arith
