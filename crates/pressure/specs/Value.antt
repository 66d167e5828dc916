-- The working of the value, ours rather than 01's: `value_of` stays shut, and its law (`value-near` in proofs/Law) is that it lies within 1/4 of E.
use Rattle.std.specs.Prelude.{◌≡◌, ℕ, ◌+◌, ◌-◌, ◌*◌, ◌/◌, ◌%◌, ◌^◌, ◌≤◌, cond, List, [], ◌∷◌, ◌==◌, from_bits, slice_index, to_bits, refl, Float}
use Rattle.std.specs.Float.{binary32}
use Rattle.std.specs.Float.Ieee.{le}
use Rattle.pressure.specs.Force.{one32}
use Rattle.pressure.specs.Pin.{ohms51, ohms132, ohms312, ohms_of}

-- 1023 in 256ths
abbrev pub open_key : ℕ
open_key = 261888

-- "f32 0.001 (at or below it the value is 1023)"
abbrev pub limit : Float
limit = from_bits binary32 0x3a83_126f

-- Up to which force the value is 1023, by the resistance. There the Rust's sum r + rs comes to r, and its value to 1023 but for the rounding
-- of 837 * r / r: that is while r is 2^30 at least for 35 and 51 ohms, 2^32 for 132, 2^33 for 312, and for 10,000 not above 0.001.
abbrev pub open_to51 : Float
open_to51 = from_bits binary32 0x3ba5_1bd9

abbrev pub open_to132 : Float
open_to132 = from_bits binary32 0x3b51_eade

abbrev pub open_to312 : Float
open_to312 = from_bits binary32 0x3b27_5e3d

abbrev pub open_up_to : Float → Float
open_up_to r = cond (le r ohms51) open_to51 (cond (le r ohms132) open_to132 (cond (le r ohms312) open_to312 limit))

-- f.min(1.0)
abbrev pub at_most_one : Float → Float
at_most_one f = cond (le f one32) f one32

-- 2^15 * 2^(0.06 * (i - 10))
unfoldable pub expo : List ℕ
expo =
    21619 ∷ 22537 ∷ 23494 ∷ 24492 ∷ 25532 ∷ 26616 ∷ 27746 ∷ 28924 ∷ 30153 ∷ 31433 ∷ 32768 ∷ []

-- 2^15 * m^0.06 at the middle of the step of m from 1 + j/64 to 1 + (j + 1)/64
unfoldable pub mant : List ℕ
mant =
    32783 ∷ 32814 ∷ 32843 ∷ 32873 ∷ 32902 ∷ 32930 ∷ 32959 ∷ 32987 ∷ 33014 ∷ 33041 ∷ 33068 ∷ 33094 ∷ 33121 ∷ 33146 ∷ 33172 ∷ 33197 ∷ 33222 ∷ 33247 ∷ 33271 ∷ 33295 ∷ 33319 ∷ 33342 ∷ 33366 ∷ 33389 ∷ 33411 ∷ 33434 ∷ 33456 ∷ 33478 ∷ 33500 ∷ 33522 ∷ 33543 ∷ 33564 ∷ 33585 ∷ 33606 ∷ 33627 ∷ 33647 ∷ 33667 ∷ 33687 ∷ 33707 ∷ 33727 ∷ 33746 ∷ 33766 ∷ 33785 ∷ 33804 ∷ 33822 ∷ 33841 ∷ 33860 ∷ 33878 ∷ 33896 ∷ 33914 ∷ 33932 ∷ 33950 ∷ 33967 ∷ 33985 ∷ 34002 ∷ 34019 ∷ 34036 ∷ 34053 ∷ 34070 ∷ 34086 ∷ 34103 ∷ 34119 ∷ 34135 ∷ 34151 ∷ []

-- the patterns of the f32 from 2^-10 to 1
abbrev pub Pattern : ℕ → Type 0
Pattern b = (117 * 2 ^ 23 ≤ b) × (b ≤ 127 * 2 ^ 23)

-- 2^15 * f^0.06, at the step k of the patterns from 2^-10 on, 64 steps to each power of two
unfoldable pub factor : ℕ → ℕ
unfolding expo mant
factor k = (slice_index expo (k / 64) * slice_index mant (k % 64) + 16384) / 32768

-- 2^15 * f^((x - 150) / 50) for the f32 of the pattern b
unfoldable pub factor_of : ℕ → ℕ → ℕ
factor_of x b = cond (x == 150) 32768 (factor (b / 131072 - 7488))

-- 2^21 * f and 2^24 * f^3, cut to whole numbers
abbrev pub scaled : ℕ → ℕ
scaled b = (b % 8388608 + 8388608) / 2 ^ (129 - b / 8388608)

abbrev pub cubed : ℕ → ℕ
cubed b = scaled b * scaled b * scaled b / 549755813888

-- 256 * 837 * 100 / (100 + y) with y in units of 2^-39, short of 256 * 837: the 1 is why the value is below 1023, as E is
abbrev pub fraction : ℕ → ℕ
fraction y = 11779727775340953599 / (54975581388800 + y)

-- 256 * (186 + 837 * 100 / (100 + ohms * f^(x / 50)))
abbrev pub pressed : ℕ → ℕ → ℕ → ℕ
pressed x ohms b = 47616 + fraction (ohms * (cubed b * factor_of x b))

-- the value in 256ths of a key of force f against the resistance r, the exponent in fiftieths
pub value_of : ℕ → Float → Float → ℕ
value_of x r f = cond (le f (open_up_to r)) open_key (pressed x (ohms_of r) (to_bits binary32 (at_most_one f)))

-- what is behind it, for the proof that the code computes it and for its law
pub value-is : (x : ℕ) (r f : Float) → value_of x r f ≡ cond (le f (open_up_to r)) open_key (pressed x (ohms_of r) (to_bits binary32 (at_most_one f)))
unfolding value_of
value-is x r f = refl
