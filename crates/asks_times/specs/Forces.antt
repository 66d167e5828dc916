-- Forces, each as the f32's bits: by `pressure`'s definitions.
use Rattle.std.specs.Prelude.{ℕ, cond, List, ltb, leb, Float, Option, Some, None}
use Rattle.std.specs.Option.{option_and_then}
use Rattle.std.specs.Float.{binary32}
use Rattle.std.specs.Float.Ieee.{of_bits, to_bits, le}
use Rattle.line_ask.specs.Numbers.{three_in}
use Rattle.line_ask.specs.WordsIn.{behind}
use Rattle.base.specs.Moments.{clock_max}
use Rattle.pressure.specs.Force.{zero32, ramp_at, ramp_most, vel_force}
use Rattle.text.specs.Numerals.{decimal_in}
use Rattle.text.specs.Spans.{bytes_in}
use Rattle.text.specs.declared.Span.{Span}

-- the bits of 1.0
abbrev pub one_bits : ℕ
one_bits = 0x3f80_0000

-- no force is below 0, or no number
abbrev pub bits_of : Float → ℕ
bits_of f = cond (le zero32 f) (to_bits binary32 f) 0xffff_ffff

unfoldable pub velocity_of : ℕ → ℕ
velocity_of vel = bits_of (vel_force vel)

abbrev pub force_of : ℕ → Float
force_of n = cond (leb n one_bits) (of_bits binary32 n) zero32

unfoldable pub ramp_of : ℕ → ℕ → ℕ → ℕ → ℕ → Option ℕ
ramp_of from to t0 dur now =
    cond (ltb one_bits from) None
    (cond (ltb one_bits to) None
    (cond (ltb clock_max t0) None
    (cond (ltb ramp_most dur) None
    (Some (bits_of (ramp_at (record { from = force_of from; to = force_of to; t0 = t0; dur = dur }) now))))))

-- `FROM TO T0 DUR NOW`
unfoldable pub ramp_in : List ℕ → Span → Option ℕ
ramp_in line w =
    option_and_then
    (λ from. option_and_then
    (λ to. option_and_then
    (λ p. ramp_of from to p.0 p.1 p.2)
    (three_in decimal_in decimal_in decimal_in line (behind line (behind line w))))
    (decimal_in (bytes_in line (behind line w))))
    (decimal_in (bytes_in line w))
