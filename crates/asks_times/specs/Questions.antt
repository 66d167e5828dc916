-- Questions of numbers, by their names; the rate is the last number.
use Rattle.std.specs.Prelude.{ℕ, cond, List, [], ◌∷◌, eqb, Option, Some, None}
use Rattle.std.specs.Option.{option_map, option_and_then}
use Prim.Native.String.{String}
use Rattle.line_ask.specs.Numbers.{u32_of, u16_of, u8_of, one_in, two_in, three_in}
use Rattle.text.specs.Tables.{named}
use Rattle.line_ask.specs.WordsIn.{behind}
use Rattle.text.specs.Numerals.{decimal_in}
use Rattle.text.specs.Spans.{bytes_in}
use Rattle.text.specs.declared.Span.{Span}
use Rattle.times.specs.Clocks.{mhz24_of_cycles, byte_time, ramp_cycles}
use Rattle.times.specs.Watchdog.{wdt_ms}
use Rattle.times.specs.Wide.{mul_div}
use Rattle.times.specs.declared.RampTime.TheVariants.{Press, Release, Pressure}
use Rattle.asks_times.specs.Conversions.{spi1_in, spi2_in, count_in, milliseconds_of, cycles_in, period_of, count_of, half_of, timeout_of}
use Rattle.asks_times.specs.Forces.{velocity_of}
use Rattle.asks_times.specs.Rates.{rate_of}
use Rattle.asks_times.specs.declared.Question.{Question}
use Rattle.asks_times.specs.declared.Question.TheVariants as q

abbrev pub question_names : List (String × Question)
question_names =
    ("muldiv", q.MulDiv) ∷ ("wdt", q.Watchdog) ∷ ("velocity", q.Velocity) ∷ ("byte", q.Byte) ∷ ("press", q.Press)
    ∷ ("release", q.Release) ∷ ("pressure", q.Pressure) ∷ ("spi1of", q.Spi1) ∷ ("spi2of", q.Spi2) ∷ ("t4", q.Timer4)
    ∷ ("t5count", q.Timer5Count) ∷ ("ms", q.Ms) ∷ ("cycles", q.Cycles) ∷ ("t5", q.Timer5) ∷ ("count", q.Count)
    ∷ ("half", q.Half) ∷ ("timeout", q.Timeout) ∷ []

unfoldable pub question_named : List ℕ → Option Question
question_named = named question_names

-- the low 32 bits of a * b / c
unfoldable pub mul_div_of : ℕ → ℕ → ℕ → Option ℕ
mul_div_of a b c = cond (eqb c 0) None (Some (mul_div a b c))

-- a question's numbers
unfoldable pub number_of : Question → List ℕ → Span → Option ℕ
number_of q.MulDiv line w = option_and_then (λ p. mul_div_of p.0 p.1 p.2) (three_in decimal_in decimal_in decimal_in line w)
number_of q.Watchdog line w = option_map wdt_ms (one_in u8_of line w)
number_of q.Velocity line w = option_map velocity_of (one_in u8_of line w)
number_of q.Byte line w = option_map (λ r. byte_time r.0) (one_in rate_of line w)
number_of q.Press line w = option_map (λ r. ramp_cycles Press r.0) (one_in rate_of line w)
number_of q.Release line w = option_map (λ r. ramp_cycles Release r.0) (one_in rate_of line w)
number_of q.Pressure line w = option_map (λ r. ramp_cycles Pressure r.0) (one_in rate_of line w)
number_of q.Spi1 line w = option_and_then (λ p. spi1_in p.0 p.1 p.2.0) (three_in u32_of u32_of rate_of line w)
number_of q.Spi2 line w = option_and_then (λ p. spi2_in p.0 p.1 p.2.0) (three_in u32_of u32_of rate_of line w)
number_of q.Timer4 line w = option_map (λ p. mhz24_of_cycles p.0 p.1.0) (two_in decimal_in rate_of line w)
number_of q.Timer5Count line w = option_and_then (λ p. count_in p.0 p.1.0) (two_in decimal_in rate_of line w)
number_of q.Ms line w = option_and_then (λ p. milliseconds_of p.0 p.1.0) (two_in decimal_in rate_of line w)
number_of q.Cycles line w = option_and_then (λ p. cycles_in p.0 p.1.0) (two_in decimal_in rate_of line w)
number_of q.Timer5 line w = option_map (λ p. period_of p.0 p.1.0) (two_in u32_of rate_of line w)
number_of q.Count line w = option_and_then (λ p. count_of p.0 p.1.0) (two_in u32_of rate_of line w)
number_of q.Half line w = option_map (λ p. half_of p.0 p.1.0) (two_in u16_of rate_of line w)
number_of q.Timeout line w = option_map (λ p. timeout_of p.0 p.1.0) (two_in u32_of rate_of line w)

unfoldable pub reckoned_in : List ℕ → Span → Option ℕ
reckoned_in line w = option_and_then (λ q. number_of q line (behind line w)) (question_named (bytes_in line w))
