-- "Clock rate 1,000,000 to 800,000,000 Hz", a number of 32 bits.
use Rattle.std.specs.Prelude.{ℕ, cond, List, ltb, Option, Some, None}
use Rattle.std.specs.Option.{option_and_then}
use Rattle.base.specs.Limits.{rate_min, rate_max}
use Rattle.line_ask.specs.Numbers.{u32_of}
use Rattle.asks_times.specs.declared.rate.Rate.{Rate}

unfoldable pub rate_in : ℕ → Option Rate
rate_in hz = cond (ltb hz rate_min) None (cond (ltb rate_max hz) None (Some (record { 0 = hz })))

abbrev pub rate_of : List ℕ → Option Rate
rate_of word = option_and_then rate_in (u32_of word)
