-- Times, each within 01's limits: by `times`' definitions.
use Rattle.std.specs.Prelude.{ℕ, ◌*◌, ◌/◌, ◌%◌, Bool, ◌&&◌, max, cond, leb, ltb, Option, Some, None}
use Rattle.base.specs.Limits.{spi_bytes_max, spi_baud_max, ms_max}
use Rattle.base.specs.Moments.{clock_max}
use Rattle.times.specs.Clocks.{cycles_of_mhz24, mhz6_of_cycles, cycles_of_mhz6, cycles_of_uart, ms_of_cycles, cycles_of_ms, byte_time, spi1_cycles, spi2_cycles, low64}
use Rattle.times.specs.Divider.{divider_of}

-- "0 to 65,536 bytes, baud 0 to 16,383"
abbrev pub is_transfer : ℕ → ℕ → Bool
is_transfer bytes baud = leb bytes spi_bytes_max && leb baud spi_baud_max

-- `spi1of`
unfoldable pub spi1_in : ℕ → ℕ → ℕ → Option ℕ
spi1_in bytes baud hz = cond (is_transfer bytes baud) (Some (spi1_cycles bytes baud hz)) None

-- `spi2of`
unfoldable pub spi2_in : ℕ → ℕ → ℕ → Option ℕ
spi2_in bytes baud hz = cond (is_transfer bytes baud) (Some (spi2_cycles bytes baud hz)) None

-- `t5count`: the longest period has room for every count below 2^32 - 1
unfoldable pub count_in : ℕ → ℕ → Option ℕ
count_in n hz = cond (ltb (cycles_of_mhz6 0xffff_ffff hz) n) None (Some (mhz6_of_cycles n hz % 0xffff_ffff))

-- `ms`, of a clock up to 2^53
unfoldable pub milliseconds_of : ℕ → ℕ → Option ℕ
milliseconds_of n hz = cond (ltb clock_max n) None (Some (low64 (ms_of_cycles n hz)))

-- `cycles`: "at most 2^34 ms"
unfoldable pub cycles_in : ℕ → ℕ → Option ℕ
cycles_in n hz = cond (ltb ms_max n) None (Some (low64 (cycles_of_ms n hz)))

-- `t5`: a period register of 0 counts as 1, and a period is at least a cycle
unfoldable pub period_of : ℕ → ℕ → ℕ
period_of n hz = max (cycles_of_mhz6 (max n 1) hz) 1

-- `count`
unfoldable pub count_of : ℕ → ℕ → Option ℕ
count_of n hz = cond (ltb 15 n) None (Some (cycles_of_mhz24 (divider_of n) hz))

-- `half`: two words a frame, 544 counts of 24 MHz a frame; a frame at least, and a cycle
unfoldable pub half_of : ℕ → ℕ → ℕ
half_of n hz = max (cycles_of_mhz24 (max n 2 / 2 * 544) hz) 1

-- `timeout`: no shorter than a byte
unfoldable pub timeout_of : ℕ → ℕ → ℕ
timeout_of n hz = max (cycles_of_uart n hz) (byte_time hz)
