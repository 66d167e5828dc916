-- Document 01's ranges of what a call is given. The clock's end, 2^53, stands with the moments, 2^62 with the refusals.
use Rattle.std.specs.Prelude.{ℕ, ◌^◌}

-- "Clock rate 1,000,000 to 800,000,000 Hz."
abbrev pub rate_min : ℕ
rate_min = 1_000_000

abbrev pub rate_max : ℕ
rate_max = 800_000_000

-- "SPI: 0 to 65,536 bytes, baud 0 to 16,383."
abbrev pub spi_bytes_max : ℕ
spi_bytes_max = 65_536

abbrev pub spi_baud_max : ℕ
spi_baud_max = 16_383

-- "Milliseconds to cycles: at most 2^34 ms."
abbrev pub ms_max : ℕ
ms_max = 2 ^ 34
