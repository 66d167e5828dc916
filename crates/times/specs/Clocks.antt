-- The conversions that the source uses, as 01 and the source write them. Quotients floor; by 0 they are 0.
use Rattle.std.specs.Prelude.{ℕ, ◌+◌, ◌*◌, ◌/◌, ◌%◌, ◌^◌, max}
use Rattle.times.specs.declared.RampTime.{RampTime}
use Rattle.times.specs.declared.RampTime.TheVariants.{Press, Release, Pressure}
use Rattle.times.specs.Wide.{mul_div}

-- the clocks' rates in Hz: the crystal, the crystal by four, the UART's
abbrev pub t4_hz : ℕ
t4_hz = 24_000_000

abbrev pub t5_hz : ℕ
t5_hz = 6_000_000

abbrev pub uart_hz : ℕ
uart_hz = 48_000_000

-- MIDI 1.0: 31,250 baud, ten bits a byte (start, eight data, stop)
abbrev pub midi_baud : ℕ
midi_baud = 31_250

abbrev pub midi_byte_bits : ℕ
midi_byte_bits = 10

-- TIMER4's count: mul_div(cycles, T4_HZ, hz)
abbrev pub mhz24_of_cycles : ℕ → ℕ → ℕ
mhz24_of_cycles c hz = mul_div c t4_hz hz

abbrev pub cycles_of_mhz24 : ℕ → ℕ → ℕ
cycles_of_mhz24 n hz = n * hz / t4_hz

abbrev pub mhz6_of_cycles : ℕ → ℕ → ℕ
mhz6_of_cycles c hz = mul_div c t5_hz hz

abbrev pub cycles_of_mhz6 : ℕ → ℕ → ℕ
cycles_of_mhz6 n hz = n * hz / t5_hz

abbrev pub cycles_of_uart : ℕ → ℕ → ℕ
cycles_of_uart n hz = n * hz / uart_hz

abbrev pub ms_of_cycles : ℕ → ℕ → ℕ
ms_of_cycles c hz = c * 1000 / hz

abbrev pub cycles_of_ms : ℕ → ℕ → ℕ
cycles_of_ms ms hz = ms * hz / 1000

abbrev pub low64 : ℕ → ℕ
low64 n = n % 2 ^ 64

-- "Byte time = rate·10/31,250", and at least a cycle
abbrev pub byte_time : ℕ → ℕ
byte_time hz = max (hz * midi_byte_bits / midi_baud) 1

-- "`ms_cycles` is exactly 3·rate/2000, rate/125, rate/50 for 1.5, 8, 20 ms"
abbrev pub ramp_cycles : RampTime → ℕ → ℕ
ramp_cycles Press hz = hz * 3 / 2000
ramp_cycles Release hz = hz / 125
ramp_cycles Pressure hz = hz / 50

-- SPI1: 60 MHz / (baud + 1), itself floored, 8 bits a byte
abbrev pub spi1_cycles : ℕ → ℕ → ℕ → ℕ
spi1_cycles bytes baud hz = max (max bytes 1 * 8 * hz / (60_000_000 / (baud + 1))) 1

-- SPI2: 16 * (baud + 1) clocks of 48 MHz a byte
abbrev pub spi2_cycles : ℕ → ℕ → ℕ → ℕ
spi2_cycles bytes baud hz = max (max bytes 1 * 16 * (baud + 1) * hz / 48_000_000) 1
