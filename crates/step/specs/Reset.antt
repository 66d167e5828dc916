-- A chip reset, field by field: what stays, and all else as at power-on.
use Rattle.std.specs.Prelude.{ℕ, List, [], ◌∷◌, map}
use Rattle.adc.specs.Adc.{adc_new}
use Rattle.audio.specs.Audio.{audio_new, playing}
use Rattle.audio.specs.declared.Audio.{Audio}
use Rattle.base.specs.Moments.{never}
use Rattle.irq.specs.Latch.{latch_new}
use Rattle.panel.specs.Pins.{pins_reset}
use Rattle.spi.specs.Spi.{spi_new, spi1_with}
use Rattle.spi.specs.declared.Spi.{Spi}
use Rattle.state.specs.With.{with_chip, clock_at, set_clock, with_watchdog}
use Rattle.state.specs.declared.Board.{Board}
use Rattle.state.specs.declared.Chip.{Chip}
use Rattle.state.specs.declared.Clock.{Clock}
use Rattle.state.specs.declared.Host.{Host}
use Rattle.timers.specs.OsTick.{tick_new}
use Rattle.timers.specs.Timer.{tmr_new}
use Rattle.timers.specs.Timer4.{t4_new}
use Rattle.timers.specs.Timer5.{t5_new}
use Rattle.uart.specs.Uart.{chip_reset_of as uart_reset}

-- "the clock and the runner's settings", but not `in_isr`; the next step looks at everything
abbrev pub clock_reset : Clock → Clock
clock_reset k = clock_at (set_clock k k.cycle_ticks k.room_cap 0 k.skip_idle) k.cycles 0 k.skipped

-- the count of halves played stays
abbrev pub audio_reset : Audio → Audio
audio_reset a = playing audio_new never a.halves 0 0 0

-- "the LCD's time on the wire so far"
abbrev pub spi_reset : Spi → Spi
spi_reset s = spi1_with spi_new 0 never s.spi1_wire 0

-- "a USB cable (its frames)"
abbrev pub host_reset : Host → Host
host_reset h = with_watchdog h never

unfoldable pub kept : Chip → Chip
kept c = record {
  clock = clock_reset c.clock;
  t4 = t4_new;
  t5 = t5_new;
  tmr = tmr_new ∷ tmr_new ∷ tmr_new ∷ tmr_new ∷ [];
  tick = tick_new;
  audio = audio_reset c.audio;
  spi = spi_reset c.spi;
  uart = uart_reset c.uart;
  host = host_reset c.host;
  script = c.script;
  pins = pins_reset c.pins;
  enc = c.enc;
  keys = c.keys;
  adc = adc_new;
  latch = latch_new;
}

-- the panel is outside the chip
unfoldable pub chip_reset_of : Board → Board
chip_reset_of b = with_chip b (kept b.chip)

-- "both banks": 32 words each of nothing enabled
abbrev pub zeroed : List ℕ → List ℕ
zeroed bank = map (λ (w : ℕ). 0) bank
