-- A step's stages at the moment that the clock shows, a line a stage, in 01's order; the script's turn comes after them.
use Rattle.std.specs.Prelude.{ℕ, false, List, None}
use Rattle.audio.specs.Audio.{audio_at}
use Rattle.encoders.specs.Encoder.{encs_at}
use Rattle.spi.specs.Spi.{spi1_at, spi2_at}
use Rattle.state.specs.State.{usb_at, usb_due, wdt_at_of, wdt_due}
use Rattle.state.specs.With.{with_t5, with_tmr, with_tick, with_audio, with_spi, with_uart, with_host, with_enc}
use Rattle.state.specs.declared.Chip.{Chip}
use Rattle.timers.specs.OsTick.{tick_at}
use Rattle.timers.specs.Timer.{tmrs_at}
use Rattle.timers.specs.Timer5.{t5_at}
use Rattle.uart.specs.Uart.{receive_at, timeout_at}
use Rattle.step.specs.declared.stages.Served.{Served}

abbrev pub now_of : Chip → ℕ
now_of c = c.clock.cycles

abbrev pub hz_of : Chip → ℕ
hz_of c = c.clock.hz

abbrev pub timer5 : Chip → Chip
timer5 c = with_t5 c (t5_at c.t5 (now_of c) (hz_of c))

abbrev pub spi2 : Chip → Chip
spi2 c = with_spi c (spi2_at c.spi (now_of c))

abbrev pub spi1 : Chip → Chip
spi1 c = with_spi c (spi1_at c.spi (now_of c))

abbrev pub four_timers : Chip → Chip
four_timers c = with_tmr c (tmrs_at c.tmr (now_of c) (hz_of c))

abbrev pub os_tick : Chip → Chip
os_tick c = with_tick c (tick_at c.tick (now_of c) (hz_of c))

abbrev pub audio_part : Chip → Chip
audio_part c = with_audio c (audio_at c.audio (now_of c) (hz_of c)).audio

abbrev pub byte : Chip → List ℕ → Chip
byte c queue = with_uart c (receive_at c.uart queue (now_of c) (hz_of c)).uart

abbrev pub usb : Chip → Chip
usb c = with_host c (usb_at c.host (now_of c))

abbrev pub watchdog : Chip → Chip
watchdog c = with_host c (wdt_at_of c.host (now_of c))

abbrev pub timeout : Chip → Chip
timeout c = with_uart c (timeout_at c.uart (now_of c))

abbrev pub encoders : Chip → Chip
encoders c = with_enc c (encs_at c.enc (now_of c) (hz_of c))

-- "Step order: TIMER5, SPI2, SPI1, timers, tick, audio, byte, USB, watchdog, timeout, encoders, script."
unfoldable pub first_stages : Chip → Chip
first_stages c = os_tick (four_timers (spi1 (spi2 (timer5 c))))

unfoldable pub last_stages : Chip → Chip
last_stages c = encoders (timeout (watchdog (usb c)))

-- the chip after them, and what they hand out: a half where one has finished, a byte where one has arrived and is received, a frame, the watchdog
unfoldable pub served_of : Chip → List ℕ → Served
served_of c queue = record {
  chip = last_stages (byte (audio_part (first_stages c)) queue);
  audio_half = (audio_at c.audio (now_of c) (hz_of c)).half;
  uart_rx = (receive_at c.uart queue (now_of c) (hz_of c)).byte;
  usb_frame = usb_due c.host (now_of c);
  wdt = wdt_due c.host (now_of c);
}

-- a step that finds nothing due
abbrev pub nothing_due : Chip → Served
nothing_due c = record { chip = c; audio_half = None; uart_rx = None; usb_frame = false; wdt = false }
