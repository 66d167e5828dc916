-- A chip with one block replaced, and a clock that moved.
use Rattle.std.specs.Prelude.{ℕ, List}
use Rattle.adc.specs.declared.Adc.{Adc}
use Rattle.audio.specs.declared.Audio.{Audio}
use Rattle.irq.specs.declared.Latch.{Latch}
use Rattle.encoders.specs.declared.Enc.{Enc}
use Rattle.keys.specs.declared.Keys.{Keys}
use Rattle.panel.specs.declared.pins.Pins.{Pins}
use Rattle.script.specs.declared.Script.{Script}
use Rattle.spi.specs.declared.Spi.{Spi}
use Rattle.timers.specs.declared.os_tick.Tick.{Tick}
use Rattle.timers.specs.declared.timer.Tmr.{Tmr}
use Rattle.timers.specs.declared.timer4.T4.{T4}
use Rattle.timers.specs.declared.timer5.T5.{T5}
use Rattle.uart.specs.declared.Uart.{Uart}
use Rattle.state.specs.declared.Board.{Board}
use Rattle.state.specs.declared.Chip.{Chip}
use Rattle.state.specs.declared.Clock.{Clock}
use Rattle.state.specs.declared.Host.{Host}

abbrev pub with_clock : Chip → Clock → Chip
with_clock c x = record { clock = x; t4 = c.t4; t5 = c.t5; tmr = c.tmr; tick = c.tick; audio = c.audio; spi = c.spi; uart = c.uart; host = c.host; script = c.script; pins = c.pins; enc = c.enc; keys = c.keys; adc = c.adc; latch = c.latch }

abbrev pub with_t4 : Chip → T4 → Chip
with_t4 c x = record { clock = c.clock; t4 = x; t5 = c.t5; tmr = c.tmr; tick = c.tick; audio = c.audio; spi = c.spi; uart = c.uart; host = c.host; script = c.script; pins = c.pins; enc = c.enc; keys = c.keys; adc = c.adc; latch = c.latch }

abbrev pub with_t5 : Chip → T5 → Chip
with_t5 c x = record { clock = c.clock; t4 = c.t4; t5 = x; tmr = c.tmr; tick = c.tick; audio = c.audio; spi = c.spi; uart = c.uart; host = c.host; script = c.script; pins = c.pins; enc = c.enc; keys = c.keys; adc = c.adc; latch = c.latch }

abbrev pub with_tmr : Chip → List Tmr → Chip
with_tmr c x = record { clock = c.clock; t4 = c.t4; t5 = c.t5; tmr = x; tick = c.tick; audio = c.audio; spi = c.spi; uart = c.uart; host = c.host; script = c.script; pins = c.pins; enc = c.enc; keys = c.keys; adc = c.adc; latch = c.latch }

abbrev pub with_tick : Chip → Tick → Chip
with_tick c x = record { clock = c.clock; t4 = c.t4; t5 = c.t5; tmr = c.tmr; tick = x; audio = c.audio; spi = c.spi; uart = c.uart; host = c.host; script = c.script; pins = c.pins; enc = c.enc; keys = c.keys; adc = c.adc; latch = c.latch }

abbrev pub with_audio : Chip → Audio → Chip
with_audio c x = record { clock = c.clock; t4 = c.t4; t5 = c.t5; tmr = c.tmr; tick = c.tick; audio = x; spi = c.spi; uart = c.uart; host = c.host; script = c.script; pins = c.pins; enc = c.enc; keys = c.keys; adc = c.adc; latch = c.latch }

abbrev pub with_spi : Chip → Spi → Chip
with_spi c x = record { clock = c.clock; t4 = c.t4; t5 = c.t5; tmr = c.tmr; tick = c.tick; audio = c.audio; spi = x; uart = c.uart; host = c.host; script = c.script; pins = c.pins; enc = c.enc; keys = c.keys; adc = c.adc; latch = c.latch }

abbrev pub with_uart : Chip → Uart → Chip
with_uart c x = record { clock = c.clock; t4 = c.t4; t5 = c.t5; tmr = c.tmr; tick = c.tick; audio = c.audio; spi = c.spi; uart = x; host = c.host; script = c.script; pins = c.pins; enc = c.enc; keys = c.keys; adc = c.adc; latch = c.latch }

abbrev pub with_host : Chip → Host → Chip
with_host c x = record { clock = c.clock; t4 = c.t4; t5 = c.t5; tmr = c.tmr; tick = c.tick; audio = c.audio; spi = c.spi; uart = c.uart; host = x; script = c.script; pins = c.pins; enc = c.enc; keys = c.keys; adc = c.adc; latch = c.latch }

abbrev pub with_script : Chip → Script → Chip
with_script c x = record { clock = c.clock; t4 = c.t4; t5 = c.t5; tmr = c.tmr; tick = c.tick; audio = c.audio; spi = c.spi; uart = c.uart; host = c.host; script = x; pins = c.pins; enc = c.enc; keys = c.keys; adc = c.adc; latch = c.latch }

abbrev pub with_pins : Chip → Pins → Chip
with_pins c x = record { clock = c.clock; t4 = c.t4; t5 = c.t5; tmr = c.tmr; tick = c.tick; audio = c.audio; spi = c.spi; uart = c.uart; host = c.host; script = c.script; pins = x; enc = c.enc; keys = c.keys; adc = c.adc; latch = c.latch }

abbrev pub with_enc : Chip → List Enc → Chip
with_enc c x = record { clock = c.clock; t4 = c.t4; t5 = c.t5; tmr = c.tmr; tick = c.tick; audio = c.audio; spi = c.spi; uart = c.uart; host = c.host; script = c.script; pins = c.pins; enc = x; keys = c.keys; adc = c.adc; latch = c.latch }

abbrev pub with_keys : Chip → Keys → Chip
with_keys c x = record { clock = c.clock; t4 = c.t4; t5 = c.t5; tmr = c.tmr; tick = c.tick; audio = c.audio; spi = c.spi; uart = c.uart; host = c.host; script = c.script; pins = c.pins; enc = c.enc; keys = x; adc = c.adc; latch = c.latch }

abbrev pub with_adc : Chip → Adc → Chip
with_adc c x = record { clock = c.clock; t4 = c.t4; t5 = c.t5; tmr = c.tmr; tick = c.tick; audio = c.audio; spi = c.spi; uart = c.uart; host = c.host; script = c.script; pins = c.pins; enc = c.enc; keys = c.keys; adc = x; latch = c.latch }

abbrev pub with_latch : Chip → Latch → Chip
with_latch c x = record { clock = c.clock; t4 = c.t4; t5 = c.t5; tmr = c.tmr; tick = c.tick; audio = c.audio; spi = c.spi; uart = c.uart; host = c.host; script = c.script; pins = c.pins; enc = c.enc; keys = c.keys; adc = c.adc; latch = x }

-- The clock with these fields: whatever changes some of them goes by this, so that a field more is written here, in `clock_new`, and where it changes.
abbrev pub clock_by : Clock → ℕ → ℕ → ℕ → ℕ → ℕ → ℕ → ℕ → Clock
clock_by k cycles due ticks cap skipped isr skip = record {
  cycles = cycles;
  next_due = due;
  cycle_ticks = ticks;
  room_cap = cap;
  skipped = skipped;
  in_isr = isr;
  hz = k.hz;
  skip_idle = skip;
}

-- the clock at other cycles, with other words on what is due and on what was jumped over; the runner's settings stay
abbrev pub clock_at : Clock → ℕ → ℕ → ℕ → Clock
clock_at k cycles due skipped = clock_by k cycles due k.cycle_ticks k.room_cap skipped k.in_isr k.skip_idle

-- the clock with other settings
abbrev pub set_clock : Clock → ℕ → ℕ → ℕ → ℕ → Clock
set_clock k ticks cap isr skip = clock_by k k.cycles k.next_due ticks cap k.skipped isr skip

-- the host's frames, when the next comes and how far apart they are; its watchdog
abbrev pub with_frames : Host → ℕ → ℕ → Host
with_frames h next period = record { usb_next = next; usb_period = period; wdt_at = h.wdt_at }

abbrev pub with_watchdog : Host → ℕ → Host
with_watchdog h at = record { usb_next = h.usb_next; usb_period = h.usb_period; wdt_at = at }

abbrev pub moved_to : Chip → ℕ → Chip
moved_to c cycles = with_clock c (clock_at c.clock cycles c.clock.next_due c.clock.skipped)

abbrev pub due_at : Chip → ℕ → Chip
due_at c due = with_clock c (clock_at c.clock c.clock.cycles due c.clock.skipped)

-- "sets `next_due` to 0": the next step looks at everything
abbrev pub due_now : Chip → Chip
due_now c = due_at c 0

abbrev pub with_chip : Board → Chip → Board
with_chip b c = record { chip = c; panel = b.panel }
