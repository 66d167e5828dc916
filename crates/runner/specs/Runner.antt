-- What the runner asks of a chip between steps.
use Rattle.std.specs.Prelude.{ℕ, ◌+◌, ◌-◌, ◌%◌, ◌^◌, min, Bool, cond, ◌||◌, replicate, ◌==◌, nat_le, nat_lt}
use Rattle.base.specs.Bits.{unless_of}
use Rattle.base.specs.Moments.{never}
use Rattle.irq.specs.Latch.{with_exception}
use Rattle.irq.specs.Sources.{any_pending_of}
use Rattle.panel.specs.Led.{taken_of}
use Rattle.panel.specs.Map.{fm1_map}
use Rattle.panel.specs.Pins.{byte_shifted}
use Rattle.panel.specs.declared.led.Taken.{Taken}
use Rattle.spi.specs.Spi.{spi1_started, spi1_off, spi2_started, spi2_with}
use Rattle.times.specs.Clocks.{ms_of_cycles, cycles_of_ms}
use Rattle.state.specs.State.{next_event, pending_of}
use Rattle.state.specs.With.{with_clock, with_spi, with_host, with_pins, with_latch, clock_at, set_clock, with_frames, with_watchdog, moved_to, due_at, due_now}
use Rattle.state.specs.declared.Board.{Board}
use Rattle.state.specs.declared.Chip.{Chip}
use Rattle.runner.specs.declared.Light.{Light}

-- ---- ticks

abbrev pub ticked_of : Chip → Chip
ticked_of c = moved_to c (c.clock.cycles + 1)

-- "cycles >= next_due"
abbrev pub is_due : Chip → Bool
is_due c = nat_le c.clock.next_due c.clock.cycles

-- "Ticks that can pass before one is due", as far as the cap
abbrev pub room_of : Chip → ℕ
room_of c = min (c.clock.next_due - (c.clock.cycles + 1)) c.clock.room_cap

abbrev pub next_due_of : Chip → Bool
next_due_of c = nat_le c.clock.next_due (c.clock.cycles + 1)

-- ---- idle time

-- "with `skip_idle` and nothing pending, time jumps to just before the next event"
unfoldable pub idle_end : Chip → ℕ
idle_end c =
    cond (c.clock.skip_idle == 0 || any_pending_of (pending_of c)) now
    (cond (event == never) now (cond (nat_lt (now + 1) event) (event - 1) now))
  where
    now : ℕ
    now = c.clock.cycles

    event : ℕ
    event = next_event c

-- the clock at an end: what it jumped over is counted, and a jump makes everything due
unfoldable pub jump_to : Chip → ℕ → Chip
jump_to c end =
    with_clock c
    (clock_at c.clock end (unless_of (nat_lt c.clock.cycles end) c.clock.next_due) ((c.clock.skipped + (end - c.clock.cycles)) % 2 ^ 64))

unfoldable pub idled_of : Chip → Chip
idled_of c = jump_to c (idle_end c)

-- ---- SPI and the shift register

unfoldable pub spi1_of : Chip → ℕ → ℕ → Bool → Chip
spi1_of c bytes baud irq =
    with_spi (due_at c (unless_of irq c.clock.next_due)) (spi1_started c.spi bytes baud irq c.clock.cycles c.clock.hz)

unfoldable pub spi1_off_of : Chip → Chip
spi1_off_of c = with_spi c (spi1_off c.spi)

unfoldable pub spi2_of : Chip → ℕ → ℕ → Bool → Chip
spi2_of c bytes baud irq = with_spi (due_now c) (spi2_started c.spi bytes baud irq c.clock.cycles c.clock.hz)

unfoldable pub shifted_of : Chip → ℕ → Chip
shifted_of c b = with_pins c (byte_shifted c.pins b)

-- ---- times

abbrev pub ms_of : Chip → ℕ
ms_of c = ms_of_cycles c.clock.cycles c.clock.hz

abbrev pub cycles_of : Chip → ℕ → ℕ
cycles_of c ms = cycles_of_ms ms c.clock.hz

-- ---- LEDs: "two whole numbers, lit cycles and span"; every LED begins again at 0

unfoldable pub light_of : Board → Light
light_of b = record {
  board = record {
    chip = with_pins b.chip t.pins;
    panel = record { acc = replicate 41 0; ramps = b.panel.ramps; values = b.panel.values };
  };
  lit = t.lit;
  span = t.span;
}
  where
    t : Taken
    t = taken_of fm1_map b.chip.pins b.chip.clock.cycles b.panel.acc

-- ---- settings: those of a deadline set `next_due` to 0, "the other setters leave it"

abbrev pub flag_of : Bool → ℕ
flag_of on = cond on 1 0

abbrev pub with_ticks : Chip → ℕ → Chip
with_ticks c ticks = with_clock c (set_clock c.clock ticks c.clock.room_cap c.clock.in_isr c.clock.skip_idle)

unfoldable pub with_skip : Chip → Bool → Chip
with_skip c on = with_clock c (set_clock c.clock c.clock.cycle_ticks c.clock.room_cap c.clock.in_isr (flag_of on))

unfoldable pub with_isr : Chip → Bool → Chip
with_isr c on = with_clock c (set_clock c.clock c.clock.cycle_ticks c.clock.room_cap (flag_of on) c.clock.skip_idle)

abbrev pub with_cap : Chip → ℕ → Chip
with_cap c cap = with_clock c (set_clock c.clock c.clock.cycle_ticks cap c.clock.in_isr c.clock.skip_idle)

unfoldable pub with_exc : Chip → Bool → Chip
with_exc c on = with_latch c (with_exception c.latch (flag_of on))

unfoldable pub with_spi2 : Chip → Bool → Chip
with_spi2 c on = with_spi c (spi2_with c.spi c.spi.spi2_next (flag_of on))

abbrev pub with_usb : Chip → ℕ → ℕ → Chip
with_usb c at period = with_host (due_now c) (with_frames c.host at period)

abbrev pub with_wdt : Chip → ℕ → Chip
with_wdt c at = with_host (due_now c) (with_watchdog c.host at)
