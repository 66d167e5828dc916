-- The board's record: a new one, when its next event comes, and when it is whole.
use Rattle.std.specs.Prelude.{ℕ, ◌-◌, min, Bool, cond, not, ◌&&◌, ◌||◌, List, [], ◌∷◌, eqb, leb, ltb, replicate}
use Rattle.base.specs.Bits.{is_set}
use Rattle.base.specs.Limits.{rate_min, rate_max}
use Rattle.base.specs.Moments.{never, is_clock, is_deadline, rearmed_of}
use Rattle.adc.specs.Adc.{adc_new}
use Rattle.audio.specs.Audio.{audio_new, audio_whole}
use Rattle.irq.specs.Latch.{latch_new}
use Rattle.irq.specs.declared.Pending.{Pending}
use Rattle.encoders.specs.Encoder.{enc_new, encs_next, encs_whole}
use Rattle.keys.specs.Keys.{keys_new, ramps_new, keys_whole, ramps_whole, up_to}
use Rattle.panel.specs.Pins.{pins_new, pins_whole}
use Rattle.script.specs.Script.{script_new, front_time, script_whole}
use Rattle.spi.specs.Spi.{spi_new, spi_next, spi_whole}
use Rattle.timers.specs.OsTick.{tick_new, tick_whole}
use Rattle.timers.specs.Timer.{tmr_new, tmr_of, tmrs_next, tmrs_whole}
use Rattle.timers.specs.Timer4.{t4_new, t4_whole}
use Rattle.timers.specs.Timer5.{t5_new}
use Rattle.uart.specs.Uart.{uart_new, uart_next, uart_whole}
use Rattle.state.specs.With.{with_frames, with_watchdog}
use Rattle.state.specs.declared.Board.{Board}
use Rattle.state.specs.declared.Chip.{Chip}
use Rattle.state.specs.declared.Clock.{Clock}
use Rattle.state.specs.declared.Host.{Host}
use Rattle.state.specs.declared.Panel.{Panel}

-- ---- a new board

abbrev pub clock_new : ℕ → Clock
clock_new hz = record {
  cycles = 0;
  next_due = 0;
  cycle_ticks = 1;
  room_cap = never;
  skipped = 0;
  in_isr = 0;
  hz = hz;
  skip_idle = 0;
}

abbrev pub host_new : Host
host_new = record { usb_next = never; usb_period = 0; wdt_at = never }

unfoldable pub chip_new : ℕ → Chip
chip_new hz = record {
  clock = clock_new hz;
  t4 = t4_new;
  t5 = t5_new;
  tmr = tmr_new ∷ tmr_new ∷ tmr_new ∷ tmr_new ∷ [];
  tick = tick_new;
  audio = audio_new;
  spi = spi_new;
  uart = uart_new;
  host = host_new;
  script = script_new;
  pins = pins_new;
  enc = enc_new ∷ enc_new ∷ enc_new ∷ enc_new ∷ enc_new ∷ enc_new ∷ enc_new ∷ enc_new ∷ [];
  keys = keys_new;
  adc = adc_new;
  latch = latch_new;
}

-- the battery (channel 3) is full, the MASTER pot (4) at 900
abbrev pub values_new : List ℕ
values_new =
    512 ∷ 512 ∷ 512 ∷ 640 ∷ 900 ∷ 512 ∷ 512 ∷ 512 ∷ 512 ∷ 512 ∷ 512 ∷ 512 ∷ 512 ∷ 512 ∷ 512 ∷ 512 ∷ []

unfoldable pub panel_new : Panel
panel_new = record { acc = replicate 41 0; ramps = ramps_new; values = values_new }

abbrev pub board_new : ℕ → Board
board_new hz = record { chip = chip_new hz; panel = panel_new }

-- ---- the next event: the least of all deadlines, the script's front, moving encoders

abbrev pub timers_next : Chip → ℕ
timers_next c = min (min c.t5.next c.tick.next) (tmrs_next c.tmr)

abbrev pub wires_next : Chip → ℕ
wires_next c = min (spi_next c.spi) (min c.audio.next (uart_next c.uart))

abbrev pub host_next : Chip → ℕ
host_next c = min c.host.usb_next c.host.wdt_at

abbrev pub front_next : Chip → ℕ
front_next c = min (encs_next c.enc) (front_time c.script)

unfoldable pub next_event : Chip → ℕ
next_event c = min (min (timers_next c) (wires_next c)) (min (host_next c) (front_next c))

-- ---- the host's events: a frame that is due is rearmed, the watchdog runs out once

abbrev pub usb_due : Host → ℕ → Bool
usb_due h now = leb h.usb_next now

unfoldable pub usb_at : Host → ℕ → Host
usb_at h now =
    cond (ltb now h.usb_next) h
    (with_frames h (rearmed_of h.usb_next now h.usb_period) h.usb_period)

abbrev pub wdt_due : Host → ℕ → Bool
wdt_due h now = leb h.wdt_at now

unfoldable pub wdt_at_of : Host → ℕ → Host
wdt_at_of h now = cond (ltb now h.wdt_at) h (with_watchdog h never)

-- ---- what pends, as the blocks keep it

abbrev on : ℕ → Bool
on flag = not (eqb flag 0)

unfoldable pub pending_of : Chip → Pending
pending_of c = record {
  ilat = c.latch.ilat;
  exc = on c.latch.exc_pending;
  t5 = on c.t5.pending;
  tick = on c.tick.pending;
  spi1 = on c.spi.spi1_pending;
  adc = on c.adc.irq;
  spi2 = on c.spi.spi2_pending;
  uart = on c.uart.irq;
  tmr0 = on (tmr_of c.tmr 0).pending;
  tmr1 = on (tmr_of c.tmr 1).pending;
  tmr2 = on (tmr_of c.tmr 2).pending;
  tmr3 = on (tmr_of c.tmr 3).pending;
  audio = is_set c.audio.pend 0xf0;
  audio_on = is_set c.audio.con0 0x800;
}

-- ---- "A record is whole when"

-- "rate and clock are in range"
abbrev pub is_rate : ℕ → Bool
is_rate hz = leb rate_min hz && leb hz rate_max

abbrev pub clock_whole : Clock → Bool
clock_whole c = is_rate c.hz && is_clock c.cycles

-- "the USB period is in range if armed"
abbrev pub host_whole : Host → Bool
host_whole h =
    is_deadline h.usb_next && is_deadline h.wdt_at && (eqb h.usb_next never || (leb 1 h.usb_period && is_clock h.usb_period))

unfoldable pub timers_whole : Chip → ℕ → Bool
timers_whole c now = t4_whole c.t4 now && is_deadline c.t5.next && tmrs_whole c.tmr now && tick_whole c.tick now

unfoldable pub wires_whole : Chip → Bool
wires_whole c = audio_whole c.audio && spi_whole c.spi && uart_whole c.uart && host_whole c.host

unfoldable pub front_whole : Chip → ℕ → Bool
front_whole c now = script_whole c.script && pins_whole c.pins now && encs_whole c.enc && keys_whole c.keys

-- "`next_due` is no later than the source's `next_event`"
unfoldable pub chip_whole : Chip → Bool
chip_whole c =
    clock_whole c.clock && timers_whole c c.clock.cycles && wires_whole c && front_whole c c.clock.cycles
    && leb c.clock.next_due (next_event c)

unfoldable pub panel_whole : Panel → ℕ → ℕ → ℕ → Bool
panel_whole p now hz most = ramps_whole p.ramps now hz && up_to most p.acc

-- "each LED's time plus the uncredited time is at most `led_last`"
unfoldable pub board_whole : Board → Bool
board_whole b =
    chip_whole b.chip
    && panel_whole b.panel b.chip.clock.cycles b.chip.clock.hz (b.chip.pins.led_last - b.chip.pins.led_pend)
