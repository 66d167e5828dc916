-- Rows of numbers, 48 of 41 places, and the record that is made of them.
use Rattle.std.specs.Prelude.{ℕ, ◌%◌, ◌^◌, cond, List, [], ◌∷◌, map, ltb, Float, Option, get_or, set, replicate}
use Rattle.std.specs.Float.{binary32}
use Rattle.std.specs.Float.Ieee.{of_bits}
use Rattle.audio.specs.Audio.{playing, with_registers}
use Rattle.audio.specs.declared.Audio.{Audio}
use Rattle.encoders.specs.declared.Enc.{Enc}
use Rattle.irq.specs.Latch.{with_exception}
use Rattle.keys.specs.Keys.{ramps_of}
use Rattle.keys.specs.declared.Keys.{Keys}
use Rattle.panel.specs.Pins.{with_time, taken}
use Rattle.panel.specs.declared.pins.Pins.{Pins}
use Prim.Native.String.{String}
use Rattle.text.specs.Tables.{named}
use Rattle.script.specs.declared.Script.{Script}
use Rattle.spi.specs.Spi.{spi1_with, spi2_with}
use Rattle.spi.specs.declared.Spi.{Spi}
use Rattle.state.specs.State.{chip_new, panel_new}
use Rattle.state.specs.With.{clock_by, with_frames, with_watchdog}
use Rattle.state.specs.declared.Board.{Board}
use Rattle.state.specs.declared.Chip.{Chip}
use Rattle.state.specs.declared.Clock.{Clock}
use Rattle.state.specs.declared.Host.{Host}
use Rattle.state.specs.declared.Panel.{Panel}
use Rattle.timers.specs.OsTick.{tick_counting}
use Rattle.timers.specs.Timer.{tmr_new}
use Rattle.timers.specs.Timer4.{t4_after, t4_counting}
use Rattle.timers.specs.Timer5.{t5_with}
use Rattle.timers.specs.declared.os_tick.Tick.{Tick}
use Rattle.timers.specs.declared.timer.Tmr.{Tmr}
use Rattle.timers.specs.declared.timer4.T4.{T4}
use Rattle.timers.specs.declared.timer5.T5.{T5}
use Rattle.uart.specs.Uart.{uart_by}
use Rattle.uart.specs.declared.Uart.{Uart}

-- ---- the rows

-- the fields, each with the number of its row
abbrev pub fields : List (String × ℕ)
fields =
    ("hz", 0) ∷ ("cycles", 1) ∷ ("next_due", 2) ∷ ("skipped", 3) ∷ ("skip_idle", 4) ∷ ("in_isr", 5) ∷ ("t4.con", 6)
    ∷ ("t4.base", 7) ∷ ("t4.last_cnt_read", 8) ∷ ("t4.cnt_streak", 9) ∷ ("t5.next", 10) ∷ ("tmr.start", 11)
    ∷ ("tmr.next", 12) ∷ ("tick.start", 13) ∷ ("tick.next", 14) ∷ ("audio.next", 15) ∷ ("audio.half", 16)
    ∷ ("audio.len", 17) ∷ ("spi1_done_at", 18) ∷ ("spi1_irq_at", 19) ∷ ("spi1_wire", 20) ∷ ("spi2_next", 21)
    ∷ ("uart.next", 22) ∷ ("uart.ot_next", 23) ∷ ("uart.dropped", 24) ∷ ("uart.wr", 25) ∷ ("uart.rxcnt", 26)
    ∷ ("uart.place", 27) ∷ ("uart.count", 28) ∷ ("usb_next", 29) ∷ ("usb_period", 30) ∷ ("wdt_at", 31)
    ∷ ("script.at", 32) ∷ ("script.place", 33) ∷ ("script.count", 34) ∷ ("led_last", 35) ∷ ("led_since", 36)
    ∷ ("led_pend", 37) ∷ ("enc.next", 38) ∷ ("enc.pending", 39) ∷ ("enc.state", 40) ∷ ("keys.vel", 41)
    ∷ ("exc_pending", 42) ∷ ("ramps.t0", 43) ∷ ("ramps.dur", 44) ∷ ("ramps.from", 45) ∷ ("ramps.to", 46) ∷ ("acc", 47) ∷ []

-- the number of a field's row
unfoldable pub row_of : List ℕ → Option ℕ
row_of = named fields

abbrev pub row : List (List ℕ) → ℕ → List ℕ
row rows k = get_or rows k []

-- one number in all of a row's places; nothing where there is no such row
abbrev pub filled : List (List ℕ) → ℕ → ℕ → List (List ℕ)
filled rows k v = cond (ltb k 48) (set rows k (replicate 41 v)) rows

-- at one of them
abbrev pub placed : List (List ℕ) → ℕ → ℕ → ℕ → List (List ℕ)
placed rows k i v = cond (ltb k 48) (cond (ltb i 41) (set rows k (set (row rows k) i v)) rows) rows

-- ---- blocks of which the chip has several

abbrev pub low : ℕ → ℕ
low v = v % 2 ^ 32

abbrev pub tmr_made : ℕ → ℕ → Tmr
tmr_made start next = record { start = start; next = next; con = tmr_new.con; prd = tmr_new.prd; cnt0 = tmr_new.cnt0; pending = tmr_new.pending }

abbrev pub enc_made : ℕ → ℕ → ℕ → Enc
enc_made next pending state = record { next = next; pending = low pending; state = low state }

-- ---- the record: a block with its rows, each field in the place that `fields` gives it, all else as the block had it

-- a row's number at a place, and at its front
abbrev pub cell : List (List ℕ) → ℕ → ℕ → ℕ
cell rows k i = get_or (row rows k) i 0

abbrev pub front : List (List ℕ) → ℕ → ℕ
front rows k = cell rows k 0

abbrev pub clock_from : Clock → List (List ℕ) → Clock
clock_from k rows = clock_by k (front rows 1) (front rows 2) k.cycle_ticks k.room_cap (front rows 3) (front rows 5) (low (front rows 4))

abbrev pub t4_from : T4 → List (List ℕ) → T4
t4_from t rows = t4_after (t4_counting t (front rows 7) (low (front rows 6))) (front rows 8) (low (front rows 9))

abbrev pub t5_from : T5 → List (List ℕ) → T5
t5_from t rows = t5_with t (front rows 10) t.pending t.con t.prd

abbrev pub tmr_from : List (List ℕ) → ℕ → Tmr
tmr_from rows i = tmr_made (cell rows 11 i) (cell rows 12 i)

abbrev pub tmrs_from : List (List ℕ) → List Tmr
tmrs_from rows = tmr_from rows 0 ∷ tmr_from rows 1 ∷ tmr_from rows 2 ∷ tmr_from rows 3 ∷ []

abbrev pub tick_from : Tick → List (List ℕ) → Tick
tick_from t rows = tick_counting t (front rows 13) (front rows 14) t.pending

abbrev pub audio_from : Audio → List (List ℕ) → Audio
audio_from a rows =
    with_registers (playing a (front rows 15) a.halves (front rows 16) a.con0 a.pend) a.con1 a.con3 a.pend a.adr (low (front rows 17))

abbrev pub spi_from : Spi → List (List ℕ) → Spi
spi_from s rows = spi2_with (spi1_with s (front rows 18) (front rows 19) (front rows 20) s.spi1_pending) (front rows 21) s.spi2_pending

abbrev pub uart_from : Uart → List (List ℕ) → Uart
uart_from u rows =
    uart_by
    u
    (front rows 22)
    (front rows 23)
    (front rows 24)
    u.con0
    u.rxsadr
    u.rxeadr
    (low (front rows 26))
    u.otcnt
    u.hrxcnt
    u.since
    (low (front rows 25))
    u.rpnd
    u.otpnd
    u.tpnd
    u.irq
    (low (front rows 27))
    (low (front rows 28))

abbrev pub host_from : Host → List (List ℕ) → Host
host_from h rows = with_watchdog (with_frames h (front rows 29) (front rows 30)) (front rows 31)

abbrev pub script_from : List (List ℕ) → Script
script_from rows = record { at = front rows 32; place = low (front rows 33); count = low (front rows 34) }

abbrev pub pins_from : Pins → List (List ℕ) → Pins
pins_from p rows = with_time (taken p (front rows 36)) (front rows 35) (front rows 37) p.led_lines p.led_latched

abbrev pub enc_from : List (List ℕ) → ℕ → Enc
enc_from rows i = enc_made (cell rows 38 i) (cell rows 39 i) (cell rows 40 i)

abbrev pub encs_from : List (List ℕ) → List Enc
encs_from rows =
    enc_from rows 0 ∷ enc_from rows 1 ∷ enc_from rows 2 ∷ enc_from rows 3 ∷ enc_from rows 4 ∷ enc_from rows 5 ∷ enc_from rows 6 ∷ enc_from rows 7 ∷ []

abbrev pub keys_from : Keys → List (List ℕ) → Keys
keys_from k rows = record { down = k.down; vel = front rows 41 }

unfoldable pub chip_from : Chip → List (List ℕ) → Chip
chip_from c rows = record {
  clock = clock_from c.clock rows;
  t4 = t4_from c.t4 rows;
  t5 = t5_from c.t5 rows;
  tmr = tmrs_from rows;
  tick = tick_from c.tick rows;
  audio = audio_from c.audio rows;
  spi = spi_from c.spi rows;
  uart = uart_from c.uart rows;
  host = host_from c.host rows;
  script = script_from rows;
  pins = pins_from c.pins rows;
  enc = encs_from rows;
  keys = keys_from c.keys rows;
  adc = c.adc;
  latch = with_exception c.latch (low (front rows 42));
}

-- a force by its bits, a NaN's too
unfoldable pub force_from : ℕ → Float
force_from bits = of_bits binary32 (low bits)

unfoldable pub panel_from : Panel → List (List ℕ) → Panel
panel_from p rows = record {
  acc = row rows 47;
  ramps = ramps_of (row rows 43) (map low (row rows 44)) (map force_from (row rows 45)) (map force_from (row rows 46));
  values = p.values;
}

-- a new board of the rate in the first row, with the rows
unfoldable pub board_from : List (List ℕ) → Board
board_from rows = record { chip = chip_from (chip_new (low (front rows 0))) rows; panel = panel_from panel_new rows }
