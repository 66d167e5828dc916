-- What a write does, and what it answers: a line a register, by the source's addresses.
use Rattle.std.specs.Prelude.{ℕ, ◌+◌, ◌-◌, ◌%◌, Bool, cond, not, ◌&&◌, ◌||◌, List, [], ◌∷◌, eqb, leb, ltb}
use Rattle.base.specs.Bits.{unless_of}
use Rattle.adc.specs.Adc.{con_written}
use Rattle.adc.specs.declared.Wrote.{Wrote}
use Rattle.audio.specs.Audio.{con0_written as audio_con0, con1_written, pend_written, con3_written, adr_written, len_written}
use Rattle.audio.specs.declared.Audio.{Audio}
use Rattle.irq.specs.Banks.{bank_written}
use Rattle.irq.specs.Latch.{latch_set, latch_cleared}
use Rattle.irq.specs.declared.Latch.{Latch}
use Rattle.panel.specs.Led.{credited_times}
use Rattle.panel.specs.Map.{fm1_map}
use Rattle.panel.specs.Pins.{credited, pa_written, ph_written, dir_written, pu_written, hd0_written, hd_written}
use Rattle.keys.specs.declared.Ramps.{Ramps}
use Rattle.panel.specs.declared.pins.Pins.{Pins}
use Rattle.timers.specs.OsTick.{tick_ctl_written, tick_cnt_written, tick_prd_written}
use Rattle.timers.specs.Timer.{tmr_of, tmr_con_written, tmr_cnt_written, tmr_prd_written}
use Rattle.timers.specs.Timer4.{t4_con_written, t4_cnt_written}
use Rattle.timers.specs.Timer5.{t5_con_written, t5_prd_written}
use Rattle.timers.specs.declared.os_tick.Tick.{Tick}
use Rattle.timers.specs.declared.timer.Tmr.{Tmr}
use Rattle.timers.specs.declared.timer4.T4.{T4}
use Rattle.timers.specs.declared.timer5.T5.{T5}
use Rattle.uart.specs.Uart.{con0_written as uart_con0, rxsadr_written, rxeadr_written, rxcnt_written, otcnt_written, txcnt_written}
use Rattle.uart.specs.declared.Uart.{Uart}
use Rattle.state.specs.With.{due_at, with_adc, with_chip}
use Rattle.state.specs.declared.Board.{Board}
use Rattle.state.specs.declared.Chip.{Chip}

-- ---- what is timed

-- the source's `untimed`, turned round: the converter's words, the ports' but for PD0, and the counters' words that ignore writes leave `next_due`
unfoldable pub timed_at : ℕ → Bool
timed_at addr =
    not (eqb addr 0x13100) && not (eqb addr 0x13104) && (ltb addr 0x50000 || ltb 0x501ff addr || eqb addr 0x500c0)
    && not (eqb addr 0x10808) && not (eqb addr 0x10904)

-- ---- the answer

-- CON, CNT and PRD of TIMER0 to 5; TIMER4's PRD and TIMER5's CNT take a write and ignore it
unfoldable pub timers_take : ℕ → Bool
timers_take addr = leb 0x10400 addr && leb addr 0x109ff && (eqb (addr % 256) 0 || eqb (addr % 256) 4 || eqb (addr % 256) 8)

-- audio, then the UART: the TX count (0x12118) acts and says false
unfoldable pub wires_take : ℕ → Bool
wires_take addr =
    eqb addr 0x12e00 || eqb addr 0x12e04 || eqb addr 0x12e08 || eqb addr 0x12e0c || eqb addr 0x12e1c || eqb addr 0x12e20
    || eqb addr 0x12100 || eqb addr 0x1211c || eqb addr 0x12120 || eqb addr 0x12124 || eqb addr 0x12110

-- "a write says false": what is also plain storage, and what is unknown. Port A's direction, pull-ups and drive strength act and say false.
unfoldable pub handled_at : ℕ → Bool
handled_at addr =
    timers_take addr || wires_take addr || eqb addr 0x13100 || eqb addr 0x13104
    || (leb 0x1eef100 addr && leb addr 0x1eef17f) || (leb 0x1eef300 addr && leb addr 0x1eef37f)
    || eqb addr 0x1eef0ec || eqb addr 0x1eef0f0 || eqb addr 0x1eef0f4 || eqb addr 0x1eef1a0 || eqb addr 0x1eef1a4
    || eqb addr 0x50000 || eqb addr 0x501c0

-- ---- the blocks

unfoldable pub t4_written : T4 → ℕ → ℕ → ℕ → T4
t4_written t addr v now =
    cond (eqb addr 0x10800) (t4_con_written t v now)
    (cond (eqb addr 0x10804) (t4_cnt_written t now) t)

unfoldable pub t5_written : T5 → ℕ → ℕ → ℕ → ℕ → T5
t5_written t addr v now hz =
    cond (eqb addr 0x10900) (t5_con_written t v now hz)
    (cond (eqb addr 0x10908) (t5_prd_written t v) t)

-- timers 0 to 3, each at its base
unfoldable pub tmr_written : Tmr → ℕ → ℕ → ℕ → ℕ → ℕ → Tmr
tmr_written t base addr v now hz =
    cond (eqb addr base) (tmr_con_written t v now hz)
    (cond (eqb addr (base + 4)) (tmr_cnt_written t v now hz)
    (cond (eqb addr (base + 8)) (tmr_prd_written t v now hz) t))

-- the timer of a page of addresses
unfoldable pub timer_on : List Tmr → ℕ → Tmr
timer_on ts page =
    cond (eqb page 0x104) (tmr_of ts 0) (cond (eqb page 0x105) (tmr_of ts 1) (cond (eqb page 0x106) (tmr_of ts 2) (tmr_of ts 3)))

unfoldable pub tmrs_written : List Tmr → ℕ → ℕ → ℕ → ℕ → List Tmr
tmrs_written ts addr v now hz =
    tmr_written (tmr_of ts 0) 0x10400 addr v now hz ∷ tmr_written (tmr_of ts 1) 0x10500 addr v now hz
    ∷ tmr_written (tmr_of ts 2) 0x10600 addr v now hz ∷ tmr_written (tmr_of ts 3) 0x10700 addr v now hz ∷ []

unfoldable pub audio_written : Audio → ℕ → ℕ → ℕ → ℕ → Audio
audio_written a addr v now hz =
    cond (eqb addr 0x12e00) (audio_con0 a v now hz)
    (cond (eqb addr 0x12e04) (con1_written a v)
    (cond (eqb addr 0x12e08) (pend_written a v)
    (cond (eqb addr 0x12e0c) (con3_written a v)
    (cond (eqb addr 0x12e1c) (adr_written a v)
    (cond (eqb addr 0x12e20) (len_written a v) a)))))

unfoldable pub tick_written : Tick → ℕ → ℕ → ℕ → ℕ → Tick
tick_written t addr v now hz =
    cond (eqb addr 0x1eef0ec) (tick_ctl_written t v now hz)
    (cond (eqb addr 0x1eef0f0) (tick_cnt_written t now hz)
    (cond (eqb addr 0x1eef0f4) (tick_prd_written t v) t))

unfoldable pub latch_written : Latch → ℕ → ℕ → Latch
latch_written l addr v =
    cond (eqb addr 0x1eef1a0) (latch_set l v)
    (cond (eqb addr 0x1eef1a4) (latch_cleared l v) l)

unfoldable pub uart_written : Uart → ℕ → ℕ → Uart
uart_written u addr v =
    cond (eqb addr 0x12100) (uart_con0 u v)
    (cond (eqb addr 0x1211c) (rxsadr_written u v)
    (cond (eqb addr 0x12120) (rxeadr_written u v)
    (cond (eqb addr 0x12124) (rxcnt_written u v)
    (cond (eqb addr 0x12110) (otcnt_written u v)
    (cond (eqb addr 0x12118) (txcnt_written u) u)))))

-- ports A and H credit the LEDs' time before they change
unfoldable pub pins_written : Pins → ℕ → ℕ → ℕ → Pins
pins_written p addr v now =
    cond (eqb addr 0x50000) (pa_written (credited p now) v)
    (cond (eqb addr 0x50008) (dir_written p v)
    (cond (eqb addr 0x50010) (pu_written p v)
    (cond (eqb addr 0x50018) (hd0_written p v)
    (cond (eqb addr 0x5001c) (hd_written p v)
    (cond (eqb addr 0x501c0) (ph_written (credited p now) v) p)))))

abbrev pub lights_at : ℕ → Bool
lights_at addr = eqb addr 0x50000 || eqb addr 0x501c0

unfoldable pub times_written : Pins → ℕ → ℕ → List ℕ → List ℕ
times_written p addr now acc = cond (lights_at addr) (credited_times fm1_map p now acc) acc

-- a bank, by any address of its range: the 128 bytes from where it begins
abbrev pub bank_written_at : List ℕ → ℕ → ℕ → ℕ → List ℕ
bank_written_at bank from addr v = cond (leb from addr) (cond (leb addr (from + 0x7f)) (bank_written bank (addr - from) v) bank) bank

unfoldable pub first_written : List ℕ → ℕ → ℕ → List ℕ
first_written bank addr v = bank_written_at bank 0x1eef100 addr v

unfoldable pub second_written : List ℕ → ℕ → ℕ → List ℕ
second_written bank addr v = bank_written_at bank 0x1eef300 addr v

-- ---- the chip and the board

-- each block takes the words that are its own; what is timed sets `next_due` to 0
unfoldable pub chip_written : Chip → ℕ → ℕ → Chip
chip_written c addr v = record {
  clock = (due_at c (unless_of (timed_at addr) c.clock.next_due)).clock;
  t4 = t4_written c.t4 addr v now;
  t5 = t5_written c.t5 addr v now hz;
  tmr = tmrs_written c.tmr addr v now hz;
  tick = tick_written c.tick addr v now hz;
  audio = audio_written c.audio addr v now hz;
  spi = c.spi;
  uart = uart_written c.uart addr v;
  host = c.host;
  script = c.script;
  pins = pins_written c.pins addr v now;
  enc = c.enc;
  keys = c.keys;
  adc = c.adc;
  latch = latch_written c.latch addr v;
}
  where
    now : ℕ
    now = c.clock.cycles

    hz : ℕ
    hz = c.clock.hz

-- the converter's CON: timed only where the interrupt's line moves
unfoldable pub adc_written : Chip → Ramps → List ℕ → ℕ → Chip
adc_written c ramps values v = with_adc (due_at c (unless_of wrote.due c.clock.next_due)) wrote.adc
  where
    wrote : Wrote
    wrote = con_written c.adc fm1_map c.pins ramps values c.clock.cycles v

unfoldable pub board_written : Board → ℕ → ℕ → Board
board_written b addr v =
    cond (eqb addr 0x13100) (with_chip b (adc_written b.chip b.panel.ramps b.panel.values v))
    (record {
      chip = chip_written b.chip addr v;
      panel = record {
        acc = times_written b.chip.pins addr b.chip.clock.cycles b.panel.acc;
        ramps = b.panel.ramps;
        values = b.panel.values;
      };
    })
