-- What a read answers: a line a register, by the source's addresses. The page of an address (its 256 bytes) tells the block.
use Rattle.std.specs.Prelude.{ℕ, ◌+◌, ◌-◌, ◌/◌, Bool, cond, not, ◌&&◌, List, eqb, leb, Option, Some, None}
use Rattle.base.specs.Bits.{is_set}
use Rattle.adc.specs.Adc.{con_read}
use Rattle.adc.specs.declared.Adc.{Adc}
use Rattle.audio.specs.Audio.{con0_read as audio_con0, con1_read, pend_read, con3_read, adr_read, len_read}
use Rattle.audio.specs.declared.Audio.{Audio}
use Rattle.irq.specs.Banks.{bank_read}
use Rattle.irq.specs.Latch.{set_read, clear_read}
use Rattle.irq.specs.declared.Latch.{Latch}
use Rattle.encoders.specs.Encoder.{encs_closed}
use Rattle.panel.specs.Map.{fm1_map}
use Rattle.panel.specs.Matrix.{closed_rows, pa_in, pb_in}
use Rattle.encoders.specs.declared.Enc.{Enc}
use Rattle.keys.specs.declared.Keys.{Keys}
use Rattle.panel.specs.declared.pins.Pins.{Pins}
use Rattle.timers.specs.OsTick.{tick_ctl, tick_cnt, tick_prd}
use Rattle.timers.specs.Timer.{tmr_con, tmr_cnt, tmr_prd, tmr_of}
use Rattle.timers.specs.Timer4.{t4_con, t4_cnt, poll_of, poll_skipped, poll_due}
use Rattle.timers.specs.Timer5.{t5_con, t5_cnt, t5_prd}
use Rattle.timers.specs.declared.os_tick.Tick.{Tick}
use Rattle.timers.specs.declared.timer.Tmr.{Tmr}
use Rattle.timers.specs.declared.timer4.Polled.{Polled}
use Rattle.timers.specs.declared.timer4.T4.{T4}
use Rattle.timers.specs.declared.timer5.T5.{T5}
use Rattle.uart.specs.Uart.{con0_read as uart_con0, rxsadr_read, rxeadr_read, rxcnt_read, otcnt_read, hrxcnt_read}
use Rattle.uart.specs.declared.Uart.{Uart}
use Rattle.state.specs.State.{next_event}
use Rattle.state.specs.With.{with_clock, with_t4, clock_at}
use Rattle.state.specs.declared.Chip.{Chip}

-- timers 0 to 3, each at its base
unfoldable pub tmr_read : Tmr → ℕ → ℕ → ℕ → ℕ → Option ℕ
tmr_read t base addr now hz =
    cond (eqb addr base) (Some (tmr_con t))
    (cond (eqb addr (base + 4)) (Some (tmr_cnt t now hz))
    (cond (eqb addr (base + 8)) (Some (tmr_prd t)) None))

unfoldable pub t4_read : T4 → ℕ → ℕ → ℕ → Option ℕ
t4_read t addr now hz =
    cond (eqb addr 0x10800) (Some (t4_con t))
    (cond (eqb addr 0x10804) (Some (t4_cnt t now hz)) None)

unfoldable pub t5_read : T5 → ℕ → ℕ → ℕ → Option ℕ
t5_read t addr now hz =
    cond (eqb addr 0x10900) (Some (t5_con t))
    (cond (eqb addr 0x10904) (Some (t5_cnt t now hz))
    (cond (eqb addr 0x10908) (Some (t5_prd t)) None))

unfoldable pub tick_read : Tick → ℕ → ℕ → ℕ → Option ℕ
tick_read t addr now hz =
    cond (eqb addr 0x1eef0ec) (Some (tick_ctl t))
    (cond (eqb addr 0x1eef0f0) (Some (tick_cnt t now hz))
    (cond (eqb addr 0x1eef0f4) (Some (tick_prd t)) None))

unfoldable pub audio_read : Audio → ℕ → Option ℕ
audio_read a addr =
    cond (eqb addr 0x12e00) (Some (audio_con0 a))
    (cond (eqb addr 0x12e04) (Some (con1_read a))
    (cond (eqb addr 0x12e08) (Some (pend_read a))
    (cond (eqb addr 0x12e0c) (Some (con3_read a))
    (cond (eqb addr 0x12e1c) (Some (adr_read a))
    (cond (eqb addr 0x12e20) (Some (len_read a)) None)))))

unfoldable pub adc_read : Adc → ℕ → Option ℕ
adc_read a addr =
    cond (eqb addr 0x13100) (Some (con_read a))
    (cond (eqb addr 0x13104) (Some a.sample) None)

unfoldable pub uart_read : Uart → ℕ → Option ℕ
uart_read u addr =
    cond (eqb addr 0x12100) (Some (uart_con0 u))
    (cond (eqb addr 0x1211c) (Some (rxsadr_read u))
    (cond (eqb addr 0x12120) (Some (rxeadr_read u))
    (cond (eqb addr 0x12124) (Some (rxcnt_read u))
    (cond (eqb addr 0x12110) (Some (otcnt_read u))
    (cond (eqb addr 0x12128) (Some (hrxcnt_read u)) None)))))

-- port A's rows (row 0 is PA0, rows 1 to 4 are PA5 to PA8) and port B's (row 5 is PB7)
unfoldable pub rows_of : Pins → Keys → List Enc → ℕ
rows_of p k es = closed_rows fm1_map k.down (encs_closed es) p.sr_latched

unfoldable pub port_read : Pins → Keys → List Enc → ℕ → Option ℕ
port_read p k es addr =
    cond (eqb addr 0x50004) (Some (pa_in p.pa_out (rows_of p k es)))
    (cond (eqb addr 0x50044) (Some (pb_in (rows_of p k es))) None)

-- a bank by any address of its range: the 128 bytes from where it begins
abbrev pub bank_read_at : List ℕ → ℕ → ℕ → Option ℕ
bank_read_at bank from addr = cond (leb addr (from + 0x7f)) (Some (bank_read bank (addr - from))) None

-- the banks; the latch's set word, and its clear word, which reads 0
unfoldable pub first_read : List ℕ → Latch → ℕ → Option ℕ
first_read bank l addr =
    cond (leb addr 0x1eef17f) (Some (bank_read bank (addr - 0x1eef100)))
    (cond (eqb addr 0x1eef1a0) (Some (set_read l))
    (cond (eqb addr 0x1eef1a4) (Some (clear_read l)) None))

unfoldable pub second_read : List ℕ → ℕ → Option ℕ
second_read bank addr = bank_read_at bank 0x1eef300 addr

-- "An unknown address is no refusal: a read says none"
unfoldable pub read_of : Chip → List ℕ → List ℕ → ℕ → Option ℕ
read_of c icfg icfg1 addr =
    cond (eqb (addr / 256) 0x108) (t4_read c.t4 addr now hz)
    (cond (eqb (addr / 256) 0x104) (tmr_read (tmr_of c.tmr 0) 0x10400 addr now hz)
    (cond (eqb (addr / 256) 0x105) (tmr_read (tmr_of c.tmr 1) 0x10500 addr now hz)
    (cond (eqb (addr / 256) 0x106) (tmr_read (tmr_of c.tmr 2) 0x10600 addr now hz)
    (cond (eqb (addr / 256) 0x107) (tmr_read (tmr_of c.tmr 3) 0x10700 addr now hz)
    (cond (eqb (addr / 256) 0x109) (t5_read c.t5 addr now hz)
    (cond (eqb (addr / 256) 0x12e) (audio_read c.audio addr)
    (cond (eqb (addr / 256) 0x131) (adc_read c.adc addr)
    (cond (eqb (addr / 256) 0x1eef1) (first_read icfg c.latch addr)
    (cond (eqb (addr / 256) 0x1eef3) (second_read icfg1 addr)
    (cond (eqb (addr / 256) 0x1eef0) (tick_read c.tick addr now hz)
    (cond (eqb (addr / 256) 0x121) (uart_read c.uart addr)
    (cond (eqb (addr / 256) 0x500) (port_read c.pins c.keys c.enc addr) None))))))))))))
  where
    now : ℕ
    now = c.clock.cycles

    hz : ℕ
    hz = c.clock.hz

-- a count read of a running TIMER4 outside an ISR while skipping is on
unfoldable pub polls_at : Chip → ℕ → Bool
polls_at c addr =
    eqb addr 0x10804 && is_set c.t4.con 1 && not (eqb c.clock.skip_idle 0) && eqb c.clock.in_isr 0

-- the chip after it
abbrev pub poll_at : Chip → Polled
poll_at c = poll_of c.t4 c.clock.cycles c.clock.hz (next_event c)

unfoldable pub polled_of : Chip → Chip
polled_of c =
    with_t4
    (with_clock c
    (clock_at c.clock (poll_at c).clock (poll_due c.clock.next_due c.clock.cycles (poll_at c).clock)
    (poll_skipped c.clock.skipped c.clock.cycles (poll_at c).clock)))
    (poll_at c).t4
