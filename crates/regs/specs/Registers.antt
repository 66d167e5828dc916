-- Every word that a read answers, in the order of the original: the address, and what stands there. The banks, by any address of theirs, are `first_read` and `second_read`; any other word says none.
use Rattle.std.specs.Prelude.{ℕ, ◌+◌, ◌*◌, ◌<◌, List, ◌≡◌, Some}
use Rattle.adc.specs.Adc.{con_read}
use Rattle.audio.specs.Audio.{con0_read as audio_con0, con1_read, pend_read, con3_read, adr_read, len_read}
use Rattle.irq.specs.Latch.{set_read}
use Rattle.panel.specs.Matrix.{pa_in, pb_in}
use Rattle.timers.specs.OsTick.{tick_ctl, tick_cnt, tick_prd}
use Rattle.timers.specs.Timer.{tmr_con, tmr_cnt, tmr_prd, tmr_of}
use Rattle.timers.specs.Timer4.{t4_con, t4_cnt}
use Rattle.timers.specs.Timer5.{t5_con, t5_cnt, t5_prd}
use Rattle.uart.specs.Uart.{con0_read as uart_con0, rxsadr_read, rxeadr_read, rxcnt_read, otcnt_read, hrxcnt_read}
use Rattle.state.specs.declared.Chip.{Chip}
use Rattle.regs.specs.Reads.{rows_of, read_of}

-- where a timer's words begin
abbrev pub tmr_page : ℕ → ℕ
tmr_page i = 0x10400 + 0x100 * i

pub record Registers (c : Chip) (icfg icfg1 : List ℕ) : Type 0 where
  pub t4-con : read_of c icfg icfg1 0x10800 ≡ Some (t4_con c.t4)
  pub t4-cnt : read_of c icfg icfg1 0x10804 ≡ Some (t4_cnt c.t4 c.clock.cycles c.clock.hz)
  -- timers 0 to 3, a page each
  pub tmr-con : (i : ℕ) → i < 4 → read_of c icfg icfg1 (tmr_page i) ≡ Some (tmr_con (tmr_of c.tmr i))
  pub tmr-cnt : (i : ℕ) → i < 4 → read_of c icfg icfg1 (tmr_page i + 4) ≡ Some (tmr_cnt (tmr_of c.tmr i) c.clock.cycles c.clock.hz)
  pub tmr-prd : (i : ℕ) → i < 4 → read_of c icfg icfg1 (tmr_page i + 8) ≡ Some (tmr_prd (tmr_of c.tmr i))
  pub t5-con : read_of c icfg icfg1 0x10900 ≡ Some (t5_con c.t5)
  pub t5-cnt : read_of c icfg icfg1 0x10904 ≡ Some (t5_cnt c.t5 c.clock.cycles c.clock.hz)
  pub t5-prd : read_of c icfg icfg1 0x10908 ≡ Some (t5_prd c.t5)
  pub audio-con0 : read_of c icfg icfg1 0x12e00 ≡ Some (audio_con0 c.audio)
  pub audio-con1 : read_of c icfg icfg1 0x12e04 ≡ Some (con1_read c.audio)
  pub audio-pend : read_of c icfg icfg1 0x12e08 ≡ Some (pend_read c.audio)
  pub audio-con3 : read_of c icfg icfg1 0x12e0c ≡ Some (con3_read c.audio)
  pub audio-adr : read_of c icfg icfg1 0x12e1c ≡ Some (adr_read c.audio)
  pub audio-len : read_of c icfg icfg1 0x12e20 ≡ Some (len_read c.audio)
  pub adc-con : read_of c icfg icfg1 0x13100 ≡ Some (con_read c.adc)
  pub adc-res : read_of c icfg icfg1 0x13104 ≡ Some c.adc.sample
  pub latch-set : read_of c icfg icfg1 0x1eef1a0 ≡ Some (set_read c.latch)
  pub latch-clear : read_of c icfg icfg1 0x1eef1a4 ≡ Some 0
  pub tick-ctl : read_of c icfg icfg1 0x1eef0ec ≡ Some (tick_ctl c.tick)
  pub tick-cnt : read_of c icfg icfg1 0x1eef0f0 ≡ Some (tick_cnt c.tick c.clock.cycles c.clock.hz)
  pub tick-prd : read_of c icfg icfg1 0x1eef0f4 ≡ Some (tick_prd c.tick)
  pub uart-con0 : read_of c icfg icfg1 0x12100 ≡ Some (uart_con0 c.uart)
  pub uart-rxsadr : read_of c icfg icfg1 0x1211c ≡ Some (rxsadr_read c.uart)
  pub uart-rxeadr : read_of c icfg icfg1 0x12120 ≡ Some (rxeadr_read c.uart)
  pub uart-rxcnt : read_of c icfg icfg1 0x12124 ≡ Some (rxcnt_read c.uart)
  pub uart-otcnt : read_of c icfg icfg1 0x12110 ≡ Some (otcnt_read c.uart)
  pub uart-hrxcnt : read_of c icfg icfg1 0x12128 ≡ Some (hrxcnt_read c.uart)
  pub port-a : read_of c icfg icfg1 0x50004 ≡ Some (pa_in c.pins.pa_out (rows_of c.pins c.keys c.enc))
  pub port-b : read_of c icfg icfg1 0x50044 ≡ Some (pb_in (rows_of c.pins c.keys c.enc))
