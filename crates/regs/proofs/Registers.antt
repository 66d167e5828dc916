-- Each register reads what the table says.
use mathlib.Core.List.{List}
use mathlib.Core.Path.{◌≡◌, refl}
use Prim.Native.Nat.{ℕ, ◌+◌}
use Rattle.base.proofs.Cases.{under-four}
use Rattle.state.specs.declared.Chip.{Chip}
use Rattle.timers.specs.Timer.{tmr_con, tmr_cnt, tmr_prd, tmr_of}
use Rattle.std.specs.Prelude.{Some}
use Rattle.regs.specs.Reads.{tmr_read, t4_read, t5_read, tick_read, audio_read, adc_read, uart_read, port_read, first_read, second_read, read_of}
use Rattle.regs.specs.Registers.{tmr_page, Registers}

pub registers : (c : Chip) (icfg icfg1 : List ℕ) → Registers c icfg icfg1
unfolding read_of tmr_read t4_read t5_read tick_read audio_read adc_read uart_read port_read first_read second_read
registers c icfg icfg1 = record {
  t4-con = refl;
  t4-cnt = refl;
  tmr-con = under-four (λ (i : ℕ). read_of c icfg icfg1 (tmr_page i) ≡ Some (tmr_con (tmr_of c.tmr i))) refl refl refl refl;
  tmr-cnt = under-four (λ (i : ℕ). read_of c icfg icfg1 (tmr_page i + 4) ≡ Some (tmr_cnt (tmr_of c.tmr i) c.clock.cycles c.clock.hz)) refl refl refl refl;
  tmr-prd = under-four (λ (i : ℕ). read_of c icfg icfg1 (tmr_page i + 8) ≡ Some (tmr_prd (tmr_of c.tmr i))) refl refl refl refl;
  t5-con = refl;
  t5-cnt = refl;
  t5-prd = refl;
  audio-con0 = refl;
  audio-con1 = refl;
  audio-pend = refl;
  audio-con3 = refl;
  audio-adr = refl;
  audio-len = refl;
  adc-con = refl;
  adc-res = refl;
  latch-set = refl;
  latch-clear = refl;
  tick-ctl = refl;
  tick-cnt = refl;
  tick-prd = refl;
  uart-con0 = refl;
  uart-rxsadr = refl;
  uart-rxeadr = refl;
  uart-rxcnt = refl;
  uart-otcnt = refl;
  uart-hrxcnt = refl;
  port-a = refl;
  port-b = refl;
}
