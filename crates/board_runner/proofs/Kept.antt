-- "Accepted calls keep a whole record whole", and a call that is turned away leaves it as it was: each call that hands the record back.
use mathlib.Core.Path.{◌≡◌, refl}
use mathlib.Core.Bool.{Bool, true, false, cond, not, true≢false}
use Prim.Native.Nat.{ℕ, zero, suc, ◌≤◌}
use native.Mathlib.Omega.{arith}
use borrow.Author.Tests.{leb-false, ltb-false}
use lib.Dec.{eqb, leb, ltb}
use Rattle.base.specs.Limits.{spi_bytes_max, spi_baud_max}
use Rattle.base.proofs.Deadlines.{deadline-fact}
use Rattle.base.specs.Moments.{clock_max, is_deadline}
use Rattle.runner.proofs.Kept.{tick-kept, idle-kept, spi1-kept, spi2-kept, spi1-off-whole, shift_kept, light-kept, ticks-kept, cap-kept, skip-kept, isr-kept, exc-kept, spi2-flag-kept, usb-set-kept, wdt-set-kept}
use Rattle.runner.specs.Runner.{idle_end, idled_of, spi1_of, spi2_of, with_usb, with_wdt}
use Rattle.state.specs.State.{board_whole}
use Rattle.state.specs.Whole.{Whole}
use Rattle.state.specs.With.{with_chip}
use Rattle.state.specs.declared.Board.{Board}
use Rattle.board_guard.proofs.Kept.{kept, answer-kept}
use Rattle.board_guard.proofs.Known.{no}
use Rattle.board_runner.specs.declared.Lit.{Lit}
use Rattle.board_runner.specs.declared.Ticked.{Ticked}
use Rattle.board_guard.specs.Refusals.{whole_refused}
use Rattle.board_runner.specs.Calls.{tick_refused, tick_call, idle_refused, idle_call, led_call, spi1_refused, spi1_call, spi2_refused, spi2_call, spi1_off_call, shift_call, ticks_call, skip_call, isr_call, cap_call, exc_call, spi2_flag_call, usb_refused, usb_call, wdt_refused, wdt_call}

ge-one : (n : ℕ) → eqb n 0 ≡ false → 1 ≤ n
ge-one zero e = absurd (true≢false e)
ge-one (suc n) e = omega arith

module _ (b : Board) (w : Whole b) where
  pub idle-call-kept : Whole (idle_call b).board
  unfolding idle_call idle_refused
  idle-call-kept =
      answer-kept b (idle_refused b) (idled_of b.chip) w
      (λ e. let p = no (not (board_whole b)) 2 _ e in let q = no (ltb clock_max (idle_end b.chip)) 6 0 p.1 in idle-kept b w (ltb-false clock_max (idle_end b.chip) q.0))

  pub spi1-call-kept : (bytes baud : ℕ) (irq : Bool) → Whole (spi1_call b bytes baud irq).board
  unfolding spi1_call spi1_refused
  spi1-call-kept bytes baud irq =
      answer-kept b (spi1_refused b bytes baud) (spi1_of b.chip bytes baud irq) w
      (λ e.
      let p = no (not (board_whole b)) 2 _ e in
      let q = no (ltb spi_bytes_max bytes) 3 _ p.1 in
      let r = no (ltb spi_baud_max baud) 3 _ q.1 in
      spi1-kept b w bytes baud irq (ltb-false spi_bytes_max bytes q.0) (ltb-false spi_baud_max baud r.0))

  pub spi2-call-kept : (bytes baud : ℕ) (irq : Bool) → Whole (spi2_call b bytes baud irq).board
  unfolding spi2_call spi2_refused
  spi2-call-kept bytes baud irq =
      answer-kept b (spi2_refused b bytes baud) (spi2_of b.chip bytes baud irq) w
      (λ e.
      let p = no (not (board_whole b)) 2 _ e in
      let q = no (ltb spi_bytes_max bytes) 3 _ p.1 in
      let r = no (ltb spi_baud_max baud) 3 0 q.1 in
      spi2-kept b w bytes baud irq (ltb-false spi_bytes_max bytes q.0) (ltb-false spi_baud_max baud r.0))

  pub spi1-off-call-kept : Whole (spi1_off_call b).board
  unfolding spi1_off_call
  spi1-off-call-kept = answer-kept b (whole_refused b) _ w (λ e. spi1-off-whole b w)

  pub shift-call-kept : (byte : ℕ) → Whole (shift_call b byte).board
  unfolding shift_call
  shift-call-kept byte = answer-kept b (whole_refused b) _ w (λ e. shift_kept b w byte)

  pub ticks-call-kept : (ticks : ℕ) → Whole (ticks_call b ticks).board
  unfolding ticks_call
  ticks-call-kept ticks = answer-kept b (whole_refused b) _ w (λ e. ticks-kept b w ticks)

  pub cap-call-kept : (cap : ℕ) → Whole (cap_call b cap).board
  unfolding cap_call
  cap-call-kept cap = answer-kept b (whole_refused b) _ w (λ e. cap-kept b w cap)

  pub skip-call-kept : (on : Bool) → Whole (skip_call b on).board
  unfolding skip_call
  skip-call-kept on = answer-kept b (whole_refused b) _ w (λ e. skip-kept b w on)

  pub isr-call-kept : (on : Bool) → Whole (isr_call b on).board
  unfolding isr_call
  isr-call-kept on = answer-kept b (whole_refused b) _ w (λ e. isr-kept b w on)

  pub exc-call-kept : (on : Bool) → Whole (exc_call b on).board
  unfolding exc_call
  exc-call-kept on = answer-kept b (whole_refused b) _ w (λ e. exc-kept b w on)

  pub spi2-flag-call-kept : (on : Bool) → Whole (spi2_flag_call b on).board
  unfolding spi2_flag_call
  spi2-flag-call-kept on = answer-kept b (whole_refused b) _ w (λ e. spi2-flag-kept b w on)

  pub tick-call-kept : Whole (tick_call b).board
  unfolding tick_call tick_refused
  tick-call-kept =
      kept (λ (d : Ticked). d.board) (tick_refused b) _ _
      (λ e. let p = no (not (board_whole b)) 2 _ e in let q = no (leb clock_max b.chip.clock.cycles) 6 0 p.1 in tick-kept b w (leb-false clock_max b.chip.clock.cycles q.0))
      w

  pub led-call-kept : Whole (led_call b).board
  unfolding led_call
  led-call-kept = kept (λ (d : Lit). d.board) (whole_refused b) _ _ (λ e. light-kept b w) w

  pub usb-call-kept : (at period : ℕ) → Whole (usb_call b at period).board
  unfolding usb_call usb_refused
  usb-call-kept at period =
      answer-kept b (usb_refused b at period) _ w
      (λ e. let p = no (not (board_whole b)) 2 _ e in go (is_deadline at) refl p.1)
    where
      go : (t : Bool) → is_deadline at ≡ t → ◌≡◌ {A = ℕ} (cond t (cond (eqb period 0) 4 (cond (ltb clock_max period) 4 0)) 4) 0 → Whole (with_chip b (with_usb b.chip at period))
      go true d e =
          let p = no (eqb period 0) 3 _ e in
          let q = no (ltb clock_max period) 3 0 p.1 in
          usb-set-kept b w at period (deadline-fact at d) (ge-one period p.0) (ltb-false clock_max period q.0)
      go false d e = absurd (omega (arith, e))

  pub wdt-call-kept : (at : ℕ) → Whole (wdt_call b at).board
  unfolding wdt_call wdt_refused
  wdt-call-kept at =
      answer-kept b (wdt_refused b at) _ w
      (λ e. let p = no (not (board_whole b)) 2 _ e in go (is_deadline at) refl p.1)
    where
      go : (t : Bool) → is_deadline at ≡ t → ◌≡◌ {A = ℕ} (cond t 0 4) 0 → Whole (with_chip b (with_wdt b.chip at))
      go true d e = wdt-set-kept b w at (deadline-fact at d)
      go false d e = absurd (omega (arith, e))
