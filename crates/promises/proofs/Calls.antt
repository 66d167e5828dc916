-- The other calls, as acts on the MIDI part: three can move the clock, one offers a byte, and the rest leave it.
use mathlib.Core.Path.{◌≡◌, refl, ◌∙◌, ap}
use mathlib.Core.Bool.{Bool, true, false, cond, ◌||◌}
use mathlib.Core.List.{List, [], ◌∷◌}
use Prim.Native.Nat.{ℕ, ◌+◌, ◌-◌, ◌≤◌}
use native.Mathlib.Nat.{le_refl}
use native.Mathlib.Omega.{arith}
use borrow.Author.Tests.{ltb-true}
use lib.Dec.{eqb, ltb}
use lib.ListN.{length}
use Rattle.base.proofs.Cases.{either}
use Rattle.base.specs.Moments.{never}
use Rattle.base.specs.Ring.{ring}
use Rattle.board_guard.specs.Answers.{answered}
use Rattle.board_guard.specs.Refusals.{whole_refused, banks_refused}
use Rattle.board_runner.specs.Calls.{tick_refused, tick_call, idle_refused, idle_call, led_call, spi1_refused, spi1_call, spi2_refused, spi2_call, spi1_off_call, shift_call, ticks_call, skip_call, isr_call, cap_call, exc_call, spi2_flag_call, usb_refused, usb_call, wdt_refused, wdt_call}
use Rattle.board.specs.Calls.{read_chip, read_refused, read_call, write_call}
use Rattle.board.specs.Steps.{reset_call}
use Rattle.board_guard.specs.declared.Done.{Done}
use Rattle.board_runner.specs.declared.Lit.{Lit}
use Rattle.board.specs.declared.Reading.{Reading}
use Rattle.board_runner.specs.declared.Ticked.{Ticked}
use Rattle.board.specs.declared.Written.{Written}
use Rattle.irq.specs.Sources.{any_pending_of}
use Rattle.midi_laws.proofs.Does.{Does, nothing, moves}
use Rattle.midi_laws.specs.Model.{Midi, midi, move}
use Rattle.regs.specs.Reads.{polls_at, poll_at, polled_of}
use Rattle.regs.specs.Writes.{uart_written, chip_written, adc_written, board_written}
use Rattle.runner.specs.Runner.{idle_end, jump_to, idled_of, spi1_of, spi1_off_of, spi2_of, shifted_of, light_of, with_skip, with_isr, with_exc, with_spi2}
use Rattle.script.specs.declared.Front.{Front}
use Rattle.state.specs.State.{next_event, pending_of}
use Rattle.state.specs.With.{with_chip}
use Rattle.state.specs.declared.Board.{Board}
use Rattle.state.specs.declared.Chip.{Chip}
use Rattle.step.specs.Reset.{kept, chip_reset_of}
use Rattle.step.specs.Stages.{now_of, hz_of}
use Rattle.step.specs.Step.{push_refusal, placed_of}
use Rattle.step.specs.declared.Spot.{Spot}
use Rattle.timers.proofs.Kept.{poll-ends}
use Rattle.timers.specs.Timer4.{poll_of, streak_of}
use Rattle.uart.specs.Uart.{queue_bytes, con0_written, txcnt_written, updated}
use Rattle.uart.specs.declared.Uart.{Uart}
use Rattle.promises.specs.Midi.{part_of}

-- what of a board the MIDI part reads, and its rate
pub record Jack : Type 0 where
  pub now : ℕ
  pub hz : ℕ
  pub next : ℕ
  pub place : ℕ
  pub count : ℕ
  pub dropped : ℕ

abbrev pub jack_at : ℕ → Board → Jack
jack_at now b =
    record { now = now; hz = hz_of b.chip; next = b.chip.uart.next; place = b.chip.uart.place; count = b.chip.uart.count; dropped = b.chip.uart.dropped }

abbrev pub jack_of : Board → Jack
jack_of b = jack_at (now_of b.chip) b

abbrev plug : List ℕ → Jack → Midi
plug queue j = midi j.now j.next (ring 0 queue_bytes queue j.place j.count) j.dropped

-- another board that is the same to it
abbrev pub Same : Board → Board → Type 0
Same b d = jack_of d ≡ jack_of b

-- another board that is the same to it but for a later clock
pub record Later (b d : Board) : Type 0 where
  pub end : ℕ
  pub is : jack_of d ≡ jack_at end b
  pub forward : now_of b.chip ≤ end

pub stays : (b d : Board) (queue : List ℕ) → Same b d → Does queue_bytes (part_of b queue) (part_of d queue) [] []
stays b d queue e = nothing (ap (plug queue) e)

pub goes : (b d : Board) (queue : List ℕ) → Later b d → Does queue_bytes (part_of b queue) (part_of d queue) [] (move (now_of d.chip - now_of b.chip) ∷ [])
goes b d queue l =
    let n : ℕ = now_of d.chip - now_of b.chip in
    let e : now_of d.chip ≡ l.end = ap (λ (j : Jack). j.now) l.is in
    let z : l.end ≡ now_of b.chip + n = omega (arith, l.forward) in
    moves n (ap (plug queue) l.is ∙ ap (λ (c : ℕ). plug queue (jack_at c b)) z)

module _ (b : Board) where
  abbrev c : Chip
  c = b.chip

  abbrev now : ℕ
  now = now_of b.chip

  -- an answer is the same where what it does is, since a refused one is the board itself
  answer-same : (n : ℕ) (d : Chip) → Same b (with_chip b d) → Same b (answered b n d).board
  answer-same n d e = either (λ (a : Done). Same b a.board) (eqb n 0) _ _ e refl

  -- ---- those that can move the clock

  stay : Later b b
  stay = record { end = now; is = refl; forward = le_refl now }

  pub tick-later : Later b (tick_call b).board
  unfolding tick_call
  tick-later = either (λ (a : Ticked). Later b a.board) (eqb (tick_refused b) 0) _ _ (record { end = now + 1; is = refl; forward = omega arith }) stay

  idle-forward : now ≤ idle_end c
  unfolding idle_end
  idle-forward = go (eqb c.clock.skip_idle 0 || any_pending_of (pending_of c)) (eqb (next_event c) never) (ltb (now + 1) (next_event c)) refl
    where
      go : (s n t : Bool) → ltb (now + 1) (next_event c) ≡ t → now ≤ cond s now (cond n now (cond t (next_event c - 1) now))
      go true n t e = le_refl now
      go false true t e = le_refl now
      go false false true e = let h = ltb-true (now + 1) (next_event c) e in omega arith
      go false false false e = le_refl now

  pub idle-later : Later b (idle_call b).board
  unfolding idle_call idled_of jump_to
  idle-later = either (λ (a : Done). Later b a.board) (eqb (idle_refused b) 0) _ _ (record { end = idle_end c; is = refl; forward = idle-forward }) stay

  poll-forward : now ≤ (poll_at c).clock
  unfolding poll_of
  poll-forward = (poll-ends (streak_of c.t4.cnt_streak (now - c.t4.last_cnt_read)) now (hz_of c) (next_event c)).forward

  pub read-later : (addr : ℕ) (icfg icfg1 : List ℕ) → Later b (read_call b addr icfg icfg1).board
  unfolding read_call read_chip polled_of
  read-later addr icfg icfg1 =
      either (λ (a : Reading). Later b a.board) (eqb (read_refused b addr (length icfg) (length icfg1)) 0) _ _
      (either (λ (d : Chip). Later b (with_chip b d)) (polls_at c addr) (polled_of c) c (record { end = (poll_at c).clock; is = refl; forward = poll-forward }) stay)
      stay

  -- ---- those that leave it

  -- the board with another UART
  abbrev uart_jack : Uart → Jack
  uart_jack u = record { now = now; hz = hz_of c; next = u.next; place = u.place; count = u.count; dropped = u.dropped }

  -- no register of the UART touches its queue
  uart-same : (addr v : ℕ) → uart_jack (uart_written c.uart addr v) ≡ jack_of b
  unfolding uart_written con0_written txcnt_written updated
  uart-same addr v =
      let P : Uart → Type 0 = λ u. uart_jack u ≡ jack_of b in
      either P (eqb addr 0x12100) _ _ refl
      (either P (eqb addr 0x1211c) _ _ refl
      (either P (eqb addr 0x12120) _ _ refl
      (either P (eqb addr 0x12124) _ _ refl
      (either P (eqb addr 0x12110) _ _ refl
      (either P (eqb addr 0x12118) _ _ refl refl)))))

  pub write_same : (addr v first second : ℕ) → Same b (write_call b addr v first second).board
  unfolding write_call board_written chip_written adc_written
  write_same addr v first second =
      either (λ (a : Written). Same b a.board) (eqb (banks_refused b first second) 0) _ _
      (either (Same b) (eqb addr 0x13100) _ _ refl
      (uart-same addr v))
      refl

  pub reset-same : (first second : ℕ) → Same b (reset_call b first second).board
  unfolding reset_call chip_reset_of kept
  reset-same first second = either (λ (a : Done). Same b a.board) (eqb (banks_refused b first second) 0) _ _ refl refl

  pub push-same : (front : Front) (time : ℕ) → Same b (placed_of b front time).board
  unfolding placed_of
  push-same front time = either (λ (a : Spot). Same b a.board) (eqb (push_refusal b front) 0) _ _ refl refl

  pub led-same : Same b (led_call b).board
  unfolding led_call light_of
  led-same = either (λ (a : Lit). Same b a.board) (eqb (whole_refused b) 0) _ _ refl refl

  pub spi1-same : (bytes baud : ℕ) (irq : Bool) → Same b (spi1_call b bytes baud irq).board
  unfolding spi1_call spi1_of
  spi1-same bytes baud irq = answer-same (spi1_refused b bytes baud) _ refl

  pub spi2-same : (bytes baud : ℕ) (irq : Bool) → Same b (spi2_call b bytes baud irq).board
  unfolding spi2_call spi2_of
  spi2-same bytes baud irq = answer-same (spi2_refused b bytes baud) _ refl

  pub spi1-off-same : Same b (spi1_off_call b).board
  unfolding spi1_off_call spi1_off_of
  spi1-off-same = answer-same (whole_refused b) _ refl

  pub shift_same : (byte : ℕ) → Same b (shift_call b byte).board
  unfolding shift_call shifted_of
  shift_same byte = answer-same (whole_refused b) _ refl

  pub ticks-same : (ticks : ℕ) → Same b (ticks_call b ticks).board
  unfolding ticks_call
  ticks-same ticks = answer-same (whole_refused b) _ refl

  pub skip-same : (on : Bool) → Same b (skip_call b on).board
  unfolding skip_call with_skip
  skip-same on = answer-same (whole_refused b) _ refl

  pub isr-same : (on : Bool) → Same b (isr_call b on).board
  unfolding isr_call with_isr
  isr-same on = answer-same (whole_refused b) _ refl

  pub cap-same : (cap : ℕ) → Same b (cap_call b cap).board
  unfolding cap_call
  cap-same cap = answer-same (whole_refused b) _ refl

  pub exc-same : (on : Bool) → Same b (exc_call b on).board
  unfolding exc_call with_exc
  exc-same on = answer-same (whole_refused b) _ refl

  pub spi2-flag-same : (on : Bool) → Same b (spi2_flag_call b on).board
  unfolding spi2_flag_call with_spi2
  spi2-flag-same on = answer-same (whole_refused b) _ refl

  pub usb-same : (at period : ℕ) → Same b (usb_call b at period).board
  unfolding usb_call
  usb-same at period = answer-same (usb_refused b at period) _ refl

  pub wdt-same : (at : ℕ) → Same b (wdt_call b at).board
  unfolding wdt_call
  wdt-same at = answer-same (wdt_refused b at) _ refl
