-- Demand 3, of every run of calls from a new board: each call keeps the board whole and its rate, and does its acts.
use mathlib.Core.Path.{◌≡◌, refl, ◌∙◌, ap}
use mathlib.Core.Bool.{Bool, true, false, cond, not}
use mathlib.Core.List.{List, [], ◌∷◌, ◌++◌}
use Prim.Native.Nat.{ℕ, ◌-◌, ◌<◌}
use native.Mathlib.Omega.{arith}
use borrow.Author.Tests.{eqb-true}
use lib.Dec.{eqb}
use lib.ListN.{length}
use Rattle.base.proofs.Cases.{unsaid}
use Rattle.base.specs.Ring.{ring}
use Rattle.board_guard.proofs.Known.{no}
use Rattle.board_guard.specs.Answers.{turned_of}
use Rattle.board.specs.Steps.{new_call, apply_refused, apply_call, apply_queue}
use Rattle.midi_laws.proofs.Does.{Does, nothing, demand, all-each, each-then}
use Rattle.midi_laws.specs.Laws.{offered, Each, Steady}
use Rattle.midi_laws.specs.Machine.{final, gather}
use Rattle.midi_laws.specs.Model.{midi, never, Act, move, serve, offer}
use Rattle.records.specs.declared.Action.{Action}
use Rattle.script.specs.Entries.{shown}
use Rattle.state.specs.State.{chip_new}
use Rattle.state.specs.Whole.{Whole}
use Rattle.state.specs.declared.Board.{Board}
use Rattle.step.specs.Apply.{apply_of, apply_in}
use Rattle.step.specs.Stages.{now_of, hz_of}
use Rattle.step.specs.Step.{front_place}
use Rattle.times.specs.Clocks.{byte_time}
use Rattle.uart.proofs.Queue.{queue-length}
use Rattle.uart.specs.Uart.{queue_bytes, receives}
use Rattle.promises.specs.Midi.{part_of, part, midi_of, Effect, steps, acts, moves, none, effect_of, offered_in, offered_by, steps_by, offers, byte_time_now, acts_in, acts_of, Promise, EveryRun}
use Rattle.promises.specs.Run.{Held, Call, advance, apply, push, read, write, chip_reset, tick, tick_room, next_tick_due, idle, any_pending, irq_enabled, pending_irq, pending_irq_for, led_take, spi1_start, spi2_start, spi1_irq_off, sr_shift_byte, ms, cycle_of_ms, midi_queued, midi_dropped, set_cycle_ticks, set_skip_idle, set_in_isr, set_room_cap, set_exc_pending, set_spi2_pending, set_usb, set_wdt, stepped, made_refused, made, exec}
use Rattle.promises.proofs.Bytes.{apply-does}
use Rattle.promises.proofs.Calls.{Jack, Same, Later, stays, goes, tick-later, idle-later, read-later, write_same, reset-same, push-same, led-same, spi1-same, spi2-same, spi1-off-same, shift_same, ticks-same, skip-same, isr-same, cap-same, exc-same, spi2-flag-same, usb-same, wdt-same}
use Rattle.promises.proofs.Entries.{applied-rate}
use Rattle.promises.proofs.Steps.{step-does, step-rate, step-offered, offers-given, offers-at}
use Rattle.promises.proofs.Whole.{new-call-whole, calls-keep-whole}

-- ---- an action by hand

module _ (b : Board) (a : Action) (queue : List ℕ) where
  abbrev number : ℕ
  number = apply_refused b (length queue)

  lent : number ≡ 0 → length queue ≡ queue_bytes
  unfolding apply_refused
  lent e = eqb-true (length queue) queue_bytes (unsaid (eqb (length queue) queue_bytes) (no (not (eqb (length queue) queue_bytes)) 1 _ e).0)

  apply-call-does : Whole b
      → Does queue_bytes (part_of b queue) (part_of (apply_call b a (length queue)).board (apply_queue b a queue)) []
      (offers (byte_time (hz_of b.chip)) (cond (eqb (apply_call b a (length queue)).refused 0) (midi_of a) []))
  unfolding apply_call apply_queue offers
  apply-call-does w = go (eqb number 0) refl
    where
      go : (t : Bool) → eqb number 0 ≡ t
          → Does queue_bytes (part_of b queue) (part_of (cond t (turned_of (apply_of b a) 0) (turned_of b number)).board (cond t (apply_in b a queue) queue)) []
          (offers (byte_time (hz_of b.chip)) (cond (eqb (cond t (turned_of (apply_of b a) 0) (turned_of b number)).refused 0) (midi_of a) []))
      go true e = apply-does b a queue w.sound (lent (eqb-true number 0 e))
      go false e = rw e (nothing refl)

  apply-call-rate : hz_of (apply_call b a (length queue)).board.chip ≡ hz_of b.chip
  unfolding apply_call
  apply-call-rate = go (eqb number 0)
    where
      go : (t : Bool) → hz_of (cond t (turned_of (apply_of b a) 0) (turned_of b number)).board.chip ≡ hz_of b.chip
      go true = applied-rate b a
      go false = refl

-- ---- what every call keeps

pub record Good (hz : ℕ) (s : Held) : Type 0 where
  pub whole : Whole s.board
  pub rate : hz_of s.board.chip ≡ hz

-- what a call is to the MIDI part, by its effect
abbrev Fits : Call → Held → Type 0
Fits k s = Does queue_bytes (part s) (part (exec k s)) (steps_by k s) (acts_of k s) × (hz_of (exec k s).board.chip ≡ hz_of s.board.chip)

quiet : (s : Held) (d : Board) → Same s.board d → Does queue_bytes (part s) (part_of d s.queue) [] [] × (hz_of d.chip ≡ hz_of s.board.chip)
quiet s d e = (stays s.board d s.queue e, ap (λ (j : Jack). j.hz) e)

moving : (s : Held) (d : Board) → Later s.board d
    → Does queue_bytes (part s) (part_of d s.queue) [] (move (now_of d.chip - now_of s.board.chip) ∷ []) × (hz_of d.chip ≡ hz_of s.board.chip)
moving s d l = (goes s.board d s.queue l, ap (λ (j : Jack). j.hz) l.is)

fits : (k : Call) (s : Held) → Whole s.board → Fits k s
fits (advance cycles out) s w = (step-does s.board cycles s.script s.places s.queue out w, step-rate s.board cycles s.script s.places s.queue out w)
fits (apply a) s w = (apply-call-does s.board a s.queue w, apply-call-rate s.board a s.queue)
fits (push time a) s w = quiet s (exec (push time a) s).board (push-same s.board (shown s.places (s.script (front_place s.board))) time)
fits (read addr) s w = moving s (exec (read addr) s).board (read-later s.board addr s.icfg s.icfg1)
fits (write addr v h) s w = quiet s (exec (write addr v h) s).board (write_same s.board addr v (length s.icfg) (length s.icfg1))
fits chip_reset s w = quiet s (exec chip_reset s).board (reset-same s.board (length s.icfg) (length s.icfg1))
fits tick s w = moving s (exec tick s).board (tick-later s.board)
fits tick_room s w = quiet s s.board refl
fits next_tick_due s w = quiet s s.board refl
fits idle s w = moving s (exec idle s).board (idle-later s.board)
fits any_pending s w = quiet s s.board refl
fits (irq_enabled core n) s w = quiet s s.board refl
fits pending_irq s w = quiet s s.board refl
fits (pending_irq_for core) s w = quiet s s.board refl
fits led_take s w = quiet s (exec led_take s).board (led-same s.board)
fits (spi1_start bytes baud irq) s w = quiet s (exec (spi1_start bytes baud irq) s).board (spi1-same s.board bytes baud irq)
fits (spi2_start bytes baud irq) s w = quiet s (exec (spi2_start bytes baud irq) s).board (spi2-same s.board bytes baud irq)
fits spi1_irq_off s w = quiet s (exec spi1_irq_off s).board (spi1-off-same s.board)
fits (sr_shift_byte byte) s w = quiet s (exec (sr_shift_byte byte) s).board (shift_same s.board byte)
fits ms s w = quiet s s.board refl
fits (cycle_of_ms n) s w = quiet s s.board refl
fits midi_queued s w = quiet s s.board refl
fits midi_dropped s w = quiet s s.board refl
fits (set_cycle_ticks ticks) s w = quiet s (exec (set_cycle_ticks ticks) s).board (ticks-same s.board ticks)
fits (set_skip_idle on) s w = quiet s (exec (set_skip_idle on) s).board (skip-same s.board on)
fits (set_in_isr on) s w = quiet s (exec (set_in_isr on) s).board (isr-same s.board on)
fits (set_room_cap cap) s w = quiet s (exec (set_room_cap cap) s).board (cap-same s.board cap)
fits (set_exc_pending on) s w = quiet s (exec (set_exc_pending on) s).board (exc-same s.board on)
fits (set_spi2_pending on) s w = quiet s (exec (set_spi2_pending on) s).board (spi2-flag-same s.board on)
fits (set_usb at period) s w = quiet s (exec (set_usb at period) s).board (usb-same s.board at period)
fits (set_wdt at) s w = quiet s (exec (set_wdt at) s).board (wdt-same s.board at)

-- ---- what is offered, and the byte times

pub effect-offered : (e : Effect) (s s' : Held) → offered_in e s ≡ offered (acts_in e s s')
unfolding offered
effect-offered (steps cycles out) s s' =
    step-offered s.board cycles s.script s.places s.queue out (byte_time_now s) (receives s.board.chip.uart)
effect-offered (acts a) s s' = offers-given (byte_time_now s) (offered_in (acts a) s)
effect-offered moves s s' = refl
effect-offered none s s' = refl

effect-steady : (hz : ℕ) (e : Effect) (s s' : Held) → hz_of s.board.chip ≡ hz → Steady (byte_time hz) (acts_in e s s')
unfolding Each
effect-steady hz (steps cycles out) s s' r = go (eqb (stepped s cycles out).refused 0)
  where
    same : byte_time_now s ≡ byte_time hz
    same = ap byte_time r

    go : (t : Bool) → Steady (byte_time hz)
        (cond t (move cycles ∷ serve (byte_time_now s) (receives s.board.chip.uart) ∷ offers (byte_time_now s) (offered_in (steps cycles out) s)) [])
    go true = (same, offers-at (λ t. t ≡ byte_time hz) (byte_time_now s) same (offered_in (steps cycles out) s))
    go false = tt
effect-steady hz (acts a) s s' r = offers-at (λ t. t ≡ byte_time hz) (byte_time_now s) (ap byte_time r) (offered_in (acts a) s)
effect-steady hz moves s s' r = tt
effect-steady hz none s s' r = tt

offered-append : (a l : List Act) → offered (a ++ l) ≡ offered a ++ offered l
unfolding offered
offered-append [] l = refl
offered-append (move n ∷ a) l = offered-append a l
offered-append (serve t on ∷ a) l = offered-append a l
offered-append (offer t b ∷ a) l = ap (λ (r : List ℕ). b ∷ r) (offered-append a l)

offered-all : (l : List Call) (s : Held) → gather exec offered_by s l ≡ offered (gather exec acts_of s l)
unfolding gather offered
offered-all [] s = refl
offered-all (k ∷ l) s =
    rw (offered-append (acts_of k s) (gather exec acts_of (exec k s) l), ← effect-offered (effect_of k) s (exec k s))
    (ap (λ (r : List ℕ). offered_by k s ++ r) (offered-all l (exec k s)))

-- ---- the promise

module _ (hz : ℕ) where
  pub keeps : (k : Call) (s : Held) → Good hz s → Good hz (exec k s)
  keeps k s g = record { whole = calls-keep-whole k s g.whole; rate = (fits k s g.whole).1 ∙ g.rate }

  pub does : (k : Call) (s : Held) → Good hz s → Does queue_bytes (part s) (part (exec k s)) (steps_by k s) (acts_of k s)
  does k s g = (fits k s g.whole).0

  steady : (s : Held) → Good hz s → (l : List Call) → Steady (byte_time hz) (gather exec acts_of s l)
  steady s g l =
      all-each exec queue_bytes part acts_of steps_by (Good hz) keeps does (λ t. t ≡ byte_time hz) (λ k t u. effect-steady hz (effect_of k) t (exec k t) u.rate) l s g

  promised : (s : Held) → Good hz s → (c d : ℕ) → part s ≡ midi c d [] 0 → (l : List Call) → Promise hz s l
  promised s g c d new l =
      let st = steady s g l in
      let pos = each-then (λ t. t ≡ byte_time hz) (λ t. 0 < t) (λ t e. omega (arith, e)) (gather exec acts_of s l) st in
      let p = demand exec queue_bytes part acts_of steps_by (Good hz) keeps does s g c d new l pos in
      let f = final exec s l in
      let q = queue-length f.board.chip.uart f.queue in
      record {
        ends = p.state;
        steps = p.answers;
        offer = offered-all l s;
        laws = p.keep;
        least = p.keep.least (byte_time hz) st;
        bounds = p.keep.bounds (byte_time hz) st;
        total = rw (offered-all l s, p.answers, ← q) (rw (← p.state) at p.keep.total);
      }

pub made-good : (hz : ℕ) (m : Held) → made_refused hz m ≡ 0 → Good hz (made hz m)
unfolding new_call chip_new
made-good hz m e = record { whole = new-call-whole hz (length m.queue) m.places (length m.icfg) (length m.icfg1) e; rate = rw e refl }

pub every-run : EveryRun
unfolding new_call chip_new ring
every-run hz m e l = promised hz (made hz m) (made-good hz m e) 0 never (rw e refl) l
