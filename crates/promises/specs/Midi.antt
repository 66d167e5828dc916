-- Demand 3 on the board: "Over any run of calls from a new board, MIDI bytes leave in the first accepted step at or after their due time, once, in order, within 01's bounds, and none is
-- unaccounted for." The laws are those of crate `midi_laws`; here is what they are laws of.
use Rattle.std.specs.Prelude.{cond, List, [], ◌∷◌, ◌++◌, ◌≡◌, ℕ, zero, suc, ◌+◌, ◌*◌, ◌-◌, ◌%◌, ◌≤◌, ◌<◌, eqb, length, Option, Some, None}
use Rattle.board.specs.Steps.{apply_call}
use Rattle.midi_laws.specs.Laws.{in_at, out_at, handed, offered, Prompt, Bound, MidiLaws}
use Rattle.midi_laws.specs.Machine.{final, gather}
use Rattle.midi_laws.specs.Model.{Midi, midi, Act, move, serve, offer, Step, Hist, run}
use Rattle.records.specs.declared.Action.{Action}
use Rattle.records.specs.declared.Action.TheVariants.{Key, Enc, Adc, Midi as MidiByte, KeyVel, Pressure}
use Rattle.script.specs.Script.{entries}
use Rattle.script.specs.declared.Entry.{Entry}
use Rattle.state.specs.declared.Board.{Board}
use Rattle.step.specs.Stages.{now_of, hz_of}
use Rattle.step.specs.Step.{front_place}
use Rattle.step.specs.declared.Stepped.{Stepped}
use Rattle.times.specs.Clocks.{byte_time}
use Rattle.uart.specs.Uart.{queue_bytes, queue_of, receives}
use Rattle.uart.specs.declared.Byte.{Byte}
use Rattle.promises.specs.Run.{Held, Call, advance, apply, push, read, write, chip_reset, tick, tick_room, next_tick_due, idle, any_pending, irq_enabled, pending_irq, pending_irq_for, led_take, spi1_start, spi2_start, spi1_irq_off, sr_shift_byte, ms, cycle_of_ms, midi_queued, midi_dropped, set_cycle_ticks, set_skip_idle, set_in_isr, set_room_cap, set_exc_pending, set_spi2_pending, set_usb, set_wdt, stepped, made_refused, made, exec}

-- ---- the MIDI part of a board and its queue

abbrev pub part_of : Board → List ℕ → Midi
part_of b queue = midi (now_of b.chip) b.chip.uart.next (queue_of b.chip.uart queue) b.chip.uart.dropped

abbrev pub part : Held → Midi
part s = part_of s.board s.queue

-- ---- what the calls' own answers tell

-- the MIDI byte of an action, if it has one
abbrev pub midi_of : Action → List ℕ
midi_of (Key id down) = []
midi_of (Enc enc clicks) = []
midi_of (Adc ch value) = []
midi_of (MidiByte b) = b ∷ []
midi_of (KeyVel vel) = []
midi_of (Pressure id vel) = []

-- those of k entries from a place on, round the script's end
unfoldable pub midi_from : (ℕ → Entry) → ℕ → ℕ → List ℕ
midi_from look place zero = []
midi_from look place (suc k) = midi_of (look place).action ++ midi_from look ((place + 1) % entries) k

-- what a call may do to it: a step, an action by hand, a move of the clock, or nothing
pub data Effect : Type 0 where
  steps : (cycles : ℕ) (out : List ℕ) → Effect
  acts : (action : Action) → Effect
  moves : Effect
  none : Effect

abbrev pub effect_of : Call → Effect
effect_of (advance cycles out) = steps cycles out
effect_of (apply a) = acts a
effect_of (push time a) = none
effect_of (read addr) = moves
effect_of (write addr v fits) = none
effect_of chip_reset = none
effect_of tick = moves
effect_of tick_room = none
effect_of next_tick_due = none
effect_of idle = moves
effect_of any_pending = none
effect_of (irq_enabled core n) = none
effect_of pending_irq = none
effect_of (pending_irq_for core) = none
effect_of led_take = none
effect_of (spi1_start bytes baud irq) = none
effect_of (spi2_start bytes baud irq) = none
effect_of spi1_irq_off = none
effect_of (sr_shift_byte byte) = none
effect_of ms = none
effect_of (cycle_of_ms n) = none
effect_of midi_queued = none
effect_of midi_dropped = none
effect_of (set_cycle_ticks ticks) = none
effect_of (set_skip_idle on) = none
effect_of (set_in_isr on) = none
effect_of (set_room_cap cap) = none
effect_of (set_exc_pending on) = none
effect_of (set_spi2_pending on) = none
effect_of (set_usb at period) = none
effect_of (set_wdt at) = none

-- the bytes that applied actions offer: of a step, those of as many entries from the front on as its answer says were applied (a refused one applies none; the records that it wrote to its
-- output tell the same: specs/Output); of an action by hand, its own if the answer says 0
abbrev pub offered_in : Effect → Held → List ℕ
offered_in (steps cycles out) s = midi_from s.script (front_place s.board) (stepped s cycles out).applied
offered_in (acts a) s = cond (eqb (apply_call s.board a (length s.queue)).refused 0) (midi_of a) []
offered_in moves s = []
offered_in none s = []

abbrev pub offered_by : Call → Held → List ℕ
offered_by k s = offered_in (effect_of k) s

-- the byte that a step's answer hands out
abbrev pub gave_of : Option Byte → List ℕ
gave_of (Some x) = x.b ∷ []
gave_of None = []

-- an accepted step: the clock that it answers, and the byte
abbrev pub step_of_answer : Stepped → List Step
step_of_answer r = cond (eqb r.refused 0) (record { at = now_of r.board.chip; gave = gave_of r.uart_rx } ∷ []) []

abbrev pub steps_in : Effect → Held → List Step
steps_in (steps cycles out) s = step_of_answer (stepped s cycles out)
steps_in (acts a) s = []
steps_in moves s = []
steps_in none s = []

abbrev pub steps_by : Call → Held → List Step
steps_by k s = steps_in (effect_of k) s

-- ---- what a call does to the MIDI part

unfoldable pub offers : ℕ → List ℕ → List Act
offers t [] = []
offers t (b ∷ l) = offer t b ∷ offers t l

abbrev pub byte_time_now : Held → ℕ
byte_time_now s = byte_time (hz_of s.board.chip)

-- before and after it: a call that can only move the clock moves it by as much as its answer's clock says
abbrev pub acts_in : Effect → Held → Held → List Act
acts_in (steps cycles out) s s' =
    cond (eqb (stepped s cycles out).refused 0)
    (move cycles ∷ serve (byte_time_now s) (receives s.board.chip.uart) ∷ offers (byte_time_now s) (offered_in (steps cycles out) s)) []
acts_in (acts a) s s' = offers (byte_time_now s) (offered_in (acts a) s)
acts_in moves s s' = move (now_of s'.board.chip - now_of s.board.chip) ∷ []
acts_in none s s' = []

abbrev pub acts_of : Call → Held → List Act
acts_of k s = acts_in (effect_of k) s (exec k s)

-- ---- the promise

-- the history of the calls l
abbrev pub history : Held → List Call → Hist
history s l = run queue_bytes 0 (part s) (gather exec acts_of s l)

-- of the calls l from s, a state whose board has the rate hz
pub record Promise (hz : ℕ) (s : Held) (l : List Call) : Type 0 where
  -- the history is the run's: it ends in the board that the calls leave, its steps are the accepted ones with what they answer, and what is offered is what the answers tell
  pub ends : part (final exec s l) ≡ (history s l).end
  pub steps : gather exec steps_by s l ≡ (history s l).steps
  pub offer : gather exec offered_by s l ≡ offered (gather exec acts_of s l)
  -- D1, D2 and the rest, as crate `midi_laws` has them
  pub laws : MidiLaws (gather exec acts_of s l) (history s l)
  -- D3: "leave − entry is at least k byte times and at most (k+1)·(byte time + D), k the bytes ahead at entry"
  pub least : (n : ℕ) → n < length (history s l).outs
      → (in_at (history s l).ins n).at + (in_at (history s l).ins n).ahead * byte_time hz ≤ (out_at (history s l).outs n).at
  pub bounds : (D n : ℕ) → n < length (history s l).ins → Prompt D (history s l) n → Bound (byte_time hz) D (history s l) n
  -- D4: "offered by applied actions = handed out + dropped + waiting"
  pub total : length (gather exec offered_by s l)
      ≡ length (handed (gather exec steps_by s l)) + (final exec s l).board.chip.uart.dropped + (final exec s l).board.chip.uart.count

-- "Over any run of calls from a new board"
abbrev pub EveryRun : Type 0
EveryRun = (hz : ℕ) (m : Held) → made_refused hz m ≡ 0 → (l : List Call) → Promise hz (made hz m) l
