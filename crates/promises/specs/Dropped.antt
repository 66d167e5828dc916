-- D4, with its reasons: a MIDI byte is dropped only where 3,125 wait as it is offered, or where the UART does not receive as it leaves ("CON0 has 0x41 and end minus start, wrapped, is 1 to 0x10000"). Of
-- each call that a run makes: what enters, what is handed out, and what `dropped` grows by. The laws of crate `midi_laws` alone would hold of a board that drops every byte.
use Rattle.std.specs.Prelude.{Bool, false, cond, ◌&&◌, List, [], ◌++◌, ◌≡◌, ℕ, ◌+◌, ◌-◌, eqb, leb, length, take, drop}
use Rattle.midi_laws.specs.Laws.{handed}
use Rattle.midi_laws.specs.Machine.{final}
use Rattle.step.specs.Stages.{now_of}
use Rattle.uart.specs.Uart.{queue_bytes, queue_of, receives}
use Rattle.promises.specs.Midi.{Effect, steps, acts, moves, none, effect_of, offered_in, steps_in}
use Rattle.promises.specs.Run.{Held, Call, stepped, made_refused, made, exec}

-- the bytes that wait, the first first
abbrev pub waiting : Held → List ℕ
waiting s = queue_of s.board.chip.uart s.queue

-- whether the first one leaves: a step is accepted that ends at or after its due time
abbrev pub leaves : Effect → Held → Bool
leaves (steps cycles out) s = eqb (stepped s cycles out).refused 0 && leb s.board.chip.uart.next (now_of s.board.chip + cycles)
leaves (acts a) s = false
leaves moves s = false
leaves none s = false

-- the byte that leaves, if one does, and those that stay
abbrev pub gone : Bool → List ℕ → List ℕ
gone t q = cond t (take 1 q) []

abbrev pub rest : Bool → List ℕ → List ℕ
rest t q = cond t (drop 1 q) q

-- how many more there is room for
abbrev pub room : List ℕ → ℕ
room q = queue_bytes - length q

-- of a call with this effect, from s to s'
pub record Accounted (e : Effect) (s s' : Held) : Type 0 where
  -- a byte offered to fewer than 3,125 enters, behind those that stay
  pub enters : waiting s' ≡ rest (leaves e s) (waiting s) ++ take (room (rest (leaves e s) (waiting s))) (offered_in e s)
  -- a byte that leaves is handed out exactly where the UART receives
  pub gives : handed (steps_in e s) ≡ cond (receives s.board.chip.uart) (gone (leaves e s) (waiting s)) []
  -- and a byte is counted as dropped exactly where it is not received, or finds no room
  pub drops : s'.board.chip.uart.dropped
      ≡ s.board.chip.uart.dropped + cond (receives s.board.chip.uart) 0 (length (gone (leaves e s) (waiting s)))
      + (length (offered_in e s) - room (rest (leaves e s) (waiting s)))

-- "Over any run of calls from a new board": of the call that comes next
abbrev pub EveryByte : Type 0
EveryByte = (hz : ℕ) (m : Held) → made_refused hz m ≡ 0 → (l : List Call) (k : Call) → Accounted (effect_of k) (final exec (made hz m) l) (exec k (final exec (made hz m) l))
