-- Document 01's driver, a record at a time: what carrying out a record makes of all that a driver holds, and what it answers. Every record that can be carried out is one of the public calls
-- (`read_call`, `write_call`, `step_of`, a push), so that the driver has no rule of its own beside the lines.
use Rattle.std.specs.Prelude.{ℕ, true, cond, List, Some, None, Ok, Err, ◌≡◌, eqb, length}
use Rattle.board.specs.Calls.{read_call, write_call, write_first, write_second}
use Rattle.irq.specs.Banks.{bank_words}
use Rattle.records.specs.declared.Order.TheVariants.{Read, Write, Step}
use Rattle.records.specs.Decoded.{RecordAt}
use Rattle.records.specs.declared.Body.{Body}
use Rattle.records.specs.declared.Body.TheVariants.{Timed, Order as Ordered}
use Rattle.script.specs.Entries.{agrees_of}
use Rattle.script.specs.Words.{word_of, words_at, places_in}
use Rattle.state.specs.Whole.{Whole}
use Rattle.state.specs.declared.Board.{Board}
use Rattle.step.specs.Step.{front_place, out_bytes, ran, step_of, pushed_of, Ran}
use Rattle.step.specs.declared.Stepped.{Stepped}
use Rattle.uart.specs.Uart.{queue_bytes}
use Rattle.board_words.specs.Words.{shown_in, spot_in, stored_words}
use Rattle.driver_carry.specs.declared.Answer.{Answer}
use Rattle.driver_carry.specs.declared.Answer.TheVariants.{Pushed, Read as ReadAnswer, Wrote, Stepped as StepAnswer, Refused, Broken, Nothing}
use Rattle.driver_carry.specs.declared.Carried.{Carried}

-- ---- what a driver holds: the board, and the memory that it lends: queue, script (as words), both banks, action output
pub record Bench : Type 0 where
  pub board : Board
  pub queue : List ℕ
  pub script : List ℕ
  pub first : List ℕ
  pub second : List ℕ
  pub acts : List ℕ

abbrev pub bench_of : Board → List ℕ → List ℕ → List ℕ → List ℕ → List ℕ → Bench
bench_of b queue script first second acts =
    record { board = b; queue = queue; script = script; first = first; second = second; acts = acts }

-- the words of 256 entries, of which the front is the one that the record tells of
pub record Agrees (b : Board) (script : List ℕ) : Type 0 where
  pub long : length script ≡ 512
  pub front : agrees_of b.chip.script (shown_in script (front_place b)) ≡ true

-- what a driver knows from record to record
pub record BenchOk (h : Bench) : Type 0 where
  pub whole : Whole h.board
  pub queue : length h.queue ≡ queue_bytes
  pub script : Agrees h.board h.script
  pub first : length h.first ≡ bank_words
  pub second : length h.second ≡ bank_words
  pub acts : length h.acts ≡ out_bytes

-- ---- the answers

-- "`S` number (0 pushed)"
abbrev pub pushed : Board → List ℕ → ℕ → Carried
pushed b script time =
    record { board = (pushed_of (spot_in b script time)).board; answer = Pushed (pushed_of (spot_in b script time)).refused }

-- "A refused read or step prints `E` number"
abbrev pub answer_by : Answer → ℕ → Answer
answer_by done number = cond (eqb number 0) done (Refused number)

-- "`R` address, value or `none`"
abbrev pub read_by : Board → ℕ → List ℕ → List ℕ → Carried
read_by b addr first second =
    record {
      board = (read_call b addr first second).board;
      answer = answer_by (ReadAnswer addr (read_call b addr first second).value) (read_call b addr first second).refused;
    }

-- "`W` address, value, 1 or 0"
abbrev pub wrote_by : Board → ℕ → ℕ → List ℕ → List ℕ → Carried
wrote_by b addr v first second =
    record {
      board = (write_call b addr v (length first) (length second)).board;
      answer = Wrote addr v (write_call b addr v (length first) (length second)).handled;
    }

-- "`A` clock, audio (address/words) or `-`, byte (address/byte) or `-`, actions applied"
abbrev pub told_of : Stepped → Carried
told_of s =
    record {
      board = s.board;
      answer = answer_by (StepAnswer s.board.chip.clock.cycles s.audio_half s.uart_rx s.applied) s.refused;
    }

-- the step over the script's words
abbrev pub step_in : Board → ℕ → List ℕ → List ℕ → List ℕ → Ran
step_in b cycles queue script acts = ran b cycles (words_at script) (places_in script) queue acts

abbrev pub stepped : Board → ℕ → List ℕ → List ℕ → List ℕ → Carried
stepped b cycles queue script acts = told_of (step_of b cycles (words_at script) (places_in script) queue acts)

-- ---- a record carried out: all that the driver holds after it, and what its line says

unfoldable pub carried_out : Bench → Body → Bench
carried_out h (Timed time action) =
    bench_of (pushed h.board h.script time).board h.queue
    (stored_words (spot_in h.board h.script time) h.script time (word_of action))
    h.first h.second h.acts
carried_out h (Ordered (Read addr)) =
    bench_of (read_by h.board addr h.first h.second).board h.queue h.script h.first h.second h.acts
carried_out h (Ordered (Write addr v)) =
    bench_of (wrote_by h.board addr v h.first h.second).board h.queue h.script
    (write_first h.board addr v h.first h.second) (write_second h.board addr v h.first h.second)
    h.acts
carried_out h (Ordered (Step cycles)) =
    bench_of (stepped h.board cycles h.queue h.script h.acts).board
    (step_in h.board cycles h.queue h.script h.acts).1.0 h.script h.first h.second
    (step_in h.board cycles h.queue h.script h.acts).1.1

abbrev pub after : Bench → RecordAt → Bench
after h (Ok (Some r)) = carried_out h r.body
after h (Ok None) = h
after h (Err b) = h

unfoldable pub said : Bench → Body → Answer
said h (Timed time action) = (pushed h.board h.script time).answer
said h (Ordered (Read addr)) = (read_by h.board addr h.first h.second).answer
said h (Ordered (Write addr v)) = (wrote_by h.board addr v h.first h.second).answer
said h (Ordered (Step cycles)) = (stepped h.board cycles h.queue h.script h.acts).answer

-- "a broken or cut-off record prints `X` and its first byte's offset, and ends"
abbrev pub answer_of : Bench → RecordAt → Answer
answer_of h (Ok (Some r)) = said h r.body
answer_of h (Ok None) = Nothing
answer_of h (Err b) = Broken b.at
