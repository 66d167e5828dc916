-- The calls that are lent memory, each what `board` and `board_words` promise of it, and what it answers.
use Rattle.std.specs.Prelude.{ℕ, List, length, replicate}
use Rattle.board.specs.Calls.{read_call, write_call}
use Rattle.board.specs.Steps.{apply_call}
use Rattle.board_runner.specs.declared.Lit.{Lit}
use Rattle.board.specs.declared.Reading.{Reading}
use Rattle.board.specs.declared.Written.{Written}
use Rattle.calls_answers.specs.Outcomes.{step_answer, read_answer}
use Rattle.calls_answers.specs.declared.Boarded.{Boarded}
use Rattle.records.specs.declared.Action.{Action}
use Rattle.script.specs.Words.{word_of, words_at, places_in}
use Rattle.state.specs.declared.Board.{Board}
use Rattle.step.specs.Step.{Ran, ran, finished_of, out_bytes}
use Rattle.step.specs.declared.Stepped.{Stepped}
use Rattle.line_answer.specs.Answers.{unless_refused}
use Rattle.line_answer.specs.declared.Answer.TheVariants.{Number, Lights, Flag}
use Rattle.board_words.specs.Words.{spot_in, stored_words}

unfoldable pub came_to : Stepped → Boarded
came_to s = record {
  board = s.board;
  answer = step_answer s.refused s.board.chip.clock.cycles s.audio_half s.uart_rx s.usb_frame s.wdt s.applied;
}

-- a step over the words, with room of its own for the records of its actions
unfoldable pub ran_words : Board → ℕ → List ℕ → List ℕ → Ran
ran_words b n script queue = ran b n (words_at script) (places_in script) queue (replicate out_bytes 0)

unfoldable pub stepped_in : Board → ℕ → List ℕ → List ℕ → Boarded
stepped_in b n script queue = came_to (finished_of (ran_words b n script queue).0)

-- `push` and `apply` answer the refusal's number itself
abbrev pub numbered : Board → ℕ → Boarded
numbered after refused = record { board = after; answer = Number refused }

abbrev pub pushed_in : Board → ℕ → List ℕ → Boarded
pushed_in b time script = numbered (spot_in b script time).board (spot_in b script time).refused

abbrev pub stored_in : Board → ℕ → Action → List ℕ → List ℕ
stored_in b time action script = stored_words (spot_in b script time) script time (word_of action)

abbrev pub applied_in : Board → Action → List ℕ → Boarded
applied_in b action queue = numbered (apply_call b action (length queue)).board (apply_call b action (length queue)).refused

-- the span, before the lights
abbrev pub lit_as : Lit → Boarded
lit_as l = record { board = l.board; answer = unless_refused l.refused (Lights l.span) }

-- ---- registers

abbrev pub reading_as : Reading → Boarded
reading_as r = record { board = r.board; answer = read_answer r.refused r.value r.board.chip.clock }

unfoldable pub reading_of : Board → ℕ → List ℕ → List ℕ → Boarded
reading_of b addr first second = reading_as (read_call b addr first second)

abbrev pub written_as : Written → Boarded
written_as w = record { board = w.board; answer = unless_refused w.refused (Flag w.handled) }

unfoldable pub written_of : Board → ℕ → ℕ → List ℕ → List ℕ → Boarded
written_of b addr v first second = written_as (write_call b addr v (length first) (length second))
