-- What is asked of a record: each call as `board` and `board_words` promise it.
use Rattle.std.specs.Prelude.{ℕ, true, List, [], ◌∷◌, Option, get_or, replicate}
use Rattle.board.specs.Calls.{read_call}
use Rattle.board_runner.specs.Calls.{ms_call, tick_call, idle_call, spi1_call, spi2_call}
use Prim.Native.String.{String}
use Rattle.text.specs.Tables.{named}
use Rattle.refusals_lines.specs.declared.Answer.{Answer}
use Rattle.refusals_lines.specs.declared.Answer.TheVariants.{Three}
use Rattle.refusals_rows.specs.Rows.{board_from, low, placed}
use Rattle.state.specs.declared.Board.{Board}
use Rattle.refusals_whole.specs.declared.asks.Call.{Call}
use Rattle.refusals_whole.specs.declared.asks.Call.TheVariants.{Step, Push, Apply, Tick, Idle, Read, Spi1Start, Spi2Start}
use Rattle.refusals_whole.specs.Lent.{step_tried, push_tried, apply_tried}

abbrev pub calls : List (String × Call)
calls =
    ("step", Step) ∷ ("push", Push) ∷ ("apply", Apply) ∷ ("tick", Tick) ∷ ("idle", Idle) ∷ ("read", Read)
    ∷ ("spi1_start", Spi1Start) ∷ ("spi2_start", Spi2Start) ∷ []

unfoldable pub call_of : List ℕ → Option Call
call_of = named calls

-- "`ms`, a step of no cycles, a push", lent what they want
abbrev pub three_of : Board → Answer
three_of b =
    Three (ms_call b).refused (step_tried b 0 3125 512 4352 b.chip.script.at) (push_tried b 512 b.chip.script.at)

-- of the record with a number at a place of a row
abbrev pub three_at : List (List ℕ) → ℕ → ℕ → ℕ → Answer
three_at rows k i v = three_of (board_from (placed rows k i v))

abbrev pub read_tried : Board → ℕ → ℕ
read_tried b addr = (read_call b addr (replicate 32 0) (replicate 32 0)).refused

unfoldable pub asked_of : Board → Call → List ℕ → ℕ
asked_of b Step n = step_tried b (get_or n 0 0) (get_or n 1 0) (get_or n 2 0) (get_or n 3 0) (get_or n 4 0)
asked_of b Push n = push_tried b (get_or n 0 0) (get_or n 1 0)
asked_of b Apply n = apply_tried b (get_or n 0 0) (get_or n 1 0)
asked_of b Tick n = (tick_call b).refused
asked_of b Idle n = (idle_call b).refused
asked_of b Read n = read_tried b (low (get_or n 0 0))
asked_of b Spi1Start n = (spi1_call b (low (get_or n 0 0)) (low (get_or n 1 0)) true).refused
asked_of b Spi2Start n = (spi2_call b (low (get_or n 0 0)) (low (get_or n 1 0)) true).refused
