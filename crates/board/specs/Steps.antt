-- Making a board, an action by hand, a chip reset.
use Rattle.std.specs.Prelude.{ℕ, cond, not, List, eqb, leb, ltb, length}
use Rattle.records.specs.declared.Action.{Action}
use Rattle.script.specs.Script.{entries}
use Rattle.state.specs.State.{board_whole, board_new}
use Rattle.state.specs.declared.Board.{Board}
use Rattle.step.specs.Apply.{apply_of, apply_in}
use Rattle.step.specs.Reset.{chip_reset_of, zeroed}
use Rattle.uart.specs.Uart.{queue_bytes}
use Rattle.board_guard.specs.Answers.{turned_of}
use Rattle.base.specs.Limits.{rate_min, rate_max}
use Rattle.base.specs.Refusals.{CLOCK, SIZE, STATE, COUNT, count_max}
use Rattle.board_guard.specs.Refusals.{size_of, banks_refused}
use Rattle.board_guard.specs.declared.Done.{Done}

-- ---- "Making a board checks 1, then 2, zeroes both banks, starts with queue and script empty and leaves their memory untouched"

unfoldable pub rate_refused : ℕ → ℕ
rate_refused hz = cond (ltb hz rate_min) CLOCK (cond (ltb rate_max hz) CLOCK 0)

unfoldable pub new_refused : ℕ → ℕ → ℕ → ℕ → ℕ → ℕ
new_refused hz queue script first second =
    cond (not (eqb (rate_refused hz) 0)) CLOCK
    (cond (not (eqb queue queue_bytes)) SIZE
    (cond (not (eqb script entries)) SIZE (size_of first second)))

-- a refused one answers a record with rate 0, which is not whole
unfoldable pub new_call : ℕ → ℕ → ℕ → ℕ → ℕ → Done
new_call hz queue script first second =
    cond (eqb (new_refused hz queue script first second) 0) (turned_of (board_new hz) 0)
    (turned_of (board_new 0) (new_refused hz queue script first second))

abbrev pub new_bank : ℕ → List ℕ → List ℕ
new_bank refused bank = cond (eqb refused 0) (zeroed bank) bank

-- ---- actions and reset

-- `dropped` below 2^62, whatever the action
unfoldable pub apply_refused : Board → ℕ → ℕ
apply_refused b queue =
    cond (not (eqb queue queue_bytes)) SIZE (cond (not (board_whole b)) STATE (cond (leb count_max b.chip.uart.dropped) COUNT 0))

unfoldable pub apply_call : Board → Action → ℕ → Done
apply_call b a queue = cond (eqb (apply_refused b queue) 0) (turned_of (apply_of b a) 0) (turned_of b (apply_refused b queue))

unfoldable pub apply_queue : Board → Action → List ℕ → List ℕ
apply_queue b a queue = cond (eqb (apply_refused b (length queue)) 0) (apply_in b a queue) queue

unfoldable pub reset_call : Board → ℕ → ℕ → Done
reset_call b first second = cond (eqb (banks_refused b first second) 0) (turned_of (chip_reset_of b) 0) (turned_of b (banks_refused b first second))

unfoldable pub reset_first : Board → List ℕ → List ℕ → List ℕ
reset_first b icfg icfg1 = cond (eqb (banks_refused b (length icfg) (length icfg1)) 0) (zeroed icfg) icfg

unfoldable pub reset_second : Board → List ℕ → List ℕ → List ℕ
reset_second b icfg icfg1 = cond (eqb (banks_refused b (length icfg) (length icfg1)) 0) (zeroed icfg1) icfg1
