-- The calls of registers, each by its refusals in document 01's order and by what it does where there is none.
use Rattle.std.specs.Prelude.{ℕ, cond, false, not, List, eqb, ltb, length, Some, None}
use Rattle.base.specs.Moments.{clock_max}
use Rattle.regs.specs.Reads.{read_of, polls_at, polled_of}
use Rattle.regs.specs.Writes.{handled_at, board_written, first_written, second_written}
use Rattle.state.specs.State.{board_whole}
use Rattle.state.specs.With.{with_chip}
use Rattle.state.specs.declared.Board.{Board}
use Rattle.state.specs.declared.Chip.{Chip}
use Rattle.timers.specs.Timer4.{t4_cnt}
use Rattle.base.specs.Refusals.{SIZE, STATE, TIME}
use Rattle.board_guard.specs.Refusals.{size_of, banks_refused}
use Rattle.board.specs.declared.Reading.{Reading}
use Rattle.board.specs.declared.Written.{Written}

-- the chip that a read finds: after a poll, where the read is one
unfoldable pub read_chip : Chip → ℕ → Chip
read_chip c addr = cond (polls_at c addr) (polled_of c) c

-- a skipping count read that would end past 2^53
unfoldable pub read_refused : Board → ℕ → ℕ → ℕ → ℕ
read_refused b addr first second =
    cond (not (eqb (size_of first second) 0)) SIZE
    (cond (not (board_whole b)) STATE
    (cond (polls_at b.chip addr) (cond (ltb clock_max (polled_of b.chip).clock.cycles) TIME 0) 0))

abbrev pub no_read : Board → ℕ → Reading
no_read b n = record { board = b; refused = n; value = None }

-- TIMER4's count where the read of it is a poll
unfoldable pub counted_of : Board → Reading
counted_of b =
    let c = polled_of b.chip in
    cond (ltb clock_max c.clock.cycles) (no_read b TIME)
    (record { board = with_chip b c; refused = 0; value = Some (t4_cnt c.t4 c.clock.cycles c.clock.hz) })

unfoldable pub read_call : Board → ℕ → List ℕ → List ℕ → Reading
read_call b addr icfg icfg1 =
    cond (eqb (read_refused b addr (length icfg) (length icfg1)) 0)
    (record { board = with_chip b (read_chip b.chip addr); refused = 0; value = read_of (read_chip b.chip addr) icfg icfg1 addr })
    (no_read b (read_refused b addr (length icfg) (length icfg1)))

unfoldable pub write_call : Board → ℕ → ℕ → ℕ → ℕ → Written
write_call b addr v first second =
    cond (eqb (banks_refused b first second) 0) (record { board = board_written b addr v; refused = 0; handled = handled_at addr })
    (record { board = b; refused = banks_refused b first second; handled = false })

-- the banks after it
unfoldable pub write_first : Board → ℕ → ℕ → List ℕ → List ℕ → List ℕ
write_first b addr v icfg icfg1 = cond (eqb (banks_refused b (length icfg) (length icfg1)) 0) (first_written icfg addr v) icfg

unfoldable pub write_second : Board → ℕ → ℕ → List ℕ → List ℕ → List ℕ
write_second b addr v icfg icfg1 = cond (eqb (banks_refused b (length icfg) (length icfg1)) 0) (second_written icfg1 addr v) icfg1
