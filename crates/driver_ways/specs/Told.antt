-- The records of a driver that holds the chip by value and the panel in place: what a record makes of the chip and answers, where the chip alone tells.
use Rattle.std.specs.Prelude.{ℕ, ◌+◌, ◌*◌, cond, List, ltb, set}
use Rattle.base.specs.Moments.{clock_max}
use Rattle.base.specs.Refusals.{FULL, TIME}
use Rattle.board.specs.Calls.{read_chip}
use Rattle.driver_carry.specs.declared.Answer.{Answer}
use Rattle.driver_carry.specs.declared.Answer.TheVariants.{Pushed, Read, Refused}
use Rattle.regs.specs.Reads.{read_of}
use Rattle.script.specs.Script.{full_of, spot_of, pushed_of}
use Rattle.state.specs.Whole.{Whole}
use Rattle.state.specs.With.{due_now, with_script}
use Rattle.state.specs.declared.Chip.{Chip}
use Rattle.state.specs.declared.Panel.{Panel}
use Rattle.step.specs.Apply.{board_of}
use Rattle.driver_ways.specs.declared.Outcome.{Outcome}

-- the chip of some whole board
pub record Part (c : Chip) : Type 0 where
  pub panel : Panel
  pub whole : Whole (board_of c panel)

-- ---- a push, a read

abbrev pub told_by : Chip → Answer → Outcome
told_by c answer = record { chip = c; answer = answer }

unfoldable pub push_out : Chip → ℕ → Outcome
push_out c time =
    cond (full_of c.script) (told_by c (Pushed FULL)) (told_by (due_now (with_script c (pushed_of c.script time))) (Pushed 0))

abbrev pub push_words : Chip → List ℕ → ℕ → ℕ → List ℕ
push_words c ws time w =
    cond (full_of c.script) ws (set (set ws (2 * spot_of c.script) time) (2 * spot_of c.script + 1) w)

-- a poll that would end past 2^53 is refused
unfoldable pub read_out : Chip → ℕ → List ℕ → List ℕ → Outcome
read_out c addr first second =
    cond (ltb clock_max (read_chip c addr).clock.cycles) (told_by c (Refused TIME))
    (told_by (read_chip c addr) (Read addr (read_of (read_chip c addr) first second addr)))
