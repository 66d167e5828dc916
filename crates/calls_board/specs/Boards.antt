-- What a line does: each call as `board` and `board_words` promise it, and what the lent memory is after it.
use Rattle.std.specs.Prelude.{ℕ, cond, List, eqb, length}
use Rattle.line_ask.specs.declared.Ask.{Ask}
use Rattle.line_ask.specs.declared.Ask.TheVariants.{
  Step,
  Read,
  Write,
  Tick,
  Led,
  State,
  Room,
  Ms,
  NextTick,
  Pending,
  CyclesOf,
  Irq,
  Enabled,
  Idle,
  Spi1Off,
  Shift,
  Usb,
  Wdt,
  Spi1,
  Spi2,
  New,
  Reset,
  Push,
  Apply,
  Set,
  Port,
  Name,
  Unknown,
  TooLong,
  Nothing,
}
use Rattle.board.specs.Calls.{write_first, write_second}
use Rattle.board_runner.specs.Calls.{
  led_call,
  idle_call,
  shift_call,
  usb_call,
  wdt_call,
  spi1_call,
  spi2_call,
  spi1_off_call,
  room_call,
  ms_call,
  cycles_call,
  next_due_call,
  any_call,
  choice_call,
  enabled_call,
}
use Rattle.board.specs.Steps.{new_call, new_refused, new_bank, reset_call, reset_first, reset_second, apply_queue}
use Rattle.board_guard.specs.declared.Done.{Done}
use Rattle.calls_unlent.specs.Deeds.{done_of, set_of, ticked_of}
use Rattle.calls_unlent.specs.Looks.{counted_of, flagged_of, chosen_of, state_of}
use Rattle.calls_lent.specs.Lent.{ran_words, stepped_in, pushed_in, stored_in, applied_in, lit_as, reading_of, written_of}
use Rattle.calls_answers.specs.Outcomes.{named_as}
use Rattle.calls_answers.specs.declared.Boarded.{Boarded}
use Rattle.calls_answers.specs.declared.Tells.TheVariants.{Done as Zero, Number, Spi1 as Wire, Clock}
use Rattle.line_answer.specs.declared.Answer.{Answer}
use Rattle.line_answer.specs.declared.Answer.TheVariants.{NoCall, LongLine, NoLine}
use Rattle.state.specs.declared.Board.{Board}
use Rattle.script.specs.Script.{entries}
use Rattle.uart.specs.Uart.{queue_bytes}
use Rattle.calls_board.specs.declared.Memory.{Memory}

-- ---- a new board, a reset

-- `new`: the old board stays where the new one is refused
unfoldable pub kept : Board → Done → Done
kept b made = cond (eqb made.refused 0) made (record { board = b; refused = made.refused })

unfoldable pub renewed_of : Board → ℕ → List ℕ → List ℕ → Boarded
renewed_of b hz first second = done_of Number (kept b (new_call hz queue_bytes entries (length first) (length second)))

abbrev pub made_refused : ℕ → List ℕ → List ℕ → ℕ
made_refused hz first second = new_refused hz queue_bytes entries (length first) (length second)

unfoldable pub reset_of : Board → List ℕ → List ℕ → Boarded
reset_of b first second = done_of Zero (reset_call b (length first) (length second))

-- ---- any line

-- the board as it is
abbrev pub looked_of : Board → Answer → Boarded
looked_of b answer = record { board = b; answer = answer }

unfoldable pub boarded_of : Board → Ask → Memory → Boarded
boarded_of b (Step cycles) m = stepped_in b cycles m.script m.queue
boarded_of b (Push time action) m = pushed_in b time m.script
boarded_of b (Apply action) m = applied_in b action m.queue
boarded_of b Led m = lit_as (led_call b)
boarded_of b (Read addr) m = reading_of b addr m.icfg m.icfg1
boarded_of b (Write addr value) m = written_of b addr value m.icfg m.icfg1
boarded_of b (New hz) m = renewed_of b hz m.icfg m.icfg1
boarded_of b Reset m = reset_of b m.icfg m.icfg1
boarded_of b Tick m = ticked_of b
boarded_of b Idle m = done_of Clock (idle_call b)
boarded_of b (Shift byte) m = done_of Zero (shift_call b byte)
boarded_of b (Usb at period) m = done_of Number (usb_call b at period)
boarded_of b (Wdt at) m = done_of Number (wdt_call b at)
boarded_of b (Spi1 bytes baud irq) m = done_of Wire (spi1_call b bytes baud irq)
boarded_of b (Spi2 bytes baud irq) m = done_of Zero (spi2_call b bytes baud irq)
boarded_of b Spi1Off m = done_of Zero (spi1_off_call b)
boarded_of b (Set setting) m = done_of Zero (set_of b setting)
boarded_of b State m = looked_of b (state_of b)
boarded_of b Room m = looked_of b (counted_of (room_call b))
boarded_of b Ms m = looked_of b (counted_of (ms_call b))
boarded_of b (CyclesOf ms) m = looked_of b (counted_of (cycles_call b ms))
boarded_of b NextTick m = looked_of b (flagged_of (next_due_call b))
boarded_of b Pending m = looked_of b (flagged_of (any_call b))
boarded_of b (Irq core) m = looked_of b (chosen_of (choice_call b core m.icfg m.icfg1))
boarded_of b (Enabled core irq) m = looked_of b (flagged_of (enabled_call b core irq m.icfg m.icfg1))
boarded_of b (Name id) m = looked_of b (named_as id)
boarded_of b (Port call) m = looked_of b NoCall
boarded_of b Unknown m = looked_of b NoCall
boarded_of b TooLong m = looked_of b LongLine
boarded_of b Nothing m = looked_of b NoLine

-- what of the memory is changed

abbrev pub with_queue : Memory → List ℕ → Memory
with_queue m queue = record { queue = queue; script = m.script; icfg = m.icfg; icfg1 = m.icfg1; lights = m.lights }

abbrev pub with_script : Memory → List ℕ → Memory
with_script m script = record { queue = m.queue; script = script; icfg = m.icfg; icfg1 = m.icfg1; lights = m.lights }

abbrev pub with_banks : Memory → List ℕ → List ℕ → Memory
with_banks m first second = record { queue = m.queue; script = m.script; icfg = first; icfg1 = second; lights = m.lights }

abbrev pub with_lights : Memory → List ℕ → Memory
with_lights m lights = record { queue = m.queue; script = m.script; icfg = m.icfg; icfg1 = m.icfg1; lights = lights }

unfoldable pub memory_after : Board → Ask → Memory → Memory
memory_after b (Step cycles) m = with_queue m (ran_words b cycles m.script m.queue).1.0
memory_after b (Push time action) m = with_script m (stored_in b time action m.script)
memory_after b (Apply action) m = with_queue m (apply_queue b action m.queue)
memory_after b Led m = with_lights m (led_call b).lit
memory_after b (Write addr value) m =
    with_banks m (write_first b addr value m.icfg m.icfg1) (write_second b addr value m.icfg m.icfg1)
memory_after b (New hz) m =
    with_banks m (new_bank (made_refused hz m.icfg m.icfg1) m.icfg) (new_bank (made_refused hz m.icfg m.icfg1) m.icfg1)
memory_after b Reset m = with_banks m (reset_first b m.icfg m.icfg1) (reset_second b m.icfg m.icfg1)
memory_after b ask m = m
