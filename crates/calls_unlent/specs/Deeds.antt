-- The calls that are lent nothing, each what `board` promises of it.
use Rattle.std.specs.Prelude.{ℕ, Bool}
use Rattle.board_runner.specs.Calls.{ticks_call, cap_call, skip_call, isr_call, exc_call, spi2_flag_call, tick_call}
use Rattle.board_guard.specs.declared.Done.{Done}
use Rattle.state.specs.declared.Board.{Board}
use Rattle.line_answer.specs.Answers.{unless_refused}
use Rattle.line_answer.specs.declared.Answer.TheVariants.{Flag}
use Rattle.line_ask.specs.declared.Setting.{Setting}
use Rattle.line_ask.specs.declared.Setting.TheVariants.{CycleTicks, RoomCap, SkipIdle, InIsr, Exc, Spi2Pending}
use Rattle.calls_answers.specs.Outcomes.{told_of}
use Rattle.calls_answers.specs.declared.Boarded.{Boarded}
use Rattle.calls_answers.specs.declared.Tells.{Tells}

unfoldable pub set_of : Board → Setting → Done
set_of b (CycleTicks n) = ticks_call b n
set_of b (RoomCap n) = cap_call b n
set_of b (SkipIdle on) = skip_call b on
set_of b (InIsr on) = isr_call b on
set_of b (Exc on) = exc_call b on
set_of b (Spi2Pending on) = spi2_flag_call b on

unfoldable pub done_of : Tells → Done → Boarded
done_of tells d = record { board = d.board; answer = told_of tells d.refused d.board.chip.spi d.board.chip.clock }

unfoldable pub ticked_of : Board → Boarded
ticked_of b = record { board = (tick_call b).board; answer = unless_refused (tick_call b).refused (Flag (tick_call b).due) }
