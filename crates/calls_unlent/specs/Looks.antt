-- What a call that leaves the board as it is answers.
use Rattle.std.specs.Prelude.{Option, Some, None}
use Rattle.board_runner.specs.declared.Chosen.{Chosen}
use Rattle.board_runner.specs.declared.Flag.{Flag}
use Rattle.board_runner.specs.declared.Number.{Number}
use Rattle.irq.specs.declared.Choice.{Choice}
use Rattle.state.specs.declared.Board.{Board}
use Rattle.line_answer.specs.Answers.{unless_refused}
use Rattle.line_answer.specs.declared.Answer.{Answer}
use Rattle.line_answer.specs.declared.Answer.TheVariants.{Number as Numbered, Flag as Flagged, Pair, NoValue, State}

abbrev pub counted_of : Number → Answer
counted_of n = unless_refused n.refused (Numbered n.value)

abbrev pub flagged_of : Flag → Answer
flagged_of f = unless_refused f.refused (Flagged f.is)

-- number and priority, or `none`
unfoldable pub choice_told : Option Choice → Answer
choice_told (Some c) = Pair c.irq c.prio
choice_told None = NoValue

abbrev pub chosen_of : Chosen → Answer
chosen_of c = unless_refused c.refused (choice_told c.choice)

-- clock, due, skipped, halves, queued, dropped, script, wire, done, vel
abbrev pub state_of : Board → Answer
state_of b =
    State
    b.chip.clock.cycles
    b.chip.clock.next_due
    b.chip.clock.skipped
    b.chip.audio.halves
    b.chip.uart.count
    b.chip.uart.dropped
    b.chip.script.count
    b.chip.spi.spi1_wire
    b.chip.spi.spi1_done_at
    b.chip.keys.vel
