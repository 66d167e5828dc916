-- What the step's loop keeps, whoever holds the script; the turns that are left grow fewer.
use Rattle.std.proofs.Common.{length}
use Rattle.script.specs.Entries.{entries_at}
use Rattle.step.proofs.Loop.{Loop, left}
use Rattle.step.specs.Step.{ran}
use Rattle.board_entries.proofs.advance.Given as goal

abbrev pub invariant-loop-g : goal.invariant-loop-g
invariant-loop-g l =
    Loop (entries_at l.script) (length l.script) l.fn.queue l.fn.out (ran l.fn.b l.fn.cycles (entries_at l.script) (length l.script) l.fn.queue l.fn.out) (l.g, (l.queue, l.out))

abbrev pub decreases-loop-g : goal.decreases-loop-g
decreases-loop-g l = left l.g
