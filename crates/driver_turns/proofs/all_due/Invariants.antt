use Rattle.std.proofs.Common.{ltb}
use Rattle.script.specs.Script.{entries}
use Rattle.script.specs.Words.{words_at}
use Rattle.step.proofs.Loop.{Loop, left}
use Rattle.step.specs.Step.{runs}
use Rattle.driver_turns.specs.Held.{going_by}
use Rattle.driver_turns.proofs.all_due.Given as goal

abbrev pub invariant-loop-c : goal.invariant-loop-c
invariant-loop-c g l =
    Loop (words_at l.script) entries l.initial.queue l.initial.acts (runs l.initial.c.script.count (words_at l.script) (g.g, (l.initial.queue, l.initial.acts)))
    (going_by l.c l.panel l.written l.applied (ltb 0 l.c.script.count), (l.queue, l.acts))

abbrev pub decreases-loop-c : goal.decreases-loop-c
decreases-loop-c g l = left (going_by l.c l.panel l.written l.applied (ltb 0 l.c.script.count))
