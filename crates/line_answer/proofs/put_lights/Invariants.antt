use Rattle.line_answer.proofs.Turns.{Left}
use Rattle.line_answer.specs.Answers.{lights_text}
use lib.ListN.{length, drop}
use mathlib.Core.Path.{◌≡◌}
use Rattle.line_answer.proofs.put_lights.Given as goal

abbrev pub invariant-loop-id : goal.invariant-loop-id
invariant-loop-id l =
    (length l.out ≡ length l.initial.out)
    × Left l.initial.out l.to (lights_text 0 l.lights) l.out l.end (lights_text l.id (drop l.id l.lights))
