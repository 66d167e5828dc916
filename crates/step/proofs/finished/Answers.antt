use mathlib.Core.Bool.{Bool, true, false, cond}
use mathlib.Core.Path.{◌≡◌, refl}
use Rattle.state.specs.State.{next_event}
use Rattle.state.specs.With.{due_at, with_chip}
use Rattle.state.specs.declared.Board.{Board}
use Rattle.step.specs.Step.{finished_of, settled}
use Rattle.step.proofs.finished.Goals as goal

known-when : (served : Bool) (b : Board) → settled served b ≡ with_chip b (due_at b.chip (cond served (next_event b.chip) b.chip.clock.next_due))
known-when true b = refl
known-when false b = refl

pub returns : goal.returns
unfolding finished_of
returns c = rw (c.due-next.ensures, known-when c.args.g.served c.args.g.board)
