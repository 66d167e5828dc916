use mathlib.Core.Path.{refl, ◌∙◌, ap}
use borrow.Author.Tests.{lt-ltb, le-ltb}
use native.Mathlib.Omega.{arith}
use Rattle.script.specs.declared.Script.{Script}
use Rattle.state.specs.declared.Board.{Board}
use Rattle.state.specs.With.{with_chip, with_script}
use Rattle.step.specs.Apply.{apply_in}
use Rattle.step.specs.Step.{turned_of, queue_of, out_of}
use Rattle.step.proofs.Turns.{shorter-kept, has_room}
use Rattle.step.proofs.turned.Goals as goal

pub returns-then-g-e : goal.returns-then-g-e
unfolding turned_of queue_of out_of
returns-then-g-e c = rw (lt-ltb _ _ c.if-g-e.true, c.scripted-g.ensures, c.looked-noted.ensures) (refl, refl, refl)

pub apply-g-requires : goal.apply-g-requires
apply-g-requires c = rw (c.scripted-g-2.ensures, c.taken-rest.ensures) (shorter-kept c.args.g c.requires.sound, c.requires.lent, omega (arith, c.requires.lost))

pub returns : goal.returns
unfolding turned_of queue_of out_of
returns c = let g = c.args.g in let e = c.args.e in
    rw (le-ltb _ _ c.if-g-e.false) (
      rw (c.unwrap_or.ensures, c.encode_timed-wrote.ensures.answer, c.front_place.ensures, c.apply-g.ensures.value, c.scripted-g-2.ensures, c.taken-rest.ensures, has_room g e _ _ c.requires),
      c.apply-g.ensures.memory
          ∙ ap (λ (b : Board). apply_in b e.action c.args.queue.now) (c.scripted-g-2.ensures ∙ ap (λ (s : Script). with_chip g.board (with_script g.board.chip s)) c.taken-rest.ensures),
      c.encode_timed-wrote.ensures.bytes,
    )
