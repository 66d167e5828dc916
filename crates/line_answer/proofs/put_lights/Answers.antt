use Rattle.line_answer.proofs.Turns.{turn, ended, lights-more, lights-done}
use mathlib.Core.Path.{◌∙◌}
use Rattle.line_answer.proofs.put_lights.Goals as goal

pub loop-id-preserved : goal.loop-id-preserved
loop-id-preserved c = (c.put_light-end.auto.out ∙ c.loop-id.invariant.0, turn _ _ _ _ _ _ _ _ _ _ (lights-more c.args.lights.now c.loop-id.id (rw c.told-lights c.loop-id-test.true)) c.put_light-end.ensures c.loop-id.invariant.1)

pub returns : goal.returns
returns c = ended _ _ _ _ _ _ (lights-done c.args.lights.now c.loop-id.id (rw c.told-lights c.loop-id-test.false)) c.loop-id.invariant.1
