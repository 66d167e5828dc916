use Rattle.line_answer.proofs.Turns.{turn, ended, form-more, form-done}
use mathlib.Core.Path.{◌∙◌}
use Rattle.line_answer.proofs.forms.put_form.Goals as goal

pub loop-b-preserved : goal.loop-b-preserved
loop-b-preserved c = (c.put_mark-at.auto.out ∙ c.loop-b.invariant.0, rw c.behind-left.ensures (turn _ _ _ _ _ _ _ _ _ _ (rw c.mark_of-mark.ensures (form-more c.args.form.now c.loop-b.left.now c.loop-b.b-index c.loop-b-test.true)) (rw c.first_of.ensures at c.put_mark-at.ensures) c.loop-b.invariant.1))

pub returns : goal.returns
returns c = ended _ _ _ _ _ _ (form-done c.args.form.now c.loop-b.left.now c.loop-b.b-index c.loop-b-test.false) c.loop-b.invariant.1
