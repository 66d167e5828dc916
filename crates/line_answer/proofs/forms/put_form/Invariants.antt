use Rattle.line_answer.proofs.Turns.{Left}
use Rattle.line_answer.specs.Forms.{form_text}
use lib.ListN.{length, drop}
use mathlib.Core.Path.{◌≡◌}
use Rattle.line_answer.proofs.forms.put_form.Given as goal

abbrev pub invariant-loop-b : goal.invariant-loop-b
invariant-loop-b l =
    (length l.out ≡ length l.initial.out)
    × Left l.initial.out l.to (form_text l.form l.numbers) l.out l.at (form_text (drop l.b-index l.form) l.left)
