use Rattle.line_answer.specs.Answers.{line_text}
use Rattle.text.specs.Putting.{place_after_all, put_all}
use Rattle.text.proofs.After.{then}
use mathlib.Core.Path.{refl}
use Rattle.line_answer.proofs.Said.{said}
use Rattle.line_answer.proofs.put_line.Goals as goal

pub returns-in-NoLine : goal.returns-in-NoLine
unfolding line_text place_after_all put_all
returns-in-NoLine c = rw c.in-NoLine.is (record { place = refl; bytes = refl })

pub returns-in_default : goal.returns-in_default
returns-in_default c =
    rw (said c.args.line.now c.args.lights.now c.args.a c.in_default.not-LongLine c.in_default.not-NoLine)
    (then _ _ _ _ _ _ _ _ c.put_text-repeated.ensures
    (then _ _ _ _ _ _ _ _ c.put_text-equals.ensures
    (then _ _ _ _ _ _ _ _ c.put_answer-said.ensures c.put_text-in_default.ensures)))
