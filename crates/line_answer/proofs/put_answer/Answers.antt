use Rattle.line_answer.specs.Answers.{answer_text}
use Rattle.text.specs.Putting.{place_after_all, put_all}
use Rattle.text.proofs.After.{then}
use mathlib.Core.Path.{refl}
use Rattle.line_answer.proofs.put_answer.Goals as goal

pub returns-in-Value : goal.returns-in-Value
unfolding answer_text
returns-in-Value c = rw c.in-Value.is (then _ _ _ _ _ _ _ _ c.put_value-told.ensures c.put_clock.ensures)

pub returns-in-Stepped : goal.returns-in-Stepped
unfolding answer_text
returns-in-Stepped c =
    rw c.in-Stepped.is
    (then _ _ _ _ _ _ _ _ c.put_form-told.ensures
    (then _ _ _ _ _ _ _ _ c.put_half-heard.ensures
    (then _ _ _ _ _ _ _ _ c.put_text-space.ensures
    (then _ _ _ _ _ _ _ _ c.put_byte-got.ensures (rw (c.when-in-Stepped.ensures, c.when-in-Stepped-2.ensures) at c.put_form-in-Stepped.ensures)))))

pub returns-in-State : goal.returns-in-State
unfolding answer_text
returns-in-State c = rw c.in-State.is c.put_form-in-State.ensures

pub returns-in-Lights : goal.returns-in-Lights
unfolding answer_text
returns-in-Lights c = rw c.in-Lights.is (then _ _ _ _ _ _ _ _ c.put_decimal-spanned.ensures c.put_lights.ensures)

pub returns-in-Recorded : goal.returns-in-Recorded
unfolding answer_text
returns-in-Recorded c =
    rw c.in-Recorded.is
    (then _ _ _ _ _ _ _ _ c.put_record-told.ensures
    (then _ _ _ _ _ _ _ _ c.put_form-placed.ensures c.put_star.ensures))

pub returns-in-LongLine : goal.returns-in-LongLine
unfolding answer_text place_after_all put_all
returns-in-LongLine c = rw c.in-LongLine.is (record { place = refl; bytes = refl })

pub returns-in-NoLine : goal.returns-in-NoLine
unfolding answer_text place_after_all put_all
returns-in-NoLine c = rw c.in-NoLine.is (record { place = refl; bytes = refl })
