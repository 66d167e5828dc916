use Rattle.text.proofs.After.{then}
use Rattle.refusals_lines.specs.Lines.{answer_text}
use Rattle.refusals_lines.proofs.put_answer.Goals as goal

pub returns-in-Three : goal.returns-in-Three
unfolding answer_text
returns-in-Three c =
    rw c.in-Three.is
    (then _ _ _ _ _ _ _ _ c.put_number-one.ensures
    (then _ _ _ _ _ _ _ _ c.put_number-two.ensures c.put_number-in-Three.ensures))
