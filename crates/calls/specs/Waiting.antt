-- Answered lines wait in a buffer of 64 KB, and are written out before there could be no room for one more.
use Rattle.std.specs.Prelude.{ℕ, cond, List, ltb}
use Rattle.line_answer.specs.Answers.{line_text}
use Rattle.line_answer.specs.declared.Answer.{Answer}
use Rattle.text.specs.Putting.{first_of}

-- where the next one goes: behind those that wait, or to the front
abbrev pub place_for : ℕ → ℕ
place_for to = cond (ltb 57344 to) 0 to

abbrev pub answered_text : List ℕ → ℕ → Answer → List ℕ → List ℕ
answered_text line n a lights = line_text (first_of line n) a lights
