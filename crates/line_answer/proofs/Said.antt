-- A line that asks something and has room is repeated, and its answer said.
use mathlib.Core.Path.{◌≡◌, refl}
use mathlib.Core.List.{List, [], ◌∷◌, ◌++◌}
use Prim.Native.Nat.{ℕ}
use Rattle.text.specs.Ascii.{bytes}
use Rattle.line_answer.specs.Answers.{answer_text, line_text}
use Rattle.line_answer.specs.declared.Answer.{Answer}
use Rattle.line_answer.specs.declared.Answer.TheVariants.{LongLine, NoLine}

module _ (line lights : List ℕ) where
  pub said :
      (a : Answer) →
      (a ≡ LongLine → ⊥) →
      (a ≡ NoLine → ⊥) →
      line_text line a lights ≡ line ++ (bytes " = " ++ (answer_text a lights ++ (10 ∷ [])))
  unfolding line_text
  said LongLine h k = absurd (h refl)
  said NoLine h k = absurd (k refl)
  said a h k = refl
