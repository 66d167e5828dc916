-- A line's numbers, and the line with what came back.
use Rattle.std.specs.Prelude.{ℕ, List, [], ◌∷◌, ◌++◌, unwrap_or}
use Rattle.text.specs.Ascii.{bytes}
use Rattle.text.specs.Numerals.{decimal_in}
use Rattle.text.specs.Putting.{decimal_of}
use Rattle.text.specs.Spans.{bytes_in, word_at}
use Rattle.text.specs.declared.Span.{Span}
use Rattle.refusals_lines.specs.declared.Answer.{Answer}
use Rattle.refusals_lines.specs.declared.Answer.TheVariants.{Nothing, One, Three}

-- a number that is not there is 0
abbrev pub number_in : List ℕ → Span → ℕ
number_in line w = unwrap_or (decimal_in (bytes_in line w)) 0

-- the words one behind the other, the first of them from `at` on
abbrev pub numbers_of : List ℕ → Span → Span → Span → Span → Span → List ℕ
numbers_of line one two three four five =
    number_in line one ∷ number_in line two ∷ number_in line three ∷ number_in line four ∷ number_in line five ∷ []

abbrev pub behind : List ℕ → Span → Span
behind line w = word_at line w.to

unfoldable pub numbers_in : List ℕ → ℕ → List ℕ
numbers_in line at =
    numbers_of
    line
    (word_at line at)
    (behind line (word_at line at))
    (behind line (behind line (word_at line at)))
    (behind line (behind line (behind line (word_at line at))))
    (behind line (behind line (behind line (behind line (word_at line at)))))

-- nothing, ` = ` and a number, or ` = ` and three
unfoldable pub answer_text : Answer → List ℕ
answer_text Nothing = []
answer_text (One n) = bytes " = " ++ decimal_of n
answer_text (Three n m l) =
    (bytes " = " ++ decimal_of n) ++ ((bytes " " ++ decimal_of m) ++ (bytes " " ++ decimal_of l))

unfoldable pub line_text : List ℕ → Answer → List ℕ
line_text line a = line ++ (answer_text a ++ (10 ∷ []))
