-- Lines, words of a line, and the bytes of a word.
use Rattle.std.specs.Prelude.{ℕ, suc, ◌+◌, ◌-◌, Bool, true, false, ◌&&◌, ◌||◌, cond, List, [], ◌∷◌, eqb, leb, length, get_or, take, drop}
use Prim.Native.Char.{code}
use Rattle.std.specs.Bool.{beq}
use Rattle.text.specs.declared.Span.{Span}

-- "words separated by spaces (byte 32 alone)"
abbrev pub is_space : ℕ → Bool
is_space b = eqb b (code " ")

-- a byte that goes on with a run of marks (spaces, line feeds), or of other bytes
abbrev pub is_of_run : ℕ → Bool → ℕ → Bool
is_of_run mark marks b = beq (eqb b mark) marks

-- how many bytes at the front of s are such
unfoldable pub run_length : ℕ → Bool → List ℕ → ℕ
run_length mark marks [] = 0
run_length mark marks (b ∷ s) = cond (is_of_run mark marks b) (suc (run_length mark marks s)) 0

-- the place where the run from `at` on ends: `at` itself where it is past the end
abbrev pub run_end : ℕ → Bool → List ℕ → ℕ → ℕ
run_end mark marks line at = at + run_length mark marks (drop at line)

-- "a line ends with a line feed": the place of the next from `at` on, or the end
abbrev pub line_end : List ℕ → ℕ → ℕ
line_end bytes at = run_end 10 false bytes at

-- "the next word from `at` on": behind the spaces, to the end of the other bytes
abbrev pub word_at : List ℕ → ℕ → Span
word_at line at = record {
  from = run_end (code " ") true line at;
  to = run_end (code " ") false line (run_end (code " ") true line at);
}

abbrev pub is_inside : List ℕ → Span → Bool
is_inside line w = leb w.from w.to && leb w.to (length line)

-- from `from` up to `to`, which is not of it
abbrev pub part : List ℕ → Span → List ℕ
part line w = take (w.to - w.from) (drop w.from line)

-- the bytes of a span, none where it is not inside the line
unfoldable pub bytes_in : List ℕ → Span → List ℕ
bytes_in line w = cond (is_inside line w) (part line w) []

unfoldable pub same_bytes : List ℕ → List ℕ → Bool
same_bytes [] [] = true
same_bytes [] (b ∷ t) = false
same_bytes (a ∷ s) [] = false
same_bytes (a ∷ s) (b ∷ t) = eqb a b && same_bytes s t

-- "the span is inside the line and its bytes are the text"
abbrev pub is_text : List ℕ → Span → List ℕ → Bool
is_text line w text = is_inside line w && same_bytes (part line w) text

unfoldable pub all_spaces : List ℕ → Bool
all_spaces [] = true
all_spaces (b ∷ s) = is_space b && all_spaces s

-- "empty, all spaces, or its first byte is `#`"
abbrev pub is_passed_over : List ℕ → Bool
is_passed_over line = eqb (get_or line 0 0) (code "#") || all_spaces line
