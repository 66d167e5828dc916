-- "Words are separated by one or more spaces; spaces at either end of a line are passed over." A word is empty where there is none.
use Rattle.std.specs.Prelude.{ℕ, Bool, List, eqb}
use Rattle.text.specs.Spans.{word_at}
use Rattle.text.specs.declared.Span.{Span}

-- the word behind another
abbrev pub behind : List ℕ → Span → Span
behind line w = word_at line w.to

abbrev pub is_none : Span → Bool
is_none w = eqb w.from w.to
