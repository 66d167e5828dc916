-- A record written anew, and the bytes that it was read from.
use Rattle.std.specs.Prelude.{ℕ, Bool, false, List, Option, Some, None, replicate}
use Rattle.records.specs.Encoded.{answer_of, written_of}
use Rattle.text.specs.Putting.{first_of}
use Rattle.text.specs.Spans.{is_text}

-- the bytes from `at` to `next` are those that were written to the copy
unfoldable pub is_copied : List ℕ → ℕ → ℕ → Option ℕ → List ℕ → Bool
is_copied bytes at next (Some n) copy = is_text bytes (record { from = at; to = next }) (first_of copy n)
is_copied bytes at next None copy = false

-- a record's own bytes, written to a copy with room for any, are those from `at` to `next`
unfoldable pub is_again : List ℕ → ℕ → ℕ → List ℕ → Bool
is_again bytes at next own =
    is_copied bytes at next (answer_of (replicate 32 0) 0 own) (written_of (replicate 32 0) 0 own)
