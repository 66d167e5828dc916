-- Lines out of the input: what a read leaves, and what of the bytes that were read goes to the line.
use Rattle.std.specs.Prelude.{ℕ, ◌+◌, ◌≤◌, ◌<◌, cond, List, ◌≡◌, eqb, ltb, length}
use Rattle.text.specs.Putting.{first_of, place_after_all, put_all}
use Rattle.text.specs.Spans.{line_end, bytes_in}
use Rattle.calls.specs.declared.lines.End.{End}
use Rattle.calls.specs.declared.lines.End.TheVariants.{Open, Line, Input}
use Rattle.calls.specs.declared.lines.Reader.{Reader}

abbrev pub reader_new : Reader
reader_new = record { at = 0; got = 0; len = 0; end = Open }

-- the next line begins
abbrev pub begun_of : Reader → Reader
begun_of r = record { at = r.at; got = r.got; len = 0; end = Open }

-- so many bytes were read: none is the input's end, and the line's
abbrev pub read_of : Reader → ℕ → Reader
read_of r got = record { at = 0; got = got; len = r.len; end = cond (eqb got 0) Input Open }

-- Nothing can be said of the bytes that a read gives. While some are left none are read.
pub record Filled (input : List ℕ) (r : Reader) (input' : List ℕ) (r' : Reader) : Type 0 where
  pub left : r.at < r.got → (r' ≡ r) × (input' ≡ input)
  pub read : r.got ≤ r.at → (r' ≡ read_of r r'.got) × (r'.got ≤ length input')

-- ---- the bytes up to the line's end, or all there are

-- those that were read
abbrev pub bytes_read : List ℕ → Reader → List ℕ
bytes_read input r = first_of input r.got

abbrev pub end_in : List ℕ → Reader → ℕ
end_in input r = line_end (bytes_read input r) r.at

abbrev pub part_in : List ℕ → Reader → List ℕ
part_in input r = bytes_in (bytes_read input r) (record { from = r.at; to = end_in input r })

-- they go behind the line as it is, as far as it has room
abbrev pub line_after : List ℕ → List ℕ → Reader → List ℕ
line_after input line r = put_all line r.len (part_in input r)

abbrev pub went_to : Reader → ℕ → ℕ → End → Reader
went_to r at len end = record { at = at; got = r.got; len = len; end = end }

unfoldable pub taken_of : List ℕ → List ℕ → Reader → Reader
taken_of input line r =
    cond (ltb (end_in input r) (length (bytes_read input r)))
    (went_to r (end_in input r + 1) (place_after_all (length line) r.len (part_in input r)) Line)
    (went_to r (end_in input r) (place_after_all (length line) r.len (part_in input r)) r.end)
