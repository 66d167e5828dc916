-- Document 01's driver on bytes that lie in memory: the records that they hold, and what is printed for them, one after the other.
use Rattle.std.specs.Prelude.{ℕ, zero, suc, ◌+◌, ◌-◌, ◌≤◌, Bool, true, cond, not, ◌&&◌, ◌||◌, List, [], ◌++◌, ◌≡◌, leb, length, take, drop, Some, None, Ok, Err}
use Rattle.records.specs.Decoded.{RecordAt, record_of, broken_at}
use Rattle.driver_carry.specs.Carry.{Bench, BenchOk, answer_of, after}
use Rattle.driver_lines.specs.Lines.{line_of}

-- ---- what is printed

-- where the next record begins: nowhere further on behind a broken one, or behind the last
abbrev pub next_of : RecordAt → ℕ → ℕ
next_of (Ok (Some r)) at = r.next
next_of (Ok None) at = at
next_of (Err b) at = at

-- the bytes behind a record, of s whose first byte has the offset `at`: a broken record "ends", so none count behind it
abbrev pub left_of : RecordAt → ℕ → List ℕ → List ℕ
left_of (Ok (Some r)) at s = drop (r.next - at) s
left_of (Ok None) at s = []
left_of (Err b) at s = []

-- "Per record, a line": the first record's, then those of what is left, on the bench as the record leaves it; of `turns` records at the most
unfoldable pub lines_in : ℕ → Bench → List ℕ → ℕ → List ℕ
lines_in zero h s at = []
lines_in (suc turns) h s at =
    line_of (answer_of h (record_of s at))
    ++ lines_in turns (after h (record_of s at)) (left_of (record_of s at) at s) (next_of (record_of s at) at)

-- all of them: a record is at least eight bytes long, so there are no more than bytes (`more-turns` in proofs/Lines.antt: further turns print nothing)
unfoldable pub lines_from : Bench → List ℕ → ℕ → List ℕ
lines_from h s at = lines_in (length s) h s at

-- what the driver prints for its input; "Empty input prints nothing"
abbrev pub driver_lines : Bench → List ℕ → List ℕ
driver_lines h input = lines_from h input 0

-- ---- a part of the input at a time

-- a record as the input has it: a broken one is told by its offset there
abbrev pub told_at : RecordAt → ℕ → RecordAt
told_at (Ok found) offset = Ok found
told_at (Err b) offset = broken_at offset

-- the next record can be carried out: there is one, its line has room, and it is all there, whatever follows
abbrev pub goes_on : Bool → ℕ → Bool → ℕ → Bool
goes_on ended left last room = not ended && leb 116 room && (last || leb 17 left)

-- what is still to be printed
abbrev pub to_come : Bool → Bench → List ℕ → ℕ → List ℕ
to_come ended h s at = cond ended [] (lines_from h s at)

-- What carrying out records comes to, of bytes whose first has the offset `base`, whatever `rest` of the input follows them (none if they are its last): the lines that were put and those that are still to come are those of
-- the whole. `passed` bytes are done with, `put` bytes of lines stand in `out`.
pub record Lined (h : Bench) (bytes : List ℕ) (base : ℕ) (last : Bool) (h' : Bench) (passed : ℕ) (out : List ℕ) (put : ℕ) (ended : Bool) : Type 0 where
  pub lines : (rest : List ℕ) → (last ≡ true → rest ≡ []) → take put out ++ to_come ended h' (drop passed bytes ++ rest) (base + passed) ≡ lines_from h (bytes ++ rest) base
  pub known : BenchOk h'
  pub within : passed ≤ length bytes
  pub room : put ≤ length out
