-- Runs of marks and of other bytes.
use mathlib.Core.Path.{◌≡◌, refl, ◌∙◌}
use mathlib.Core.Bool.{Bool, true, false, beq, cond, ◌&&◌}
use mathlib.Core.List.{List, [], ◌∷◌}
use mathlib.Core.Logic.{◌⊎◌, inl, inr}
use Prim.Native.Nat.{ℕ, suc, max, ◌+◌, ◌≤◌, ◌<◌}
use Prim.Native.Char.{code}
use native.Mathlib.Numerals.{add-one}
use native.Mathlib.Omega.{arith}
use borrow.Author.Tests.{lt-leb}
use lib.Dec.{leb, leb-suc-suc}
use lib.ListN.{length, get_or, drop_of_length-le}
use lib.Seq.{drop-cons}
use Rattle.base.proofs.Cases.{lt-or-ge}
use Rattle.text.specs.Spans.{is_space, is_of_run, run_length, run_end, all_spaces, is_passed_over}

done_at : (mark : ℕ) (marks : Bool) (line : List ℕ) (at : ℕ) → length line ≤ at → at ≡ run_end mark marks line at
unfolding run_length
done_at mark marks line at h = rw (drop_of_length-le line h) (omega arith)

module _ (mark : ℕ) (marks : Bool) (line : List ℕ) (i : ℕ) where
  -- a turn
  pub run_more : i < length line → is_of_run mark marks (get_or line i 0) ≡ true → run_end mark marks line (i + 1) ≡ run_end mark marks line i
  unfolding run_length
  run_more h e = rw (drop-cons line i 0 h, e, add-one) (omega arith)

  -- a byte that is not of the run, and the line's end
  pub run-stops : i < length line → is_of_run mark marks (get_or line i 0) ≡ false → i ≡ run_end mark marks line i
  unfolding run_length
  run-stops h e = rw (drop-cons line i 0 h, e) (omega arith)

  pub run-done : length line ≤ i → i ≡ run_end mark marks line i
  unfolding run_length
  run-done h = rw (drop_of_length-le line h) (omega arith)

  -- the end from a place on, in the line or past it
  pub run-max : (at : ℕ) → at ≤ i → length line ≤ i → (at ≤ length line → i ≤ length line) → run_end mark marks line i ≡ run_end mark marks line at
      → max at (length line) ≡ run_end mark marks line at
  run-max at a l m e = go (lt-or-ge (length line) at)
    where
      go : (length line < at) ⊎ (at ≤ length line) → max at (length line) ≡ run_end mark marks line at
      go (inl p) = let past : length line ≤ at = omega arith in let same : max at (length line) ≡ at = omega arith in same ∙ done_at mark marks line at past
      go (inr p) = let same : max at (length line) ≡ i = omega (arith, m p) in same ∙ (run-done l ∙ e)

-- a line that is passed over because there is nothing in it
pub nothing : (line : List ℕ) → length line ≡ 0 → true ≡ is_passed_over line
unfolding all_spaces
nothing [] e = refl
nothing (b ∷ line) e = absurd (omega arith)

-- a run is no longer than the bytes
pub run-within : (mark : ℕ) (marks : Bool) (s : List ℕ) → run_length mark marks s ≤ length s
unfolding run_length
run-within mark marks [] = omega arith
run-within mark marks (b ∷ s) = go (is_of_run mark marks b) (run-within mark marks s)
  where
    go : (t : Bool) → run_length mark marks s ≤ length s → cond t (suc (run_length mark marks s)) 0 ≤ suc (length s)
    go true h = omega arith
    go false h = omega arith

-- the run of spaces reaches the end exactly where all are spaces
pub reaches_end : (s : List ℕ) → leb (length s) (run_length (code " ") true s) ≡ all_spaces s
unfolding run_length all_spaces
reaches_end [] = refl
reaches_end (b ∷ s) = go (is_space b) (reaches_end s)
  where
    go : (t : Bool) → leb (length s) (run_length (code " ") true s) ≡ all_spaces s
        → leb (suc (length s)) (cond (beq t true) (suc (run_length (code " ") true s)) 0) ≡ (t && all_spaces s)
    go true e = rw (leb-suc-suc (length s) (run_length (code " ") true s)) e
    go false e = lt-leb (suc (length s)) 0 (omega arith)
