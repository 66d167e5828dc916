-- The bytes of a span, inside its line and outside.
use mathlib.Core.Path.{◌≡◌}
use mathlib.Core.Bool.{true, false}
use mathlib.Core.List.{List, []}
use Prim.Native.Char.{code}
use Prim.Native.Nat.{ℕ, ◌+◌, ◌-◌, ◌≤◌, ◌<◌}
use native.Mathlib.Omega.{arith}
use borrow.Author.Tests.{le-leb, lt-leb}
use lib.ListN.{length, drop, length-drop}
use Rattle.text.specs.Spans.{part, bytes_in, run_length, word_at}
use Rattle.text.specs.declared.Span.{Span}
use Rattle.text.proofs.Runs.{run-within}

module _ (line : List ℕ) (w : Span) where
  pub turned : w.to < w.from → bytes_in line w ≡ []
  unfolding bytes_in
  turned h = rw (lt-leb w.from w.to h)

  module _ (h : w.from ≤ w.to) where
    pub past_end : length line < w.to → bytes_in line w ≡ []
    unfolding bytes_in
    past_end l = rw (le-leb w.from w.to h, lt-leb w.to (length line) l)

    pub inside : w.to ≤ length line → bytes_in line w ≡ part line w
    unfolding bytes_in
    inside l = rw (le-leb w.from w.to h, le-leb w.to (length line) l)

-- A word from a place in the line is inside the line.
pub word-inside :
    (line : List ℕ) (at : ℕ) →
    at ≤ length line →
    (at ≤ (word_at line at).from) × ((word_at line at).from ≤ (word_at line at).to) × ((word_at line at).to ≤ length line)
word-inside line at h =
    let from : ℕ = at + run_length (code " ") true (drop at line) in
    let spaces : run_length (code " ") true (drop at line) ≤ length line - at = rw length-drop at (run-within (code " ") true (drop at line)) in
    let others : run_length (code " ") false (drop from line) ≤ length line - from = rw length-drop at (run-within (code " ") false (drop from line)) in
    (omega arith, omega arith, omega arith)
