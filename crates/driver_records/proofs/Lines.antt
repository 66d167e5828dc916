-- The lines of some bytes are the first record's and those of what it leaves: as many turns as there are bytes are enough.
use mathlib.Core.Path.{◌≡◌, refl, sym, ◌∙◌, ap}
use mathlib.Core.List.{List, [], ◌∷◌, ◌++◌}
use Prim.Native.Nat.{ℕ, zero, suc, ◌≤◌, ◌<◌}
use native.Mathlib.Omega.{arith}
use lib.ListN.{length, length-drop}
use Rattle.std.specs.Prelude.{Some, None, Ok, Err}
use Rattle.records.specs.Decoded.{RecordAt, record_of}
use Rattle.records.proofs.Progress.{record-passes, any-empty-end}
use Rattle.driver_carry.specs.Carry.{Bench, answer_of, after}
use Rattle.driver_lines.specs.Lines.{line_of}
use Rattle.driver_records.specs.Records.{next_of, left_of, lines_in, lines_from}

-- "Empty input prints nothing"
nothing : (turns : ℕ) (h : Bench) (at : ℕ) → lines_in turns h [] at ≡ []
unfolding lines_in line_of
nothing zero h at = refl
nothing (suc turns) h at = rw (any-empty-end [] at refl) (nothing turns h at)

-- a record leaves fewer bytes than there were
fewer : (s : List ℕ) (at : ℕ) (r : RecordAt) → record_of s at ≡ r → 0 < length s → length (left_of r at s) < length s
fewer s at (Ok (Some r)) e h = let p = record-passes s at r e in simp length-drop (omega arith)
fewer s at (Ok None) e h = h
fewer s at (Err b) e h = h

enough : (n m : ℕ) (h : Bench) (s : List ℕ) (at : ℕ) → length s ≤ n → length s ≤ m → lines_in n h s at ≡ lines_in m h s at
unfolding lines_in
enough zero zero h s at p q = refl
enough zero (suc m) h [] at p q = sym (nothing (suc m) h at)
enough zero (suc m) h (x ∷ s) at p q = absurd (omega arith)
enough (suc n) zero h [] at p q = nothing (suc n) h at
enough (suc n) zero h (x ∷ s) at p q = absurd (omega arith)
enough (suc n) (suc m) h [] at p q = nothing (suc n) h at ∙ sym (nothing (suc m) h at)
enough (suc n) (suc m) h (x ∷ s) at p q =
    let r : RecordAt = record_of (x ∷ s) at in
    let f : length (left_of r at (x ∷ s)) < length (x ∷ s) = fewer (x ∷ s) at r refl (omega arith) in
    ap (λ (l : List ℕ). line_of (answer_of h r) ++ l)
    (enough n m (after h r) (left_of r at (x ∷ s)) (next_of r at) (omega arith) (omega arith))

module _ (h : Bench) where
  -- turns beyond as many as there are bytes print nothing
  pub more-turns : (turns : ℕ) (s : List ℕ) (at : ℕ) → length s ≤ turns → lines_in turns h s at ≡ lines_from h s at
  unfolding lines_from
  more-turns turns s at p = enough turns (length s) h s at p (omega arith)

  pub lines_none : (at : ℕ) → lines_from h [] at ≡ []
  unfolding lines_from lines_in
  lines_none at = refl

  at-end : (at : ℕ) → line_of (answer_of h (record_of [] at)) ++ lines_from (after h (record_of [] at)) (left_of (record_of [] at) at []) (next_of (record_of [] at) at) ≡ []
  unfolding lines_from lines_in line_of
  at-end at = rw (any-empty-end [] at refl)

  first_then : (s : List ℕ) (at : ℕ)
      → lines_from h s at ≡ line_of (answer_of h (record_of s at)) ++ lines_from (after h (record_of s at)) (left_of (record_of s at) at s) (next_of (record_of s at) at)
  unfolding lines_from lines_in
  first_then [] at = sym (at-end at)
  first_then (x ∷ s) at =
      let r : RecordAt = record_of (x ∷ s) at in
      let f : length (left_of r at (x ∷ s)) < length (x ∷ s) = fewer (x ∷ s) at r refl (omega arith) in
      ap (λ (l : List ℕ). line_of (answer_of h r) ++ l)
      (enough (length s) (length (left_of r at (x ∷ s))) (after h r) (left_of r at (x ∷ s)) (next_of r at) (omega arith) (omega arith))

  -- the lines, by what the first record is
  pub lines-by : (s : List ℕ) (at : ℕ) (r : RecordAt) → record_of s at ≡ r
      → lines_from h s at ≡ line_of (answer_of h r) ++ lines_from (after h r) (left_of r at s) (next_of r at)
  lines-by s at r e =
      first_then s at ∙ ap (λ (x : RecordAt). line_of (answer_of h x) ++ lines_from (after h x) (left_of x at s) (next_of x at)) e
