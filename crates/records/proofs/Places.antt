-- Bytes at a place: what is left from a place on, and runs of stores one after the other.
use mathlib.Core.Path.{◌≡◌, ◌∙◌}
use mathlib.Core.List.{List, [], ◌∷◌, ◌++◌}
use Prim.Native.Nat.{ℕ, suc, ◌+◌, ◌-◌, ◌/◌, ◌%◌, ◌≤◌, ◌<◌}
use native.Mathlib.Nat.{add-zero, add-suc, suc-add}
use native.Mathlib.Omega.{arith}
use lib.ListN.{length, take, drop, set, length-drop}
use lib.Seq.{take_all, sets}
use Rattle.records.specs.Le.{le}

module _ {A : Type 0} where
  -- the part of a slice from a place to its end
  pub part_left : (at : ℕ) (s : List A) → take (length s - at) (drop at s) ≡ drop at s
  part_left at s = take_all (length s - at) (drop at s) (simp length-drop (omega arith))

  pub sets-append : (l : List A) (i : ℕ) (x y : List A) → sets (sets l i x) (i + length x) y ≡ sets l i (x ++ y)
  sets-append l i [] y = rw add-zero
  sets-append l i (a ∷ x) y = rw (add-suc, ← suc-add) (sets-append (set l i a) (suc i) x y)

  pub sets-append-two :
      (l : List A) (i : ℕ) (x y z : List A) →
      sets (sets (sets l i x) (i + length x) y) (i + length x + length y) z ≡ sets l i (x ++ (y ++ z))
  sets-append-two l i x y z = sets-append (sets l i x) (i + length x) y z ∙ sets-append l i x (y ++ z)

-- a turn of the loop that stores a number up to the place e: what is left to store, from the place reached on
pub put-more :
    (l : List ℕ) (i e n : ℕ) →
    i < e →
    sets (set l i (n % 256)) (i + 1) (le (e - (i + 1)) (n / 256)) ≡ sets l i (le (e - i) n)
unfolding le
put-more l i e n h =
    let f : e - i ≡ suc (e - (i + 1)) = omega arith in
    let g : i + 1 ≡ suc i = omega arith in
    rw (f, g)

pub put-done : (l : List ℕ) (i e n : ℕ) → e ≤ i → sets l i (le (e - i) n) ≡ l
unfolding le
put-done l i e n h = let f : e - i ≡ 0 = omega arith in rw f
