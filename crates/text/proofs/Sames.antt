-- Bytes compared.
use mathlib.Core.Path.{◌≡◌, refl, ap₂}
use mathlib.Core.Bool.{Bool, true, false}
use mathlib.Core.List.{List, [], ◌∷◌}
use Prim.Native.Nat.{ℕ}
use borrow.Author.Tests.{eqb-true, eq-eqb}
use lib.Dec.{eqb}
use Rattle.base.proofs.Flags.{both}
use Rattle.text.specs.Spans.{same_bytes}

pub same-itself : (s : List ℕ) → same_bytes s s ≡ true
unfolding same_bytes
same-itself [] = refl
same-itself (b ∷ s) = rw (eq-eqb b b refl) (same-itself s)

pub same-equal : (s t : List ℕ) → same_bytes s t ≡ true → s ≡ t
unfolding same_bytes
same-equal [] [] e = refl
same-equal [] (b ∷ t) e = cc
same-equal (a ∷ s) [] e = cc
same-equal (a ∷ s) (b ∷ t) e =
    let p = both (eqb a b) (same_bytes s t) e in
    ap₂ (λ (x : ℕ) (l : List ℕ). x ∷ l) (eqb-true a b p.0) (same-equal s t p.1)

-- an answer that is true exactly where the bytes are equal
pub same_answer_lem : (s t : List ℕ) (r : Bool) → (r ≡ true → s ≡ t) → (s ≡ t → r ≡ true) → r ≡ same_bytes s t
same_answer_lem s t true f g = rw (← (f refl)) (go (same-itself s))
  where
    go : same_bytes s s ≡ true → true ≡ same_bytes s s
    go e = rw e
same_answer_lem s t false f g = go (same_bytes s t) refl
  where
    go : (b : Bool) → same_bytes s t ≡ b → false ≡ b
    go true e = g (same-equal s t e)
    go false e = refl
