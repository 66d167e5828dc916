-- `map` by a loop into another array: after i turns that put `f` of each element in its place, it has `into f i xs ys`. (base's MapTo is the loop that stays within one.)
use mathlib.Core.Path.{◌≡◌, refl, ap, ap₂, ◌∙◌}
use mathlib.Core.List.{List, [], ◌∷◌, map}
use Prim.Native.Nat.{ℕ, zero, suc, ◌<◌, ◌≤◌, ◌+◌}
use native.Mathlib.Nat.{le_of_suc-le-suc, not-suc-le-zero, suc_inj}
use native.Mathlib.Numerals.{add-one}
use native.Mathlib.Omega.{arith}
use lib.ListN.{length, get_or, set}

module _ {A B : Type 0} (f : A → B) where
  abbrev pub into : ℕ → List A → List B → List B
  into zero xs ys = ys
  into (suc i) [] ys = ys
  into (suc i) (x ∷ xs) [] = []
  into (suc i) (x ∷ xs) (y ∷ ys) = f x ∷ into i xs ys

  into-suc : (i : ℕ) (xs : List A) (ys : List B) (d : A) → i < length xs → set (into i xs ys) i (f (get_or xs i d)) ≡ into (suc i) xs ys
  into-suc zero [] ys d h = absurd (not-suc-le-zero h)
  into-suc zero (x ∷ xs) [] d h = refl
  into-suc zero (x ∷ xs) (y ∷ ys) d h = refl
  into-suc (suc i) [] ys d h = absurd (not-suc-le-zero h)
  into-suc (suc i) (x ∷ xs) [] d h = refl
  into-suc (suc i) (x ∷ xs) (y ∷ ys) d h = ap {B = List B} (λ r. f x ∷ r) (into-suc i xs ys d (le_of_suc-le-suc h))

  into_more : (i : ℕ) (xs : List A) (ys : List B) (d : A) → i < length xs → set (into i xs ys) i (f (get_or xs i d)) ≡ into (i + 1) xs ys
  into_more i xs ys d h = rw add-one (into-suc i xs ys d h)

  -- a turn, from what the loop knows
  pub into-turn : (i : ℕ) (xs : List A) (ys zs : List B) (d : A) (y : B) → zs ≡ into i xs ys → y ≡ f (get_or xs i d) → i < length xs → set zs i y ≡ into (i + 1) xs ys
  into-turn i xs ys zs d y e g h = ap₂ (λ (l : List B) (v : B). set l i v) e g ∙ into_more i xs ys d h

  -- the end
  pub into-all : (i : ℕ) (xs : List A) (ys : List B) → length xs ≤ i → length ys ≡ length xs → into i xs ys ≡ map f xs
  into-all zero [] [] h e = refl
  into-all zero [] (y ∷ ys) h e = absurd (omega (arith, e))
  into-all zero (x ∷ xs) ys h e = absurd (not-suc-le-zero h)
  into-all (suc i) [] [] h e = refl
  into-all (suc i) [] (y ∷ ys) h e = absurd (omega (arith, e))
  into-all (suc i) (x ∷ xs) [] h e = absurd (omega (arith, e))
  into-all (suc i) (x ∷ xs) (y ∷ ys) h e = ap {B = List B} (λ r. f x ∷ r) (into-all i xs ys (le_of_suc-le-suc h) (suc_inj e))
