-- The value of a row is the least over its keys in the selected columns: no selected key's is below it, and it is one of theirs or that of an open row.
use mathlib.Core.Path.{◌≡◌, refl, sym, subst, ◌∙◌}
use mathlib.Core.Bool.{Bool, true, false, cond}
use mathlib.Core.Logic.{◌⊎◌, inl, inr}
use Prim.Native.Nat.{ℕ, zero, suc, ◌≤◌, ◌<◌, min}
use native.Mathlib.Nat.{eq-or-lt_of_le}
use native.Mathlib.Omega.{arith}
use lib.Dec.{T}
use lib.Ieee.{Float}
use Rattle.base.proofs.Cases.{lt-or-ge}
use Rattle.panel.specs.Map.{id_at}
use Rattle.panel.specs.Matrix.{selected}
use Rattle.keys.specs.declared.Ramps.{Ramps}
use Rattle.panel.specs.declared.map.Map.{Map}
use Rattle.pressure.specs.Value.{open_key}
use Rattle.adc.specs.Adc.{key_value, least_to}

-- a key in a selected column with that value
pub record Key (m : Map) (ramps : Ramps) (latched row now : ℕ) (ohms : Float) (n v : ℕ) : Type 0 where
  pub col : ℕ
  pub inside : col < n
  pub chosen : selected latched col ≡ true
  pub value : v ≡ key_value ramps now ohms (id_at m row col)

clash : {b : Bool} → b ≡ true → b ≡ false → ⊥
clash e f = subst T (sym e ∙ f) tt

module _ (m : Map) (ramps : Ramps) (latched row now : ℕ) (ohms : Float) where
  abbrev of : ℕ → ℕ
  of col = key_value ramps now ohms (id_at m row col)

  abbrev to : ℕ → ℕ
  to n = least_to m ramps latched row now ohms n

  pub least-below : (n col : ℕ) → col < n → selected latched col ≡ true → to n ≤ of col
  unfolding least_to
  least-below zero col h s = absurd (omega arith)
  least-below (suc n) col h s = go (selected latched n) refl (eq-or-lt_of_le le) (λ l. least-below n col l s)
    where
      le : col ≤ n
      le = omega arith

      go : (t : Bool) → selected latched n ≡ t → (col ≡ n) ⊎ (col < n) → (col < n → to n ≤ of col)
          → cond t (min (to n) (of n)) (to n) ≤ of col
      go true e (inl q) k = subst (λ (j : ℕ). min (to n) (of n) ≤ of j) (sym q) (omega arith)
      go true e (inr l) k = let a = k l in omega (arith, a)
      go false e (inl q) k = absurd (clash (subst (λ (j : ℕ). selected latched j ≡ true) q s) e)
      go false e (inr l) k = k l

  -- what holds of the first n columns holds of one more
  lift : (n v w : ℕ) → w ≡ v → (v ≡ open_key) ⊎ Key m ramps latched row now ohms n v
      → (w ≡ open_key) ⊎ Key m ramps latched row now ohms (suc n) w
  lift n v w e (inl o) = inl (e ∙ o)
  lift n v w e (inr k) = inr record { col = k.col; inside = let h = k.inside in omega (arith, h); chosen = k.chosen; value = e ∙ k.value }

  one_more : (n : ℕ) (t : Bool) → selected latched n ≡ t → (to n ≡ open_key) ⊎ Key m ramps latched row now ohms n (to n)
      → (cond t (min (to n) (of n)) (to n) ≡ open_key) ⊎ Key m ramps latched row now ohms (suc n) (cond t (min (to n) (of n)) (to n))
  one_more n true e k = go (lt-or-ge (of n) (to n))
    where
      go : (of n < to n) ⊎ (to n ≤ of n) → (min (to n) (of n) ≡ open_key) ⊎ Key m ramps latched row now ohms (suc n) (min (to n) (of n))
      go (inl l) = inr record { col = n; inside = omega arith; chosen = e; value = omega (arith, l) }
      go (inr l) = let q : min (to n) (of n) ≡ to n = omega (arith, l) in lift n (to n) (min (to n) (of n)) q k
  one_more n false e k = lift n (to n) (to n) refl k

  pub least-one : (n : ℕ) → (to n ≡ open_key) ⊎ Key m ramps latched row now ohms n (to n)
  unfolding least_to
  least-one zero = inl refl
  least-one (suc n) = one_more n (selected latched n) refl (least-one n)
