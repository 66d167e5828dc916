-- The fewest digits that hold a number.
use mathlib.Core.Path.{◌≡◌, refl}
use mathlib.Core.Bool.{Bool, true, false, cond}
use mathlib.Core.Logic.{◌⊎◌, inl, inr}
use Prim.Native.Nat.{ℕ, zero, suc, ◌+◌, ◌-◌, ◌^◌, ◌≤◌, ◌<◌}
use native.Mathlib.Nat.{pow-le-pow_right}
use native.Mathlib.Omega.{arith}
use borrow.Author.Tests.{ltb-true, ltb-false}
use lib.Dec.{ltb}
use Rattle.base.proofs.Cases.{lt-or-ge}
use Rattle.io.specs.Digits.{last_digits, IsDigitCount}
use Rattle.text.specs.Putting.{places, decimal_of, hex_of, hex_width}

module _ (b : ℕ) (positive : 0 < b) (n : ℕ) where
  -- the count that `io` answers is the one that is tried first
  pub places-fewest : (least more k : ℕ) → IsDigitCount b least n k → k ≤ least + more → places b least more n ≡ k
  unfolding places
  places-fewest least zero k f h = omega arith
  places-fewest least (suc more) k f h =
      go (ltb n (b ^ least)) refl (λ l. places-fewest (suc least) more k (omega arith, f.1, λ q. f.2 (omega arith)) (omega arith))
    where
      enough : n < b ^ least → (least < k) ⊎ (k ≤ least) → least ≡ k
      enough s (inl l) =
          let under : least ≤ k - 1 = omega arith in
          absurd (omega (arith, f.2 l, pow-le-pow_right positive under))
      enough s (inr g) = omega arith

      more-wanted : b ^ least ≤ n → (least < k) ⊎ (k ≤ least) → least < k
      more-wanted s (inl l) = l
      more-wanted s (inr g) = absurd (omega (arith, f.1, pow-le-pow_right positive g))

      go : (t : Bool) → ltb n (b ^ least) ≡ t → (least < k → places b (suc least) more n ≡ k)
          → cond t least (places b (suc least) more n) ≡ k
      go true e r = enough (ltb-true n (b ^ least) e) (lt-or-ge least k)
      go false e r = r (more-wanted (ltb-false n (b ^ least) e) (lt-or-ge least k))

  -- it is between the bounds, and holds the number
  pub places-hold :
      (least more : ℕ) →
      n < b ^ (least + more) →
      (least ≤ places b least more n) × (places b least more n ≤ least + more) × (n < b ^ places b least more n)
  unfolding places
  places-hold least zero h = let e : least + 0 ≡ least = omega arith in (omega arith, omega arith, rw e at h)
  places-hold least (suc more) h =
      let e : least + suc more ≡ suc least + more = omega arith in
      go (ltb n (b ^ least)) refl (places-hold (suc least) more (rw e at h))
    where
      go : (t : Bool) → ltb n (b ^ least) ≡ t
          → (suc least ≤ places b (suc least) more n) × (places b (suc least) more n ≤ suc least + more) × (n < b ^ places b (suc least) more n)
          → (least ≤ cond t least (places b (suc least) more n))
          × (cond t least (places b (suc least) more n) ≤ least + suc more)
          × (n < b ^ cond t least (places b (suc least) more n))
      go true e r = (omega arith, omega arith, ltb-true n (b ^ least) e)
      go false e r = (omega arith, omega arith, r.2)

-- a number below b ^ most has at most `most` digits
pub few-places : (b least n k most : ℕ) → 0 < b → IsDigitCount b least n k → least ≤ most → n < b ^ most → k ≤ most
few-places b least n k most positive f l h = go (lt-or-ge most k)
  where
    go : (most < k) ⊎ (k ≤ most) → k ≤ most
    go (inl g) =
        let wide : most ≤ k - 1 = omega arith in
        absurd (omega (arith, f.2 (omega arith), pow-le-pow_right positive wide))
    go (inr g) = g

module _ (n k : ℕ) (fits : n < 2 ^ 64) where
  pub decimal-digits : IsDigitCount 10 1 n k → last_digits 10 k n ≡ decimal_of n
  unfolding decimal_of
  decimal-digits f =
      rw (places-fewest 10 (omega arith) n 1 19 k f (few-places 10 1 n k 20 (omega arith) f (omega arith) (omega arith)))

  pub hex-digits : (width : ℕ) → IsDigitCount 16 (hex_width width) n k → last_digits 16 k n ≡ hex_of n width
  unfolding hex_of
  hex-digits width f =
      let short : k ≤ 16 = few-places 16 (hex_width width) n k 16 (omega arith) f (omega arith) (omega arith) in
      rw (places-fewest 16 (omega arith) n (hex_width width) (16 - hex_width width) k f (omega arith))
