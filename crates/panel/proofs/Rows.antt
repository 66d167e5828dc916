-- `or` by a loop: a loop that puts rows together has, after i turns, `or_to f i`.
use Rattle.std.proofs.Common.{◌≡◌, ℕ, zero, suc, ◌+◌, ◌*◌, ◌%◌, ◌^◌, ◌<◌, ◌≤◌, refl, ap, ◌∙◌, add-one, arith}
use lib.Bits.{bit_or}
use Rattle.panel.specs.Matrix.{or_to}

module _ (f : ℕ → ℕ) where
  pub or-none : 0 ≡ or_to f 0
  unfolding or_to
  or-none = refl

  -- a turn
  pub or-more : (i v : ℕ) → v ≡ or_to f i → bit_or v (f i) ≡ or_to f (i + 1)
  unfolding or_to
  or-more i v e = rw (add-one, e)

  -- the end
  pub or-done : (i n v : ℕ) → v ≡ or_to f i → i ≤ n → n ≤ i → v ≡ or_to f n
  or-done i n v e h k = let q : i ≡ n = omega arith in e ∙ ap (or_to f) q

-- a row's bit fits its word
pub row-shift : (row : ℕ) → row < 6 → 1 * 2 ^ row % 2 ^ 32 ≡ 2 ^ row
row-shift zero h = refl
row-shift (suc zero) h = refl
row-shift (suc (suc zero)) h = refl
row-shift (suc (suc (suc zero))) h = refl
row-shift (suc (suc (suc (suc zero)))) h = refl
row-shift (suc (suc (suc (suc (suc zero))))) h = refl
row-shift (suc (suc (suc (suc (suc (suc row)))))) h = absurd (omega arith)
