-- Charging by a loop: after n turns of the rows, and of the columns.
use Rattle.std.proofs.Common.{◌≡◌, ℕ, zero, suc, ◌+◌, ◌-◌, ◌*◌, ◌≤◌, true, false, List, get_or, refl, add-one, arith}
use Rattle.base.specs.Bits.{has_bit}
use Rattle.panel.specs.Matrix.{selected}
use Rattle.panel.specs.Led.{charge_id, charge_rows, charge_cols}

module _ (ids : List ℕ) (lines col dt : ℕ) (acc : List ℕ) where
  pub rows_none : acc ≡ charge_rows ids lines col dt acc 0
  unfolding charge_rows
  rows_none = refl

  pub rows-lit : (row : ℕ) (a : List ℕ) → 1 ≤ row → a ≡ charge_rows ids lines col dt acc (row - 1) → has_bit lines row ≡ true
      → charge_id a (get_or ids (row * 11 + col) 0) dt ≡ charge_rows ids lines col dt acc (row + 1 - 1)
  unfolding charge_rows
  rows-lit zero a h e t = absurd (omega arith)
  rows-lit (suc n) a h e t =
      let p : suc n - 1 ≡ n = omega arith in
      let q : suc n + 1 - 1 ≡ suc n = omega arith in rw (q, t, e, p)

  pub rows-dark : (row : ℕ) (a : List ℕ) → 1 ≤ row → a ≡ charge_rows ids lines col dt acc (row - 1) → has_bit lines row ≡ false
      → a ≡ charge_rows ids lines col dt acc (row + 1 - 1)
  unfolding charge_rows
  rows-dark zero a h e t = absurd (omega arith)
  rows-dark (suc n) a h e t =
      let p : suc n - 1 ≡ n = omega arith in
      let q : suc n + 1 - 1 ≡ suc n = omega arith in rw (q, t, e, p)

module _ (ids : List ℕ) (lines latched dt : ℕ) (acc : List ℕ) where
  pub cols-none : acc ≡ charge_cols ids lines latched dt acc 0
  unfolding charge_cols
  cols-none = refl

  pub cols-lit : (n : ℕ) (a : List ℕ) → a ≡ charge_cols ids lines latched dt acc n → selected latched n ≡ true
      → charge_rows ids lines n dt a 4 ≡ charge_cols ids lines latched dt acc (n + 1)
  unfolding charge_cols
  cols-lit n a e h = rw (add-one, h, e)

  pub cols-dark : (n : ℕ) (a : List ℕ) → a ≡ charge_cols ids lines latched dt acc n → selected latched n ≡ false
      → a ≡ charge_cols ids lines latched dt acc (n + 1)
  unfolding charge_cols
  cols-dark n a e h = rw (add-one, h) e
