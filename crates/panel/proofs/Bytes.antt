-- A byte of SPI2 is its eight bits shifted in, the most significant first.
use Rattle.std.proofs.Common.{◌≡◌, ℕ, ◌+◌, ◌*◌, ◌/◌, ◌%◌, ◌<◌, ap, ◌∙◌, arith}
use native.Mathlib.Nat.{mod-add-mod}
use Rattle.base.specs.Bits.{bit_of}
use Rattle.panel.specs.Pins.{shift_in}

twice : (x c : ℕ) → (x % 65536 * 2 + c) % 65536 ≡ (x * 2 + c) % 65536
twice x c =
    let a : x % 65536 * 2 + c ≡ x % 65536 + (x % 65536 + c) = omega arith in
    let b : x + (x % 65536 + c) ≡ x % 65536 + (x + c) = omega arith in
    let d : x + (x + c) ≡ x * 2 + c = omega arith in
    ap (λ (z : ℕ). z % 65536) a ∙ mod-add-mod x 65536 (x % 65536 + c) ∙ ap (λ (z : ℕ). z % 65536) b
    ∙ mod-add-mod x 65536 (x + c)
    ∙ ap (λ (z : ℕ). z % 65536) d

module _ (s b : ℕ) (h : b < 256) where
  after1 : shift_in s (bit_of b 7) ≡ (s * 2 + b / 128) % 65536
  after1 = let q : s * 2 + bit_of b 7 ≡ s * 2 + b / 128 = omega arith in ap (λ (z : ℕ). z % 65536) q

  after2 : shift_in ((s * 2 + b / 128) % 65536) (bit_of b 6) ≡ (s * 4 + b / 64) % 65536
  after2 =
      let q : (s * 2 + b / 128) * 2 + bit_of b 6 ≡ s * 4 + b / 64 = omega arith in
      twice (s * 2 + b / 128) (bit_of b 6) ∙ ap (λ (z : ℕ). z % 65536) q

  after3 : shift_in ((s * 4 + b / 64) % 65536) (bit_of b 5) ≡ (s * 8 + b / 32) % 65536
  after3 =
      let q : (s * 4 + b / 64) * 2 + bit_of b 5 ≡ s * 8 + b / 32 = omega arith in
      twice (s * 4 + b / 64) (bit_of b 5) ∙ ap (λ (z : ℕ). z % 65536) q

  after4 : shift_in ((s * 8 + b / 32) % 65536) (bit_of b 4) ≡ (s * 16 + b / 16) % 65536
  after4 =
      let q : (s * 8 + b / 32) * 2 + bit_of b 4 ≡ s * 16 + b / 16 = omega arith in
      twice (s * 8 + b / 32) (bit_of b 4) ∙ ap (λ (z : ℕ). z % 65536) q

  after5 : shift_in ((s * 16 + b / 16) % 65536) (bit_of b 3) ≡ (s * 32 + b / 8) % 65536
  after5 =
      let q : (s * 16 + b / 16) * 2 + bit_of b 3 ≡ s * 32 + b / 8 = omega arith in
      twice (s * 16 + b / 16) (bit_of b 3) ∙ ap (λ (z : ℕ). z % 65536) q

  after6 : shift_in ((s * 32 + b / 8) % 65536) (bit_of b 2) ≡ (s * 64 + b / 4) % 65536
  after6 =
      let q : (s * 32 + b / 8) * 2 + bit_of b 2 ≡ s * 64 + b / 4 = omega arith in
      twice (s * 32 + b / 8) (bit_of b 2) ∙ ap (λ (z : ℕ). z % 65536) q

  after7 : shift_in ((s * 64 + b / 4) % 65536) (bit_of b 1) ≡ (s * 128 + b / 2) % 65536
  after7 =
      let q : (s * 64 + b / 4) * 2 + bit_of b 1 ≡ s * 128 + b / 2 = omega arith in
      twice (s * 64 + b / 4) (bit_of b 1) ∙ ap (λ (z : ℕ). z % 65536) q

  after8 : shift_in ((s * 128 + b / 2) % 65536) (bit_of b 0) ≡ (s * 256 + b / 1) % 65536
  after8 =
      let q : (s * 128 + b / 2) * 2 + bit_of b 0 ≡ s * 256 + b / 1 = omega arith in
      twice (s * 128 + b / 2) (bit_of b 0) ∙ ap (λ (z : ℕ). z % 65536) q

  pub byte-bits : shift_in (shift_in (shift_in (shift_in (shift_in (shift_in (shift_in (shift_in s (bit_of b 7)) (bit_of b 6)) (bit_of b 5)) (bit_of b 4)) (bit_of b 3)) (bit_of b 2)) (bit_of b 1)) (bit_of b 0)
      ≡ (s * 256 + b) % 65536
  byte-bits =
      let q : s * 256 + b / 1 ≡ s * 256 + b = omega arith in
      rw (after1, after2, after3, after4, after5, after6, after7) (after8 ∙ ap (λ (z : ℕ). z % 65536) q)
