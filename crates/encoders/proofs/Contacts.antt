-- The seven encoders' contacts as bits: A of encoder i is bit 2 i of `encs_closed`, B the next.
use mathlib.Core.Path.{◌≡◌, refl}
use mathlib.Core.Bool.{Bool, true, false, cond}
use mathlib.Core.List.{List}
use Prim.Native.Nat.{ℕ, zero, suc, ◌+◌, ◌*◌, ◌/◌, ◌%◌, ◌^◌, ◌≤◌, ◌<◌}
use native.Mathlib.Nat.{div-div-eq-div-mul}
use native.Mathlib.Numerals.{add-one}
use native.Mathlib.Omega.{arith}
use lib.Dec.{eqb}
use lib.Pow.{pow-add}
use Rattle.base.specs.Bits.{bit_of}
use Rattle.encoders.specs.Encoder.{closed_bits, contact_bits, encs_closed, enc_of}
use Rattle.encoders.specs.declared.Enc.{Enc}

two-bits : (s : ℕ) → closed_bits s ≤ 3
two-bits s = go (eqb s 1) (eqb s 2) (eqb s 3)
  where
    go : (x y z : Bool) → cond x 1 (cond y 3 (cond z 2 0)) ≤ 3
    go true y z = omega arith
    go false true z = omega arith
    go false false true = omega arith
    go false false false = omega arith

-- n numbers of two bits in one, the first lowest
abbrev packed : (ℕ → ℕ) → ℕ → ℕ
packed f zero = 0
packed f (suc n) = f 0 + 4 * packed (λ i. f (suc i)) n

two-on : (x k : ℕ) → bit_of x (2 + k) ≡ bit_of (x / 4) k
two-on x k = rw (pow-add 2 2 k, div-div-eq-div-mul x 4 (2 ^ k))

packed-bits : (f : ℕ → ℕ) (n i : ℕ) → ((k : ℕ) → f k ≤ 3) → i < n
    → (bit_of (packed f n) (i * 2) ≡ bit_of (f i) 0) × (bit_of (packed f n) (i * 2 + 1) ≡ bit_of (f i) 1)
packed-bits f zero i w h = absurd (omega arith)
packed-bits f (suc n) zero w h = let low = w 0 in (omega arith, omega arith)
packed-bits f (suc n) (suc i) w h =
    let low = w 0 in
    let p = packed (λ k. f (suc k)) n in
    let q : (f 0 + 4 * p) / 4 ≡ p = omega arith in
    let r = packed-bits (λ k. f (suc k)) n i (λ k. w (suc k)) (omega arith) in
    let a : suc i * 2 ≡ 2 + i * 2 = omega arith in
    let b : suc i * 2 + 1 ≡ 2 + (i * 2 + 1) = omega arith in
    (rw (a, two-on (f 0 + 4 * p) (i * 2), q) r.0, rw (b, two-on (f 0 + 4 * p) (i * 2 + 1), q) r.1)

-- contact A of encoder i, and contact B
pub contact-bit : (es : List Enc) (i : ℕ) → i < 7
    → (bit_of (encs_closed es) (i * 2) ≡ bit_of (contact_bits es i) 0) × (bit_of (encs_closed es) (i * 2 + 1) ≡ bit_of (contact_bits es i) 1)
unfolding encs_closed
contact-bit es i h =
    let q : encs_closed es ≡ packed (contact_bits es) 7 = omega arith in
    rw q (packed-bits (contact_bits es) 7 i (λ k. two-bits (enc_of es k).state) h)

-- ---- put together by a loop: of the first n encoders

unfoldable pub closed_to : List Enc → ℕ → ℕ
closed_to es zero = 0
closed_to es (suc n) = closed_to es n + contact_bits es n * 2 ^ (2 * n)

module _ (es : List Enc) where
  two : (k : ℕ) → contact_bits es k ≤ 3
  two k = two-bits (enc_of es k).state

  pub closed-none : 0 ≡ closed_to es 0
  unfolding closed_to
  closed-none = refl

  pub closed-fits : (i : ℕ) → i < 7 → closed_to es i + contact_bits es i * 2 ^ (2 * i) < 16384
  unfolding closed_to
  closed-fits zero h = omega (arith, two 0)
  closed-fits (suc zero) h = omega (arith, two 0, two 1)
  closed-fits (suc (suc zero)) h = omega (arith, two 0, two 1, two 2)
  closed-fits (suc (suc (suc zero))) h = omega (arith, two 0, two 1, two 2, two 3)
  closed-fits (suc (suc (suc (suc zero)))) h = omega (arith, two 0, two 1, two 2, two 3, two 4)
  closed-fits (suc (suc (suc (suc (suc zero))))) h = omega (arith, two 0, two 1, two 2, two 3, two 4, two 5)
  closed-fits (suc (suc (suc (suc (suc (suc zero)))))) h = omega (arith, two 0, two 1, two 2, two 3, two 4, two 5, two 6)
  closed-fits (suc (suc (suc (suc (suc (suc (suc i))))))) h = absurd (omega arith)

  pub closed_more : (i : ℕ) → i < 7 → closed_to es i + contact_bits es i * 2 ^ (2 * i) % 2 ^ 32 ≡ closed_to es (i + 1)
  unfolding closed_to
  closed_more i h =
      let f = closed-fits i h in
      let m : contact_bits es i * 2 ^ (2 * i) % 2 ^ 32 ≡ contact_bits es i * 2 ^ (2 * i) = omega (arith, f) in
      rw (add-one, m)

  pub closed_all : closed_to es 7 ≡ encs_closed es
  unfolding closed_to encs_closed
  closed_all = omega arith
