-- A float's 32 bits: those that are no number's have all ones in the exponent's field and some in the digits'.
use mathlib.Core.Path.{◌≡◌, refl, sym, ap, subst, ◌∙◌}
use mathlib.Core.Bool.{Bool, true, false, cond, not, ◌&&◌}
use Prim.Native.Nat.{ℕ, ◌≤◌, ◌<◌, ◌%◌, ◌/◌}
use lib.Dec.{T, eqb, leb}
use lib.Ieee.{nan, inf, binary32, of_bits, of_fields, nan_bits, hid, top, div, odd}
use borrow.Author.Tests.{eqb-true, eq-eqb, ne_eqb}
use native.Mathlib.Omega.{arith}

-- bits up to those of an infinity are a number's
pub number-bits : (n : ℕ) → n % 0x8000_0000 ≤ 0x7f80_0000 → T (not (nan_bits binary32 n))
unfolding nan_bits
number-bits n l = go (eqb (n % 0x8000_0000 / 0x80_0000) 255) refl
  where
    digits : n % 0x8000_0000 / 0x80_0000 ≡ 255 → n % 0x80_0000 ≡ 0
    digits e = omega (arith, l, e)

    go : (u : Bool) → eqb (n % 0x8000_0000 / 0x80_0000) 255 ≡ u → T (not (u && not (eqb (n % hid binary32) 0)))
    go false e = tt
    go true e = subst (λ (v : Bool). T (not (not v))) (sym (eq-eqb (n % 0x80_0000) 0 (digits (eqb-true (n % 0x8000_0000 / 0x80_0000) 255 e)))) tt

-- those above are a NaN
pub nan-bits : (n : ℕ) → 0x7f80_0000 < n % 0x8000_0000 → of_bits binary32 n ≡ nan
unfolding of_bits of_fields
nan-bits n h =
    ap (λ (x : ℕ). of_fields binary32 (leb (top binary32) n) x (n % hid binary32)) field
    ∙ ap (λ (u : Bool). cond u (inf (leb (top binary32) n)) nan) (ne_eqb (n % 0x80_0000) 0 digits)
  where
    field : n % 0x8000_0000 / 0x80_0000 ≡ 255
    field = omega (arith, h)

    digits : n % 0x80_0000 ≡ 0 → ⊥
    digits e = omega (arith, h, e)

-- 0 divided by 0 is one
pub no_number : div binary32 (of_bits binary32 0) (of_bits binary32 0) ≡ nan
unfolding div of_bits of_fields odd
no_number = refl
