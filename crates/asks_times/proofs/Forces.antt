-- Bits and forces: what is at least 0 is a number, and bits of at most those of 1.0 are a number's.
use mathlib.Core.Path.{◌≡◌, sym, subst}
use mathlib.Core.Bool.{Bool, true, not, ◌&&◌}
use Prim.Native.Nat.{ℕ, ◌≤◌, ◌%◌, ◌/◌}
use lib.Dec.{T, eqb}
use lib.Ieee.{Float, nan, inf, fin, binary32, of_bits, le, is_nan, nan_bits, hid}
use borrow.Author.Tests.{ne_eqb}
use native.Mathlib.Omega.{arith}

pub number-from : (x : Float) → le (of_bits binary32 0) x ≡ true → T (not (is_nan x))
unfolding le of_bits is_nan
number-from nan e = subst T (sym e) tt
number-from (inf s) e = tt
number-from (fin s m k) e = tt

exponent : (n : ℕ) → n ≤ 0x3f80_0000 → n % 0x8000_0000 / 0x80_0000 ≡ 255 → ⊥
exponent n l e = omega (arith, l, e)

pub pattern-from : (n : ℕ) → n ≤ 0x3f80_0000 → T (not (nan_bits binary32 n))
unfolding nan_bits
pattern-from n l = subst (λ (u : Bool). T (not (u && not (eqb (n % hid binary32) 0)))) (sym (ne_eqb (n % 0x8000_0000 / 0x80_0000) 255 (exponent n l))) tt
