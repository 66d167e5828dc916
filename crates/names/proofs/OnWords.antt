-- What a loop over a word's places has found.
use mathlib.Core.Path.{◌≡◌, refl, sym}
use mathlib.Core.Bool.{Bool, true, false, ◌&&◌, false≢true}
use mathlib.Core.List.{List, [], ◌∷◌}
use Prim.Native.Nat.{ℕ, ◌≤◌, ◌<◌}
use native.Mathlib.Omega.{arith}
use borrow.Author.Tests.{eq-eqb, ne_eqb}
use lib.Dec.{eqb}
use lib.ListN.{length}
use Rattle.base.proofs.Flags.{and_right}
use Rattle.std.specs.Char.{to_ascii_uppercase}
use Rattle.names.specs.Ascii.{uppers}
use Rattle.names.specs.Words.{starts_with}

pub too_short : (n w : List ℕ) → length n < length w → false ≡ starts_with n w
unfolding starts_with
too_short n [] h = absurd (omega arith)
too_short [] (x ∷ w) h = refl
too_short (b ∷ n) (x ∷ w) h = go (eqb b x) (too_short n w (omega arith))
  where
    go : (t : Bool) → false ≡ starts_with n w → false ≡ (t && starts_with n w)
    go true e = e
    go false e = refl

pub as_long : (n w : List ℕ) → true ≡ starts_with n w → length w ≤ length n
unfolding starts_with
as_long n [] e = omega arith
as_long [] (x ∷ w) e = absurd (false≢true (sym e))
as_long (b ∷ n) (x ∷ w) e =
    let h : length w ≤ length n = as_long n w (sym (and_right (eqb b x) (starts_with n w) (sym e))) in omega arith

-- the word has ended, which is no longer than the name
pub all_passed : (n w : List ℕ) → length w ≤ length n → length w ≡ 0 → true ≡ starts_with n w
unfolding starts_with
all_passed n [] h e = refl
all_passed n (x ∷ w) h e = absurd (omega arith)

module _ (b x : ℕ) (n w : List ℕ) where
  -- a byte that differs
  pub word_ends : (to_ascii_uppercase b ≡ x → ⊥) → false ≡ starts_with (uppers (b ∷ n)) (x ∷ w)
  unfolding starts_with uppers
  word_ends h = rw (ne_eqb (to_ascii_uppercase b) x h)

  -- a turn
  pub word_goes_on : to_ascii_uppercase b ≡ x → starts_with (uppers (b ∷ n)) (x ∷ w) ≡ starts_with (uppers n) w
  unfolding starts_with uppers
  word_goes_on h = rw (eq-eqb (to_ascii_uppercase b) x h)
