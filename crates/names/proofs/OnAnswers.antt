-- What an answer says of the test that it came from.
use mathlib.Core.Path.{◌≡◌, refl}
use mathlib.Core.Bool.{Bool, true, false, cond}
use Prim.Native.Nat.{ℕ}
use Rattle.std.specs.Prelude.{None, Some}

pub some-injective : (x y : ℕ) → Some x ≡ Some y → x ≡ y
some-injective x y e = cc

pub none-ne-some : (x : ℕ) → None ≡ Some x → ⊥
none-ne-some x e = cc

pub some-ne-none : (x : ℕ) → Some x ≡ None → ⊥
some-ne-none x e = cc

-- a test that picked an answer, or none
pub picked-some : (b : Bool) (x : ℕ) {i : ℕ} → cond b (Some x) None ≡ Some i → (b ≡ true) × (x ≡ i)
picked-some true x {i} e = (refl, some-injective x i e)
picked-some false x {i} e = absurd (none-ne-some i e)

pub picked_none : (b : Bool) (x : ℕ) → cond b (Some x) None ≡ None → b ≡ false
picked_none true x e = absurd (some-ne-none x e)
picked_none false x e = refl
