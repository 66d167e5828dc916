-- What a call knows once its tests have passed.
use mathlib.Core.Path.{◌≡◌, refl, sym, ◌∙◌}
use mathlib.Core.Bool.{Bool, true, false, cond, not, true≢false}
use Prim.Native.Nat.{ℕ, suc}
use native.Mathlib.Omega.{arith}
use borrow.Author.Tests.{eqb-true}
use lib.Dec.{eqb}
use Rattle.state.proofs.Facts.{whole-facts}
use Rattle.state.specs.State.{board_whole}
use Rattle.state.specs.Whole.{Typed, Whole}
use Rattle.state.specs.declared.Board.{Board}
use Rattle.board_guard.specs.Refusals.{size_of, whole_refused, banks_refused}

pub unsaid : (x : Bool) → not x ≡ false → x ≡ true
unsaid true q = refl
unsaid false q = absurd (true≢false q)

-- a record that is not broken is whole
pub known : (b : Board) → Typed b → (r : Bool) → r ≡ not (board_whole b) → r ≡ false → Whole b
known b t r e f = whole-facts b t (unsaid (board_whole b) (sym e ∙ f))

pub sizes : (first second : ℕ) → size_of first second ≡ 0 → (first ≡ 32) × (second ≡ 32)
unfolding size_of
sizes first second e = go (eqb first 32) (eqb second 32) refl refl e
  where
    go : (x y : Bool) → eqb first 32 ≡ x → eqb second 32 ≡ y → ◌≡◌ {A = ℕ} (cond (not x) 2 (cond (not y) 2 0)) 0 → (first ≡ 32) × (second ≡ 32)
    go true true p q r = (eqb-true first 32 p, eqb-true second 32 q)
    go true false p q r = absurd (omega (arith, r))
    go false y p q r = absurd (omega (arith, r))

-- a test that must have failed
pub no : (x : Bool) (n m : ℕ) → cond x (suc n) m ≡ 0 → (x ≡ false) × (m ≡ 0)
no true n m e = absurd (omega (arith, e))
no false n m e = (refl, e)

-- banks are lent, and the call is not refused: their lengths, and a whole record
pub record Lent (b : Board) (first second : ℕ) : Type 0 where
  pub sizes : (first ≡ 32) × (second ≡ 32)
  pub whole : board_whole b ≡ true

pub lent : (b : Board) (first second n : ℕ) → n ≡ banks_refused b first second → n ≡ 0 → Lent b first second
unfolding banks_refused whole_refused
lent b first second n e z =
    let p = no (not (eqb (size_of first second) 0)) 1 _ (sym e ∙ z) in
    let q = no (not (board_whole b)) 2 0 p.1 in
    record {
      sizes = sizes first second (eqb-true (size_of first second) 0 (unsaid (eqb (size_of first second) 0) p.0));
      whole = unsaid (board_whole b) q.0;
    }
