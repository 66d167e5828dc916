-- A script of words: where its entries lie, and that a push's spot is within it.
use mathlib.Core.Path.{◌≡◌, refl, sym, ◌∙◌, ap, subst}
use mathlib.Core.Bool.{Bool, true, false, cond}
use mathlib.Core.List.{List}
use Prim.Native.Nat.{ℕ, ◌+◌, ◌*◌, ◌/◌, ◌%◌, ◌<◌}
use native.Mathlib.Omega.{arith}
use borrow.Author.Tests.{eqb-true}
use lib.Dec.{eqb}
use lib.ListN.{length}
use Rattle.script.specs.declared.Front.{Front}
use Rattle.state.specs.declared.Board.{Board}
use Rattle.step.proofs.Turns.{placed-within}
use Rattle.step.specs.Step.{front_place, placed_of}
use Rattle.step.specs.declared.Spot.{Spot}
use Rattle.script.specs.Words.{places_of}
use Rattle.board_words.specs.Words.{shown_in}

within : (t : Bool) (n p : ℕ) → eqb (n % 2) 0 ≡ t → p < cond t (n / 2) 0 → 2 * p + 1 < n
within true n p e h = omega (arith, eqb-true (n % 2) 0 e, h)
within false n p e h = omega (arith, h)

pub words-within : (n p : ℕ) → p < places_of n → 2 * p + 1 < n
words-within n p h = within (eqb (n % 2) 0) n p refl h

-- a push's spot has room for both of its words
pub spot-within : (b : Board) (ws : List ℕ) (at : ℕ) (front : Front) → front ≡ shown_in ws (front_place b) → (s : Spot) → s ≡ placed_of b front at → s.ok ≡ true → 2 * s.place + 1 < length ws
spot-within b ws at front is s placed =
    subst (λ (x : Spot). x.ok ≡ true → 2 * x.place + 1 < length ws) (sym (placed ∙ ap (λ (f : Front). placed_of b f at) is))
    (λ (ok : (placed_of b (shown_in ws (front_place b)) at).ok ≡ true). words-within (length ws) (placed_of b (shown_in ws (front_place b)) at).place (placed-within b (shown_in ws (front_place b)) at ok))
