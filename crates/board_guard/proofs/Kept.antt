-- An answer keeps a whole record whole, done or turned away.
use mathlib.Core.Path.{◌≡◌, refl}
use mathlib.Core.Bool.{Bool, true, false, cond}
use Prim.Native.Nat.{ℕ}
use borrow.Author.Tests.{eqb-true}
use lib.Dec.{eqb}
use Rattle.state.specs.Whole.{Whole}
use Rattle.state.specs.With.{with_chip}
use Rattle.state.specs.declared.Board.{Board}
use Rattle.state.specs.declared.Chip.{Chip}
use Rattle.board_guard.specs.Answers.{answered, done_of, turned_of}

-- an answer keeps what its board has, done or turned away
pub kept : {A : Type 0} (board : A → Board) (n : ℕ) (x y : A) → (n ≡ 0 → Whole (board x)) → Whole (board y) → Whole (board (cond (eqb n 0) x y))
kept {A} board n x y h w = go (eqb n 0) refl
  where
    go : (t : Bool) → eqb n 0 ≡ t → Whole (board (cond t x y))
    go true e = h (eqb-true n 0 e)
    go false e = w

pub answer-kept : (b : Board) (n : ℕ) (c : Chip) → Whole b → (n ≡ 0 → Whole (with_chip b c)) → Whole (answered b n c).board
answer-kept b n c w h = kept (λ d. d.board) n (done_of b c) (turned_of b n) h w
