-- The refusals that most calls share, 0 for none.
use Rattle.std.specs.Prelude.{ℕ, cond, not, eqb}
use Rattle.base.specs.Refusals.{SIZE, STATE}
use Rattle.state.specs.State.{board_whole}
use Rattle.state.specs.declared.Board.{Board}

-- "each interrupt bank 32 words"
unfoldable pub size_of : ℕ → ℕ → ℕ
size_of first second = cond (not (eqb first 32)) SIZE (cond (not (eqb second 32)) SIZE 0)

-- most calls: the record is whole, or STATE
unfoldable pub whole_refused : Board → ℕ
whole_refused b = cond (not (board_whole b)) STATE 0

-- calls that are lent the banks: SIZE, then STATE
unfoldable pub banks_refused : Board → ℕ → ℕ → ℕ
banks_refused b first second = cond (not (eqb (size_of first second) 0)) SIZE (whole_refused b)
