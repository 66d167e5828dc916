-- What a call answers that hands the record back: "Each returns its number alone; state and lent memory stay as they were." 0 is done.
use Rattle.std.specs.Prelude.{ℕ, cond, eqb}
use Rattle.state.specs.With.{with_chip}
use Rattle.state.specs.declared.Board.{Board}
use Rattle.state.specs.declared.Chip.{Chip}
use Rattle.board_guard.specs.declared.Done.{Done}

abbrev pub turned_of : Board → ℕ → Done
turned_of b n = record { board = b; refused = n }

abbrev pub done_of : Board → Chip → Done
done_of b c = record { board = with_chip b c; refused = 0 }

-- done with the chip that it makes, or turned away with a number
abbrev pub answered : Board → ℕ → Chip → Done
answered b n c = cond (eqb n 0) (done_of b c) (turned_of b n)
