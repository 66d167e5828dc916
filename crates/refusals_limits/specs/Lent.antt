-- The calls that are lent both banks, as much of each as is asked for: the number that comes back, 99 where there is not so much.
use Rattle.std.specs.Prelude.{ℕ, cond, List, leb, length, replicate, take}
use Rattle.board.specs.Calls.{read_call, write_call}
use Rattle.board.specs.Steps.{new_call, reset_call}
use Rattle.board_runner.specs.Calls.{choice_call, enabled_call}
use Rattle.refusals_limits.specs.declared.banks.Lent.{Lent}
use Rattle.refusals_limits.specs.declared.banks.Lent.TheVariants.{Read, IrqEnabled, PendingIrqFor, PendingIrq, Write, ChipReset}
use Rattle.state.specs.declared.Board.{Board}

abbrev pub no_room : ℕ
no_room = 99

-- room for a few words more than a bank has
abbrev pub bank_room : List ℕ
bank_room = replicate 40 0

unfoldable pub made_with : ℕ → ℕ → ℕ → List ℕ → ℕ → List ℕ → ℕ → ℕ
made_with hz bytes entries icfg first icfg1 second =
    cond (leb first (length icfg)) (cond (leb second (length icfg1)) (new_call hz bytes entries first second).refused no_room) no_room

-- "a new board: its rate, its queue, script and banks"
abbrev pub made_tried : ℕ → ℕ → ℕ → ℕ → ℕ → ℕ
made_tried hz bytes entries first second = made_with hz bytes entries bank_room first bank_room second

-- `write` and `chip_reset` change the banks
unfoldable pub banks_of : Board → Lent → ℕ → List ℕ → List ℕ → ℕ
banks_of b Read a icfg icfg1 = (read_call b a icfg icfg1).refused
banks_of b IrqEnabled a icfg icfg1 = (enabled_call b a 1 icfg icfg1).refused
banks_of b PendingIrqFor a icfg icfg1 = (choice_call b a icfg icfg1).refused
banks_of b PendingIrq a icfg icfg1 = (choice_call b 0 icfg icfg1).refused
banks_of b Write a icfg icfg1 = (write_call b a 1 (length icfg) (length icfg1)).refused
banks_of b ChipReset a icfg icfg1 = (reset_call b (length icfg) (length icfg1)).refused

unfoldable pub cut_of : Board → Lent → ℕ → List ℕ → ℕ → List ℕ → ℕ → ℕ
cut_of b call a icfg first icfg1 second =
    cond (leb first (length icfg)) (cond (leb second (length icfg1)) (banks_of b call a (take first icfg) (take second icfg1)) no_room) no_room

-- "lent banks of so many words"
abbrev pub banked_tried : Board → Lent → ℕ → ℕ → ℕ → ℕ
banked_tried b call a first second = cut_of b call a bank_room first bank_room second
