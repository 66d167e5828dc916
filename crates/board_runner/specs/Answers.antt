-- What a call answers that only asks: its refusal's number, 0 for done, and beside it what was asked for.
use Rattle.std.specs.Prelude.{ℕ, Bool, cond, false, eqb, Option, None}
use Rattle.irq.specs.declared.Choice.{Choice}
use Rattle.board_runner.specs.declared.Chosen.{Chosen}
use Rattle.board_runner.specs.declared.Flag.{Flag}
use Rattle.board_runner.specs.declared.Number.{Number}

abbrev pub number : ℕ → ℕ → Number
number n v = record { value = cond (eqb n 0) v 0; refused = n }

abbrev pub flag : ℕ → Bool → Flag
flag n t = record { refused = n; is = cond (eqb n 0) t false }

abbrev pub chosen : ℕ → Option Choice → Chosen
chosen n x = record { refused = n; choice = cond (eqb n 0) x None }
