-- A push onto a script that is lent as entries: where it puts its entry, and what the memory is afterwards.
use Rattle.std.specs.Prelude.{cond, List, ℕ, set}
use Rattle.script.specs.Entries.{front_of}
use Rattle.script.specs.declared.Entry.{Entry}
use Rattle.state.specs.declared.Board.{Board}
use Rattle.step.specs.Step.{front_place, placed_of}
use Rattle.step.specs.declared.Spot.{Spot}

abbrev pub spot_in : Board → List Entry → ℕ → Spot
spot_in b es at = placed_of b (front_of es (front_place b)) at

-- the entry in its place, or all as it was
abbrev pub stored_at : Spot → List Entry → Entry → List Entry
stored_at s es e = cond s.ok (set es s.place e) es
