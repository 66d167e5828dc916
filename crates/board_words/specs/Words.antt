-- A script that is held as plain words, two an entry: what stands at a place, and what a push stores.
use Rattle.std.specs.Prelude.{ℕ, ◌+◌, ◌*◌, cond, List, set}
use Rattle.script.specs.Entries.{shown}
use Rattle.script.specs.Words.{words_at, places_in}
use Rattle.script.specs.declared.Front.{Front}
use Rattle.state.specs.declared.Board.{Board}
use Rattle.step.specs.Step.{front_place, placed_of}
use Rattle.step.specs.declared.Spot.{Spot}

abbrev pub shown_in : List ℕ → ℕ → Front
shown_in ws place = shown (places_in ws) (words_at ws place)

-- where a push puts its entry
abbrev pub spot_in : Board → List ℕ → ℕ → Spot
spot_in b ws at = placed_of b (shown_in ws (front_place b)) at

-- the two words in their place, or all as they were
abbrev pub stored_words : Spot → List ℕ → ℕ → ℕ → List ℕ
stored_words s ws at w = cond s.ok (set (set ws (2 * s.place) at) (2 * s.place + 1) w) ws
