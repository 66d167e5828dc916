-- The step, the push and an action, lent as much of a memory as is asked for: the number that comes back, 99 where there is not so much.
use Rattle.std.specs.Prelude.{ℕ, cond, List, eqb, leb, length, replicate, take}
use Rattle.board.specs.Steps.{apply_call}
use Rattle.board_words.specs.Words.{spot_in}
use Rattle.records.specs.declared.Action.{Action}
use Rattle.records.specs.declared.Action.TheVariants.{Midi, KeyVel}
use Rattle.script.specs.Words.{words_at, places_in}
use Rattle.state.specs.declared.Board.{Board}
use Rattle.step.specs.Step.{step_of, pushed_of}

abbrev pub no_room : ℕ
no_room = 99

unfoldable pub stepped_of : Board → ℕ → List ℕ → ℕ → List ℕ → ℕ → List ℕ → ℕ → ℕ
stepped_of b cycles queue bytes script words out room =
    cond (leb bytes (length queue))
    (cond (leb words (length script))
    (cond (leb room (length out))
    (step_of b cycles (words_at (take words script)) (places_in (take words script)) (take bytes queue) (take room out)).refused
    no_room)
    no_room)
    no_room

-- "lent a queue of so many bytes, a script of so many words and output of so many bytes; FRONT is the lent front's time"
abbrev pub step_tried : Board → ℕ → ℕ → ℕ → ℕ → ℕ → ℕ
step_tried b cycles bytes words room front =
    stepped_of b cycles (replicate 3200 0) bytes (replicate 520 front) words (replicate 4400 0) room

unfoldable pub pushed_in : Board → List ℕ → ℕ → ℕ
pushed_in b script words = cond (leb words (length script)) (pushed_of (spot_in b (take words script) 0)).refused no_room

abbrev pub push_tried : Board → ℕ → ℕ → ℕ
push_tried b words front = pushed_in b (replicate 520 front) words

-- "a MIDI byte (0) or a velocity (1)"
abbrev pub action_of : ℕ → Action
action_of kind = cond (eqb kind 0) (Midi 0x90) (KeyVel 1)

unfoldable pub applied_in : Board → Action → List ℕ → ℕ → ℕ
applied_in b a queue bytes = cond (leb bytes (length queue)) (apply_call b a bytes).refused no_room

abbrev pub apply_tried : Board → ℕ → ℕ → ℕ
apply_tried b kind bytes = applied_in b (action_of kind) (replicate 3200 0) bytes
