-- A run, computed: a byte time of 10, room for 2. Two bytes enter and a third finds the queue full; one leaves late, one is lost since nobody receives, one waits.
use mathlib.Core.Path.{◌≡◌, refl}
use mathlib.Core.Bool.{true, false}
use mathlib.Core.List.{List, [], ◌∷◌}
use Rattle.midi_laws.specs.Laws.{due_of}
use Rattle.midi_laws.specs.Model.{midi, never, Act, move, serve, offer, Hist, hist, quiet_step, leaving_step, out_of, in_of, run, one, serving, offering}

abbrev acts : List Act
acts =
    offer 10 65 ∷ offer 10 66 ∷ offer 10 67  -- at 0
    ∷ move 9 ∷ serve 10 true  -- step 0 ends at 9: too early
    ∷ move 3 ∷ serve 10 true  -- step 1 ends at 12: 65 leaves, two cycles late
    ∷ serve 10 true ∷ offer 10 68  -- step 2, of no cycles: 66 is due at 22; 68 enters behind it
    ∷ move 10 ∷ serve 10 false  -- step 3 ends at 22: 66 leaves and is lost
    ∷ move 20 ∷ []

abbrev after : Hist
after = run 2 0 (midi 0 never [] 0) acts

pub example-run : after
    ≡ hist (midi 42 32 (68 ∷ []) 2) (in_of 0 10 0 65 ∷ in_of 0 10 1 66 ∷ in_of 12 10 1 68 ∷ []) (out_of 12 10 1 true 65 ∷ out_of 22 10 3 false 66 ∷ [])
    (quiet_step 9 ∷ leaving_step 12 true 65 ∷ quiet_step 12 ∷ leaving_step 22 false 66 ∷ [])
unfolding run one serving offering
example-run = refl

pub example-dues : (due_of after 0 ≡ 10) × (due_of after 1 ≡ 22) × (due_of after 2 ≡ 32)
unfolding run one serving offering
example-dues = (refl, refl, refl)
