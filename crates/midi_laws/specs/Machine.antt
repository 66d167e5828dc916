-- A machine: its states S, the record and all that is lent to it, and its calls K; and what it is for its calls to keep the laws.
use Rattle.std.specs.Prelude.{List, [], ◌∷◌, ◌++◌, ◌≡◌, ℕ}
use Rattle.midi_laws.specs.Laws.{MidiLaws}
use Rattle.midi_laws.specs.Model.{Midi, Act, Step, run}

module _ {S K : Type 0} (exec : K → S → S) where
  -- the state that a list of calls leaves
  unfoldable pub final : S → List K → S
  final s [] = s
  final s (k ∷ l) = final (exec k s) l

  -- what the calls give, in order
  unfoldable pub gather : {A : Type 0} → (K → S → List A) → S → List K → List A
  gather f s [] = []
  gather f s (k ∷ l) = f k s ++ gather f (exec k s) l

  -- The demand on the calls l from the state s. The history is that of the calls' acts: it ends in the state that the calls leave, its steps are the accepted steps of the calls, each with the
  -- moment of its end and the bytes that it handed out, and it keeps the laws.
  pub record Demand (room : ℕ) (part : S → Midi) (acts : K → S → List Act) (steps : K → S → List Step) (s : S) (l : List K) : Type 0 where
    pub state : part (final s l) ≡ (run room 0 (part s) (gather acts s l)).end
    pub answers : gather steps s l ≡ (run room 0 (part s) (gather acts s l)).steps
    pub keep : MidiLaws (gather acts s l) (run room 0 (part s) (gather acts s l))
