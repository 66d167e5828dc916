-- Demand 3, as laws of a history: due times, the step in which a byte leaves, how long it waits, and that none is unaccounted for.
use Rattle.std.specs.Prelude.{false, List, [], ◌∷◌, ◌++◌, map, ◌≡◌, ℕ, zero, suc, ◌+◌, ◌*◌, ◌≤◌, ◌<◌, length, get_or}
use Rattle.midi_laws.specs.Model.{Act, move, serve, offer, In, Out, Step, Hist, given}

-- ---- reading a history

abbrev pub no_in : In
no_in = record { at = 0; time = 0; ahead = 0; byte = 0 }

abbrev pub no_out : Out
no_out = record { at = 0; time = 0; step = 0; byte = 0; handed = false }

-- byte n as it entered, and as it left
abbrev pub in_at : List In → ℕ → In
in_at l n = get_or l n no_in

abbrev pub out_at : List Out → ℕ → Out
out_at l n = get_or l n no_out

abbrev pub no_step : Step
no_step = record { at = 0; gave = [] }

abbrev pub step_at : List Step → ℕ → Step
step_at l i = get_or l i no_step

abbrev pub in_bytes : List In → List ℕ
in_bytes = map (λ (i : In). i.byte)

abbrev pub out_bytes : List Out → List ℕ
out_bytes = map (λ (o : Out). o.byte)

-- the bytes that the steps handed out, in order
unfoldable pub handed : List Step → List ℕ
handed [] = []
handed (s ∷ l) = s.gave ++ handed l

-- the bytes offered
unfoldable pub offered : List Act → List ℕ
offered [] = []
offered (move n ∷ l) = offered l
offered (serve t on ∷ l) = offered l
offered (offer t b ∷ l) = b ∷ offered l

-- a fact of every byte time of a run
unfoldable pub Each : (ℕ → Type 0) → List Act → Type 0
Each P [] = Unit {0}
Each P (move n ∷ l) = Each P l
Each P (serve t on ∷ l) = P t × Each P l
Each P (offer t b ∷ l) = P t × Each P l

abbrev pub Positive : List Act → Type 0
Positive = Each (λ t. 0 < t)

-- the rate is fixed, and so is the byte time
abbrev pub Steady : ℕ → List Act → Type 0
Steady B = Each (λ t. t ≡ B)

-- ---- D1

-- of the two moments, the first where none stood ahead, and else the second
abbrev pub pick_from : ℕ → ℕ → ℕ → ℕ
pick_from zero entered left = entered
pick_from (suc k) entered left = left

-- a byte time after each byte left
abbrev pub dues : List Out → List ℕ
dues = map (λ (o : Out). o.at + o.time)

-- the due time of byte n; p is that of byte 0 where one stood ahead of it
abbrev pub due_from : ℕ → List In → List Out → ℕ → ℕ
due_from p is os n = pick_from (in_at is n).ahead ((in_at is n).at + (in_at is n).time) (get_or (p ∷ dues os) n 0)

-- "a queued byte is due one byte time after it entered an empty queue, or after the byte ahead left": byte n of a run that begins with an empty queue
abbrev pub due_of : Hist → ℕ → ℕ
due_of h n = due_from 0 h.ins h.outs n

-- ---- D2

-- step i ends at or after d, and no earlier step does
pub record InFirst (steps : List Step) (d i : ℕ) : Type 0 where
  pub made : i < length steps
  pub reached : d ≤ (step_at steps i).at
  pub before : (m : ℕ) → m < i → (step_at steps m).at < d

-- no step ended at or after d
abbrev pub NoneYet : List Step → ℕ → Type 0
NoneYet steps d = (m : ℕ) → m < length steps → (step_at steps m).at < d

-- ---- D3

-- a step ends at or after the time d, and at most D later
pub record OnTime (D d : ℕ) (steps : List Step) : Type 0 where
  pub step : ℕ
  pub made : step < length steps
  pub reached : d ≤ (step_at steps step).at
  pub near : (step_at steps step).at ≤ d + D

-- byte n left, k byte times after it entered at the least, and k + 1 times a byte time and D at the most; k bytes stood ahead of it
pub record Bound (B D : ℕ) (h : Hist) (n : ℕ) : Type 0 where
  pub gone : n < length h.outs
  pub least : (in_at h.ins n).at + (in_at h.ins n).ahead * B ≤ (out_at h.outs n).at
  pub most : (out_at h.outs n).at ≤ (in_at h.ins n).at + suc (in_at h.ins n).ahead * (B + D)

-- byte n and every byte ahead of it when it entered has a step in time
abbrev pub Prompt : ℕ → Hist → ℕ → Type 0
Prompt D h n = (m : ℕ) → m ≤ n → n ≤ m + (in_at h.ins n).ahead → OnTime D (due_of h m) h.steps

-- ---- what is demanded of the history h of the acts l

pub record MidiLaws (l : List Act) (h : Hist) : Type 0 where
  -- D1: the deadline that the board keeps is the due time of the first byte that waits
  pub due : length h.outs < length h.ins → h.end.due ≡ due_of h (length h.outs)
  -- D2, in order: the bytes that entered are those that left and those that wait
  pub order : in_bytes h.ins ≡ out_bytes h.outs ++ h.end.queue
  -- once: a byte leaves at the end of a step, which hands out that byte, or none where nobody receives; no two leave in one step
  pub gave : (n : ℕ) → n < length h.outs
      → step_at h.steps (out_at h.outs n).step ≡ record { at = (out_at h.outs n).at; gave = given (out_at h.outs n).handed (out_at h.outs n).byte }
  pub apart : (m n : ℕ) → m < n → n < length h.outs → (out_at h.outs m).step < (out_at h.outs n).step
  -- and a step that hands out a byte is one in which a byte left
  pub none : (i : ℕ) → i < length h.steps → ((n : ℕ) → n < length h.outs → (out_at h.outs n).step ≡ i → ⊥) → (step_at h.steps i).gave ≡ []
  -- "it leaves in the first accepted step that ends at or after" its due time
  pub first : (n : ℕ) → n < length h.outs → InFirst h.steps (due_of h n) (out_at h.outs n).step
  -- where there is no such step yet, it waits: the first of the queue
  pub waits : (n : ℕ) → n ≡ length h.outs → n < length h.ins → NoneYet h.steps (due_of h n)
  -- D3, with one byte time B: none is early
  pub least : (B : ℕ) → Steady B l → (n : ℕ) → n < length h.outs → (in_at h.ins n).at + (in_at h.ins n).ahead * B ≤ (out_at h.outs n).at
  -- and none is late, if for it and for each byte ahead of it a step is made in time
  pub bounds : (B : ℕ) → Steady B l → (D n : ℕ) → n < length h.ins → Prompt D h n → Bound B D h n
  -- D4: "offered by applied actions = handed out + dropped + waiting"
  pub total : length (offered l) ≡ length (handed h.steps) + h.end.dropped + length h.end.queue
