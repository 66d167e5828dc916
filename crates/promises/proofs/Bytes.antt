-- A moment of the queue and an action, as acts on the MIDI part.
use mathlib.Core.Path.{◌≡◌, refl, sym, ap, subst}
use mathlib.Core.Bool.{Bool, true, false, cond}
use mathlib.Core.List.{List, [], ◌∷◌}
use mathlib.Core.Logic.{⊎_elim}
use Prim.Native.Nat.{ℕ, zero, suc, ◌+◌, ◌-◌, ◌%◌, ◌≤◌, ◌<◌}
use native.Mathlib.Omega.{arith}
use lib.Dec.{eqb, eqb-suc-zero}
use lib.ListN.{length, get_or}
use Rattle.base.proofs.Cases.{lt-or-ge}
use Rattle.base.specs.Moments.{clock_max, never}
use Rattle.base.specs.Ring.{ring}
use Rattle.midi_laws.proofs.Does.{Does, nothing, serves-none, serves-quiet, serves-byte, takes, drops}
use Rattle.midi_laws.specs.Model.{Midi, midi, serve, offer, Step, lost, given, due_after, due_with}
use Rattle.records.specs.declared.Action.{Action}
use Rattle.records.specs.declared.Action.TheVariants.{Key, Enc, Adc, Midi as MidiByte, KeyVel, Pressure}
use Rattle.state.specs.Whole.{Sound}
use Rattle.state.specs.declared.Board.{Board}
use Rattle.state.specs.declared.Chip.{Chip}
use Rattle.step.specs.Apply.{acted_on, apply_of, apply_in}
use Rattle.step.specs.Stages.{now_of, hz_of, served_of, first_stages, last_stages}
use Rattle.times.specs.Clocks.{byte_time}
use Rattle.uart.proofs.Arrivals.{offer-sets-due, offer-keeps-due}
use Rattle.uart.proofs.Outcomes.{receive-outcome, timeout-outcome}
use Rattle.uart.proofs.Queue.{queue-length, offer-appends, offer-drops, offer-full}
use Rattle.uart.proofs.Totals.{offer-waits, offer-loses}
use Rattle.uart.specs.Facts.{UartOk}
use Rattle.uart.specs.Uart.{queue_bytes, queue_of, receives, lost as lost_of, front_gone, stored, updated, receive_at, timeout_at, timed_out, offer_of, offer_in}
use Rattle.uart.specs.declared.Received.{Received}
use Rattle.uart.specs.declared.Uart.{Uart}
use Rattle.promises.specs.Midi.{part_of, midi_of, offers, gave_of}

-- the MIDI part of a UART, its queue and a clock
abbrev pub jack : Uart → List ℕ → ℕ → Midi
jack u queue now = midi now u.next (queue_of u queue) u.dropped

same-midi : (c : ℕ) {d d' x x' : ℕ} {q q' : List ℕ} → d ≡ d' → q ≡ q' → x ≡ x' → midi c d q x ≡ midi c d' q' x'
same-midi c p e f i = midi c (p i) (e i) (f i)

-- ---- a moment

-- the deadline after a byte left, and after one entered
due-after : (B c n p : ℕ) (m : List ℕ) → cond (eqb n 0) never (c + B) ≡ due_after B (ring 0 queue_bytes m p n) c
unfolding ring
due-after B c zero p m = refl
due-after B c (suc n) p m = rw (eqb-suc-zero n)

front : (m : List ℕ) (p n : ℕ) → 0 < n → ring 0 queue_bytes m p n ≡ get_or m p 0 ∷ ring 0 queue_bytes m ((p + 1) % queue_bytes) (n - 1)
unfolding ring
front m p zero h = absurd (omega arith)
front m p (suc n) h = let e : suc n - 1 ≡ n = omega arith in rw e

module _ (u : Uart) (queue : List ℕ) (now hz : ℕ) where
  -- the step that ends now, with what it hands out
  abbrev step_of : Received → Step
  step_of r = record { at = now; gave = gave_of r.byte }

  abbrev Fits : Received → Type 0
  Fits r = Does queue_bytes (jack u queue now) (jack r.uart queue now) (step_of r ∷ []) (serve (byte_time hz) (receives u) ∷ [])

  leaving : (on : Bool) → receives u ≡ on → (v : Uart) → u.next ≤ now → 0 < u.count
      → jack v queue now ≡ midi now (cond (eqb (u.count - 1) 0) never (now + byte_time hz)) (ring 0 queue_bytes queue ((u.place + 1) % queue_bytes) (u.count - 1)) (u.dropped + lost on)
      → Does queue_bytes (jack u queue now) (jack v queue now) (record { at = now; gave = given on (get_or queue u.place 0) } ∷ []) (serve (byte_time hz) (receives u) ∷ [])
  leaving on is v h g e =
      rw (is, front queue u.place u.count g, e)
      (serves-byte (byte_time hz) on h
      (same-midi now (due-after (byte_time hz) now (u.count - 1) ((u.place + 1) % queue_bytes) queue) refl refl))

  received : Fits (receive_at u queue now hz)
  unfolding front_gone stored updated ring
  received =
      receive-outcome u queue now hz Fits
      (λ h. serves-quiet (byte_time hz) (receives u) h refl)
      (λ h e. subst (λ (n : ℕ). Does queue_bytes (midi now u.next (ring 0 queue_bytes queue u.place n) u.dropped) (midi now u.next (ring 0 queue_bytes queue u.place n) u.dropped) (record { at = now; gave = [] } ∷ []) (serve (byte_time hz) (receives u) ∷ [])) (sym e) (serves-none (byte_time hz) (receives u) refl))
      (λ h g r. leaving true r (stored (front_gone u now hz) now hz) h g (same-midi now refl refl (omega arith)))
      (λ h g r. leaving false r (lost_of (front_gone u now hz)) h g refl)

-- the timeout leaves it
timeout-jack : (u : Uart) (queue : List ℕ) (now : ℕ) → jack (timeout_at u now) queue now ≡ jack u queue now
unfolding timed_out updated
timeout-jack u queue now = timeout-outcome u now (λ v. jack v queue now ≡ jack u queue now) (λ h. refl) (λ h. refl) (λ h. refl)

abbrev pub chip_part : Chip → List ℕ → Midi
chip_part c queue = jack c.uart queue (now_of c)

-- a step's stages serve the queue, and hand out what they answer
pub served-does : (c : Chip) (queue : List ℕ)
    → Does queue_bytes (chip_part c queue) (chip_part (served_of c queue).chip queue) (record { at = now_of c; gave = gave_of (served_of c queue).uart_rx } ∷ [])
    (serve (byte_time (hz_of c)) (receives c.uart) ∷ [])
unfolding served_of first_stages last_stages
served-does c queue =
    let u = (receive_at c.uart queue (now_of c) (hz_of c)).uart in
    rw (timeout-jack u queue (now_of c)) (received c.uart queue (now_of c) (hz_of c))

-- ---- an action

module _ (u : Uart) (queue : List ℕ) (now hz b : ℕ) (w : UartOk u) (lent : length queue ≡ queue_bytes) (m : now ≤ clock_max) (slow : hz ≤ 800_000_000) where
  abbrev after : Midi
  after = jack (offer_of u now hz) (offer_in u queue b) now

  entered : u.count < queue_bytes → (n : ℕ) → u.count ≡ n → (offer_of u now hz).next ≡ due_with (byte_time hz) (ring 0 queue_bytes queue u.place n) now u.next
  unfolding ring
  entered h zero e = offer-sets-due u now hz h w m (omega arith) e
  entered h (suc n) e = offer-keeps-due u now hz h (omega arith)

  pub offer-does : Does queue_bytes (jack u queue now) after [] (offer (byte_time hz) b ∷ [])
  offer-does =
      ⊎_elim
      (λ (h : u.count < queue_bytes).
      takes (byte_time hz) b (rw (queue-length u queue) h)
      (same-midi now (entered h u.count refl) (offer-appends u queue b now hz lent w.place h) (offer-waits u now hz h).loses))
      (λ (h : queue_bytes ≤ u.count).
      drops (byte_time hz) b (rw (queue-length u queue) h)
      (same-midi now (ap (λ (v : Uart). v.next) (offer-full u now hz h)) (offer-drops u queue b now hz h) (offer-loses u now hz h).loses))
      (lt-or-ge u.count queue_bytes)

pub apply-does : (b : Board) (a : Action) (queue : List ℕ) → Sound b → length queue ≡ queue_bytes
    → Does queue_bytes (part_of b queue) (part_of (apply_of b a) (apply_in b a queue)) [] (offers (byte_time (hz_of b.chip)) (midi_of a))
unfolding apply_of acted_on apply_in offers
apply-does b (Key id down) queue w lent = nothing refl
apply-does b (Enc enc clicks) queue w lent = nothing refl
apply-does b (Adc ch value) queue w lent = nothing refl
apply-does b (MidiByte x) queue w lent =
    offer-does b.chip.uart queue (now_of b.chip) (hz_of b.chip) x w.chip.uart lent w.chip.clock.cycles w.chip.clock.high
apply-does b (KeyVel vel) queue w lent = nothing refl
apply-does b (Pressure id vel) queue w lent = nothing refl
