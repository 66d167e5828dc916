-- A step, as acts on the MIDI part: refused it does nothing; accepted it moves the clock, serves the queue and offers the bytes of the entries that it applied.
use mathlib.Core.Path.{◌≡◌, refl, sym, ◌∙◌, ap, subst}
use mathlib.Core.Bool.{Bool, true, false, cond}
use mathlib.Core.List.{List, [], ◌∷◌}
use mathlib.Core.Logic.{⊎_elim}
use Prim.Native.Nat.{ℕ, ◌+◌, ◌≤◌, ◌<◌}
use native.Mathlib.Nat.{lt_of_lt_of_le}
use native.Mathlib.Omega.{arith}
use borrow.Author.Tests.{eqb-true, eqb-false, eq-eqb, ne_eqb, le-ltb}
use lib.Dec.{eqb}
use lib.ListN.{length}
use Rattle.base.proofs.Cases.{lt-or-ge}
use Rattle.midi_laws.proofs.Does.{Does, nothing, and_then, moves, serves-quiet}
use Rattle.midi_laws.specs.Laws.{offered, Each}
use Rattle.midi_laws.specs.Model.{move, serve}
use Rattle.script.specs.Entries.{shown}
use Rattle.script.specs.declared.Entry.{Entry}
use Rattle.script.specs.declared.Front.{Front}
use Rattle.state.specs.State.{next_event}
use Rattle.state.specs.Whole.{Whole}
use Rattle.state.specs.With.{moved_to}
use Rattle.state.specs.declared.Board.{Board}
use Rattle.state.specs.declared.Chip.{Chip}
use Rattle.step.proofs.Outcomes.{refused-step, quiet_step_lem, step-number}
use Rattle.step.proofs.Refusals.{Accepted, accepted}
use Rattle.step.proofs.Serving.{early}
use Rattle.step.proofs.Turns.{moved-kept, serving-kept}
use Rattle.step.specs.Stages.{now_of, hz_of, served_of, first_stages, last_stages}
use Rattle.step.specs.Step.{waits, front_place, step_refusal, stopped_of, going_of, moved_by, started_of, begun_of, finished_of, settled, Ran, runs, ran, step_of}
use Rattle.times.specs.Clocks.{byte_time}
use Rattle.uart.specs.Uart.{queue_bytes, receives}
use Rattle.promises.specs.Midi.{part_of, midi_from, offers, gave_of, step_of_answer}
use Rattle.promises.proofs.Bytes.{served-does}
use Rattle.promises.proofs.Entries.{Took, runs-took}

module _ (b : Board) (cycles : ℕ) (look : ℕ → Entry) (n : ℕ) (queue out : List ℕ) (w : Whole b) where
  abbrev B : ℕ
  B = byte_time (hz_of b.chip)

  abbrev number : ℕ
  number = step_refusal b cycles (shown n (look (front_place b))) (length queue) (length out)

  abbrev moved : Chip
  moved = moved_to b.chip (now_of b.chip + cycles)

  abbrev start : Ran
  start = (going_of b (served_of moved queue), (queue, out))

  -- what is to be shown of the state in which a step ends
  abbrev Right : Ran → Type 0
  Right f =
      Does queue_bytes (part_of b queue) (part_of (finished_of f.0).board f.1.0) (step_of_answer (finished_of f.0))
      (cond (eqb (finished_of f.0).refused 0) (move cycles ∷ serve B (receives b.chip.uart) ∷ offers B (midi_from look (front_place b) (finished_of f.0).applied)) [])

  refused : (number ≡ 0 → ⊥) → Right (stopped_of b number, (queue, out))
  unfolding finished_of
  refused h = rw (ne_eqb number 0 h) (nothing refl)

  quiet : now_of b.chip + cycles < b.chip.clock.next_due → Right (stopped_of (moved_by b cycles) 0, (queue, out))
  unfolding finished_of midi_from offers next_event
  quiet h =
      and_then (moves cycles refl)
      (serves-quiet B (receives b.chip.uart) (early moved (lt_of_lt_of_le h w.due)).byte refl)

  pub begins : number ≡ 0 → b.chip.clock.next_due ≤ now_of b.chip + cycles → ran b cycles look n queue out ≡ runs (waits b) look start
  unfolding ran begun_of started_of
  begins e h = rw (eq-eqb number 0 e, le-ltb (now_of b.chip + cycles) b.chip.clock.next_due h)

  took : Accepted b cycles (shown n (look (front_place b))) (length queue) (length out) → Took (hz_of b.chip) look start (runs (waits b) look start)
  unfolding served_of first_stages last_stages
  took a =
      runs-took (hz_of b.chip) look (waits b) start
      (record { sound = serving-kept (moved_by b cycles) queue (moved-kept b cycles w.sound a.time); rate = refl; lent = a.lent; front = refl })

  served : Accepted b cycles (shown n (look (front_place b))) (length queue) (length out) → Right (runs (waits b) look start)
  unfolding finished_of served_of first_stages last_stages
  served a =
      let t = took a in
      let f = runs (waits b) look start in
      let rest : Does queue_bytes (part_of b queue) (part_of f.0.board f.1.0) (record { at = now_of moved; gave = gave_of (served_of moved queue).uart_rx } ∷ [])
      (move cycles ∷ serve B (receives b.chip.uart) ∷ offers B (midi_from look (front_place b) t.n)) =
      and_then (moves cycles refl) (and_then (served-does moved queue) t.does) in
      let count : f.0.applied ≡ t.n = omega (arith, t.applied) in
      rw (t.served, t.refused, t.gave, t.now, count) (rw t.now at rest)

  pub step-does : Right (ran b cycles look n queue out)
  step-does = go (eqb number 0) refl
    where
      go : (t : Bool) → eqb number 0 ≡ t → Right (ran b cycles look n queue out)
      go false e = subst Right (sym (refused-step b cycles look n queue out (eqb-false number 0 e))) (refused (eqb-false number 0 e))
      go true e =
          let z = eqb-true number 0 e in
          ⊎_elim
          (λ (h : now_of b.chip + cycles < b.chip.clock.next_due). subst Right (sym (quiet_step_lem b cycles look n queue out z h)) (quiet h))
          (λ (h : b.chip.clock.next_due ≤ now_of b.chip + cycles).
          subst Right (sym (begins z h)) (served (accepted b cycles (shown n (look (front_place b))) (length queue) (length out) z)))
          (lt-or-ge (now_of b.chip + cycles) b.chip.clock.next_due)

  -- the rate stays
  pub step-rate : hz_of (finished_of (ran b cycles look n queue out).0).board.chip ≡ hz_of b.chip
  unfolding finished_of served_of first_stages last_stages
  step-rate = go (eqb number 0) refl
    where
      Same : Ran → Type 0
      Same f = hz_of (settled f.0.served f.0.board).chip ≡ hz_of b.chip

      settles : (t : Bool) (d : Board) → hz_of (settled t d).chip ≡ hz_of d.chip
      settles true d = refl
      settles false d = refl

      go : (t : Bool) → eqb number 0 ≡ t → Same (ran b cycles look n queue out)
      go false e = subst Same (sym (refused-step b cycles look n queue out (eqb-false number 0 e))) refl
      go true e =
          let z = eqb-true number 0 e in
          ⊎_elim
          (λ (h : now_of b.chip + cycles < b.chip.clock.next_due). subst Same (sym (quiet_step_lem b cycles look n queue out z h)) refl)
          (λ (h : b.chip.clock.next_due ≤ now_of b.chip + cycles).
          let t = took (accepted b cycles (shown n (look (front_place b))) (length queue) (length out) z) in
          let f = runs (waits b) look start in
          subst Same (sym (begins z h)) (settles f.0.served f.0.board ∙ t.rate))
          (lt-or-ge (now_of b.chip + cycles) b.chip.clock.next_due)

offered-offers : (t : ℕ) (l : List ℕ) → offered (offers t l) ≡ l
unfolding offered offers
offered-offers t [] = refl
offered-offers t (b ∷ l) = ap (λ (r : List ℕ). b ∷ r) (offered-offers t l)

pub offers-given : (t : ℕ) (l : List ℕ) → l ≡ offered (offers t l)
offers-given t l = sym (offered-offers t l)

pub offers-at : (P : ℕ → Type 0) (t : ℕ) → P t → (l : List ℕ) → Each P (offers t l)
unfolding Each offers
offers-at P t p [] = tt
offers-at P t p (b ∷ l) = (p, offers-at P t p l)

-- what a step offers is what its answer says it applied: nothing, where it is refused
pub step-offered : (b : Board) (cycles : ℕ) (look : ℕ → Entry) (n : ℕ) (queue out : List ℕ) (B : ℕ) (on : Bool)
    → midi_from look (front_place b) (step_of b cycles look n queue out).applied
    ≡ offered (cond (eqb (step_of b cycles look n queue out).refused 0) (move cycles ∷ serve B on ∷ offers B (midi_from look (front_place b) (step_of b cycles look n queue out).applied)) [])
unfolding finished_of midi_from offered
step-offered b cycles look n queue out B on = go (eqb (step_of b cycles look n queue out).refused 0) refl
  where
    front : Front
    front = shown n (look (front_place b))

    number : ℕ
    number = step_refusal b cycles front (length queue) (length out)

    bytes : List ℕ
    bytes = midi_from look (front_place b) (step_of b cycles look n queue out).applied

    go : (t : Bool) → eqb (step_of b cycles look n queue out).refused 0 ≡ t → bytes ≡ offered (cond t (move cycles ∷ serve B on ∷ offers B bytes) [])
    go true e = offers-given B bytes
    go false e =
        let h : number ≡ 0 → ⊥ = λ z. eqb-false (step_of b cycles look n queue out).refused 0 e (step-number b cycles look n queue out ∙ z) in
        ap (λ (f : Ran). midi_from look (front_place b) f.0.applied) (refused-step b cycles look n queue out h)
