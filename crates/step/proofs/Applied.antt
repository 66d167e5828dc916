-- An action keeps what is known of the board, sets `next_due` to 0, leaves the clock, the script and the queue's length, and loses at most one byte.
use Prim.Native.Nat.{ℕ, ◌+◌, ◌/◌, ◌^◌, ◌≤◌, ◌<◌}
use mathlib.Core.Bool.{Bool, true, false, cond, not, ◌&&◌}
use mathlib.Core.List.{List}
use mathlib.Core.Logic.{◌⊎◌, inl, inr}
use mathlib.Core.Path.{◌≡◌, refl}
use native.Mathlib.Nat.{le_refl}
use native.Mathlib.Omega.{arith}
use lib.Dec.{eqb, leb, ltb}
use lib.ListN.{length}
use Rattle.base.proofs.Cases.{lt-or-ge}
use Rattle.base.specs.Moments.{clock_max}
use Rattle.keys.proofs.Held.{vel-kept, with-sized, press-kept, release-kept, pressure-kept}
use Rattle.encoders.proofs.Kept.{encs-turned, enc-turned-kept}
use Rattle.encoders.specs.Encoder.{enc_of, enc_turned, encs_turned, turned_if}
use Rattle.encoders.specs.Facts.{EncOk}
use Rattle.keys.specs.Facts.{KeysOk, Sized}
use Rattle.keys.specs.Keys.{Pressed, press_of, release_of, pressure_of, turned_ramps, is_down}
use Rattle.encoders.specs.declared.Enc.{Enc}
use Rattle.keys.specs.declared.Keys.{Keys}
use Rattle.keys.specs.declared.Ramps.{Ramps}
use Rattle.pressure.specs.Force.{ramp_most}
use Rattle.records.specs.declared.Action.{Action}
use Rattle.records.specs.declared.Action.TheVariants.{Key, Enc as EncAction, Adc, Midi, KeyVel, Pressure}
use Rattle.state.proofs.Kept.{put-uart, put-enc, put-keys, later}
use Rattle.state.specs.Whole.{Sound}
use Rattle.state.specs.With.{due_now}
use Rattle.state.specs.declared.Board.{Board}
use Rattle.state.specs.declared.Chip.{Chip}
use Rattle.state.specs.declared.Panel.{Panel}
use Rattle.uart.proofs.Kept.{offer-kept}
use Rattle.uart.proofs.Queue.{memory-length}
use Rattle.uart.specs.Uart.{queue_bytes, offer_of, queued}
use Rattle.uart.specs.declared.Uart.{Uart}
use Rattle.step.specs.Apply.{acted_on, apply_of, apply_in, board_of}
use Rattle.step.specs.Stages.{now_of, hz_of}

-- what holds of both holds of either
by_cond : {A : Type 0} (P : A → Type 0) (t : Bool) (x y : A) → P x → P y → P (cond t x y)
by_cond P true x y h k = h
by_cond P false x y h k = k

-- ---- keys

abbrev Held : Pressed → Type 0
Held p = KeysOk p.keys × Sized p.ramps

press-held : (k : Keys) (rs : Ramps) (id now hz : ℕ) → KeysOk k → Sized rs → Held (press_of k rs id now hz)
unfolding press_of turned_ramps
press-held k rs id now hz w s =
    by_cond Held (ltb id 41 && not (is_down k.down id)) _ _ (record { low = w.low; high = w.high }, with-sized rs s id _) (w, s)

release-held : (k : Keys) (rs : Ramps) (id now hz : ℕ) → KeysOk k → Sized rs → Held (release_of k rs id now hz)
unfolding release_of turned_ramps
release-held k rs id now hz w s =
    by_cond Held (is_down k.down id) _ _ (record { low = w.low; high = w.high }, with-sized rs s id _) (w, s)

pressure-sized : (k : Keys) (rs : Ramps) (id vel now hz : ℕ) → Sized rs → Sized (pressure_of k rs id vel now hz)
unfolding pressure_of turned_ramps
pressure-sized k rs id vel now hz s = by_cond Sized (leb 14 id && is_down k.down id) _ _ (with-sized rs s id _) s

-- ---- encoders

turned-kept : (es : List Enc) (enc clicks now : ℕ) → now ≤ clock_max → ((i : ℕ) → i < 8 → EncOk (enc_of es i))
    → (i : ℕ) → i < 8 → EncOk (enc_of (encs_turned es enc clicks now) i)
unfolding encs_turned
turned-kept es enc clicks now c w i h = go (lt-or-ge i 7)
  where
    one : (t : Bool) (e : Enc) → EncOk e → EncOk (turned_if t e clicks now)
    one t e k = by_cond EncOk t (enc_turned e clicks now) e (enc-turned-kept e clicks now c k) k

    go : (i < 7) ⊎ (7 ≤ i) → EncOk (enc_of (encs_turned es enc clicks now) i)
    go (inl l) = rw (encs-turned es enc clicks now i l) (one (eqb enc i) (enc_of es i) (w i h))
    go (inr l) = let e : i ≡ 7 = omega arith in rw e (w 7 (omega arith))

turned-length : (es : List Enc) (enc clicks now : ℕ) → length (encs_turned es enc clicks now) ≡ 8
unfolding encs_turned
turned-length es enc clicks now = refl

-- ---- the board

module _ (c : Chip) (p : Panel) (w : Sound (board_of c p)) where
  rate : hz_of c < 2 ^ 32
  rate = let h = w.chip.clock.high in omega arith

  short : hz_of c / 50 ≤ ramp_most
  short = let h = w.chip.clock.high in omega arith

  pub acted-kept : (a : Action) → Sound (acted_on c p a)
  unfolding acted_on
  acted-kept (Key id true) =
      let h = press-held c.keys p.ramps id (now_of c) (hz_of c) w.chip.keys w.sized in
      record { chip = put-keys c w.chip _ h.0; ramps = press-kept p.ramps w.sized (now_of c) (now_of c) (hz_of c) (le_refl _) short w.ramps c.keys id; sized = h.1; light = w.light }
  acted-kept (Key id false) =
      let h = release-held c.keys p.ramps id (now_of c) (hz_of c) w.chip.keys w.sized in
      record { chip = put-keys c w.chip _ h.0; ramps = release-kept p.ramps w.sized (now_of c) (now_of c) (hz_of c) (le_refl _) short w.ramps c.keys id; sized = h.1; light = w.light }
  acted-kept (EncAction enc clicks) =
      record {
        chip = put-enc c w.chip _ (turned-kept c.enc enc clicks (now_of c) w.chip.clock.cycles w.chip.enc) (turned-length c.enc enc clicks (now_of c));
        ramps = w.ramps;
        sized = w.sized;
        light = w.light;
      }
  acted-kept (Adc ch value) = record { chip = w.chip; ramps = w.ramps; sized = w.sized; light = w.light }
  acted-kept (Midi b) =
      record { chip = put-uart c w.chip _ (offer-kept c.uart (now_of c) (hz_of c) w.chip.uart w.chip.clock.cycles rate); ramps = w.ramps; sized = w.sized; light = w.light }
  acted-kept (KeyVel vel) = record { chip = put-keys c w.chip _ (vel-kept c.keys vel); ramps = w.ramps; sized = w.sized; light = w.light }
  acted-kept (Pressure id vel) =
      record {
        chip = w.chip;
        ramps = pressure-kept p.ramps w.sized (now_of c) (now_of c) (hz_of c) (le_refl _) short w.ramps c.keys id vel;
        sized = pressure-sized c.keys p.ramps id vel (now_of c) (hz_of c) w.sized;
        light = w.light;
      }

pub apply-kept : (b : Board) (a : Action) → Sound b → Sound (apply_of b a)
unfolding apply_of
apply-kept b a w =
    acted-kept (due_now b.chip) b.panel (later b w (now_of b.chip) 0 b.chip.clock.skipped (le_refl _) w.chip.clock.cycles) a

-- ---- what it leaves alone, and what it counts

module _ (b : Board) where
  pub applied-due : (a : Action) → (apply_of b a).chip.clock.next_due ≡ 0
  unfolding apply_of acted_on
  applied-due (Key id down) = refl
  applied-due (EncAction enc clicks) = refl
  applied-due (Adc ch value) = refl
  applied-due (Midi x) = refl
  applied-due (KeyVel vel) = refl
  applied-due (Pressure id vel) = refl

  pub applied-script : (a : Action) → (apply_of b a).chip.script ≡ b.chip.script
  unfolding apply_of acted_on
  applied-script (Key id down) = refl
  applied-script (EncAction enc clicks) = refl
  applied-script (Adc ch value) = refl
  applied-script (Midi x) = refl
  applied-script (KeyVel vel) = refl
  applied-script (Pressure id vel) = refl

  pub applied-now : (a : Action) → now_of (apply_of b a).chip ≡ now_of b.chip
  unfolding apply_of acted_on
  applied-now (Key id down) = refl
  applied-now (EncAction enc clicks) = refl
  applied-now (Adc ch value) = refl
  applied-now (Midi x) = refl
  applied-now (KeyVel vel) = refl
  applied-now (Pressure id vel) = refl

  offered : (u : Uart) (now hz : ℕ) → (offer_of u now hz).dropped ≤ u.dropped + 1
  unfolding offer_of queued
  offered u now hz = by_cond (λ (v : Uart). v.dropped ≤ u.dropped + 1) (leb queue_bytes u.count) _ _ (le_refl _) (omega arith)

  pub applied-dropped : (a : Action) → (apply_of b a).chip.uart.dropped ≤ b.chip.uart.dropped + 1
  unfolding apply_of acted_on
  applied-dropped (Key id down) = omega arith
  applied-dropped (EncAction enc clicks) = omega arith
  applied-dropped (Adc ch value) = omega arith
  applied-dropped (Midi x) = offered b.chip.uart (now_of b.chip) (hz_of b.chip)
  applied-dropped (KeyVel vel) = omega arith
  applied-dropped (Pressure id vel) = omega arith

  pub applied-length : (a : Action) (queue : List ℕ) → length (apply_in b a queue) ≡ length queue
  unfolding apply_in
  applied-length (Key id down) queue = refl
  applied-length (EncAction enc clicks) queue = refl
  applied-length (Adc ch value) queue = refl
  applied-length (Midi x) queue = memory-length b.chip.uart queue x
  applied-length (KeyVel vel) queue = refl
  applied-length (Pressure id vel) queue = refl
