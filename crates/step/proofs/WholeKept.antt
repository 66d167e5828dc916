-- "Accepted calls keep a whole record whole": actions, the reset, the push and the step; a refused one has the board as it was.
use Prim.Native.Nat.{ℕ, zero, suc, ◌+◌, ◌≤◌, ◌<◌}
use mathlib.Core.Bool.{Bool, true, false, cond, false≢true}
use mathlib.Core.List.{List, [], ◌∷◌}
use mathlib.Core.Logic.{◌⊎◌, inl, inr}
use mathlib.Core.Path.{◌≡◌, refl, sym, ◌∙◌}
use native.Mathlib.Nat.{le_refl}
use native.Mathlib.Omega.{arith}
use borrow.Author.Tests.{eqb-true}
use lib.Dec.{eqb, ltb}
use lib.ListN.{length}
use Rattle.base.specs.Moments.{clock_max}
use Rattle.panel.proofs.Kept.{reset-kept as pins-reset, light-reset}
use Rattle.records.specs.declared.Action.{Action}
use Rattle.script.proofs.Kept.{pushed-kept}
use Rattle.script.specs.Entries.{shown}
use Rattle.script.specs.Script.{entries, spot_of, pushed_of as script_pushed}
use Rattle.script.specs.declared.Entry.{Entry}
use Rattle.script.specs.declared.Front.{Front}
use Rattle.state.proofs.Kept.{put-script, put-chip, later as sound-later}
use Rattle.state.specs.State.{next_event}
use Rattle.state.specs.Whole.{Sound, Whole}
use Rattle.state.specs.With.{moved_to, with_chip, with_script}
use Rattle.state.specs.declared.Board.{Board}
use Rattle.timers.specs.Facts.{TmrOk}
use Rattle.timers.specs.Timer.{tmr_new, tmr_of}
use Rattle.uart.proofs.Kept.{reset-kept as uart-reset}
use Rattle.step.specs.Apply.{apply_of}
use Rattle.step.specs.Reset.{kept, chip_reset_of}
use Rattle.step.specs.Stages.{now_of, served_of}
use Rattle.step.specs.Step.{waits, front_place, step_refusal, stopped_of, going_of, moved_by, started_of, begun_of, later, noted_of, taken_by, turned_of, settled, finished_of, Ran, turn_of, runs, ran, step_of, push_refusal, more_pushed, placed_of}
use Rattle.step.specs.declared.Going.{Going}
use Rattle.step.specs.declared.Spot.{Spot}
use Rattle.step.proofs.Applied.{apply-kept, applied-due}
use Rattle.step.proofs.Refusals.{accepted, pushable}
use Rattle.step.proofs.Turns.{moved-kept, serving-kept, noted-kept, took-kept}

-- ---- an action

pub apply-whole : (b : Board) (a : Action) → Sound b → Whole (apply_of b a)
apply-whole b a w = record { sound = apply-kept b a w; due = rw (applied-due b a) (omega arith) }

-- ---- the reset

new-tmr : (now i : ℕ) → i < 4 → TmrOk (tmr_of (tmr_new ∷ tmr_new ∷ tmr_new ∷ tmr_new ∷ []) i) now
new-tmr now zero h = record { start = omega arith; next = inr refl; prd = omega arith }
new-tmr now (suc zero) h = record { start = omega arith; next = inr refl; prd = omega arith }
new-tmr now (suc (suc zero)) h = record { start = omega arith; next = inr refl; prd = omega arith }
new-tmr now (suc (suc (suc zero))) h = record { start = omega arith; next = inr refl; prd = omega arith }
new-tmr now (suc (suc (suc (suc i)))) h = absurd (omega arith)

pub reset-whole : (b : Board) → Whole b → Whole (chip_reset_of b)
unfolding chip_reset_of kept
reset-whole b w =
    let s = w.sound in
    let k = s.chip in
    record {
      sound = record {
        chip = record {
          clock = record { low = k.clock.low; high = k.clock.high; cycles = k.clock.cycles };
          t4 = record { base = omega arith; read = omega arith };
          t5 = record { next = inr refl; prd = omega arith };
          tmr = new-tmr (now_of b.chip);
          tmrs = refl;
          tick = record { start = omega arith; next = inr refl };
          audio = record { next = inr refl; half = omega arith; len = omega arith };
          spi = record { done = inl (omega arith); irq = inr refl; spi2 = inr refl };
          uart = uart-reset b.chip.uart k.uart;
          host = record { usb = k.host.usb; wdt = inr refl; period = k.host.period };
          script = k.script;
          pins = pins-reset b.chip.pins (now_of b.chip) k.pins;
          enc = k.enc;
          encs = k.encs;
          keys = k.keys;
        };
        ramps = s.ramps;
        sized = s.sized;
        light = light-reset b.chip.pins b.panel.acc s.light;
      };
      due = omega arith;
    }

-- ---- a push

more-whole : (b : Board) (at : ℕ) → Whole b → waits b < entries → Whole (more_pushed b at)
more-whole b at w room =
    let more = script_pushed b.chip.script at in
    let s = put-chip b w.sound (with_script b.chip more) (put-script b.chip w.sound.chip more (pushed-kept b.chip.script w.sound.chip.script at room)) refl refl refl in
    record {
      sound = sound-later (with_chip b (with_script b.chip more)) s (now_of b.chip) 0 b.chip.clock.skipped (le_refl _) w.sound.chip.clock.cycles;
      due = omega arith;
    }

pub push_kept : (b : Board) (front : Front) (at : ℕ) → Whole b → Whole (placed_of b front at).board
unfolding placed_of
push_kept b front at w = go (eqb number 0) refl
  where
    number : ℕ
    number = push_refusal b front

    yes : Spot
    yes = record { board = more_pushed b at; place = spot_of b.chip.script; refused = 0; ok = true }

    no : Spot
    no = record { board = b; place = 0; refused = number; ok = false }

    go : (t : Bool) → eqb number 0 ≡ t → Whole (cond t yes no).board
    go true e = more-whole b at w (pushable b front (eqb-true number 0 e)).room
    go false e = w

-- ---- the step

-- served, and sound; or not, and whole with nothing more to do
abbrev Fine : Going → Type 0
Fine g = ((g.served ≡ true) × Sound g.board) ⊎ ((g.served ≡ false) × (g.on ≡ false) × Whole g.board)

pub moved-whole : (b : Board) (cycles : ℕ) → Whole b → now_of b.chip + cycles ≤ clock_max → Whole (moved_by b cycles)
unfolding next_event
moved-whole b cycles w h = record { sound = moved-kept b cycles w.sound h; due = w.due }

begun-fine : (b : Board) (cycles : ℕ) (front : Front) (queue out : List ℕ) → Whole b → Fine (begun_of b cycles front queue out)
unfolding begun_of started_of
begun-fine b cycles front queue out w = go (eqb number 0) (ltb (now_of b.chip + cycles) b.chip.clock.next_due) refl
  where
    number : ℕ
    number = step_refusal b cycles front (length queue) (length out)

    quiet : Going
    quiet = stopped_of (moved_by b cycles) 0

    going : Going
    going = going_of b (served_of (moved_to b.chip (now_of b.chip + cycles)) queue)

    go : (t early : Bool) → eqb number 0 ≡ t → Fine (cond t (cond early quiet going) (stopped_of b number))
    go false early e = inr (refl, refl, w)
    go true true e = inr (refl, refl, moved-whole b cycles w (accepted b cycles front (length queue) (length out) (eqb-true number 0 e)).time)
    go true false e =
        inl (refl, serving-kept (moved_by b cycles) queue (moved-kept b cycles w.sound (accepted b cycles front (length queue) (length out) (eqb-true number 0 e)).time))

turned-fine : (g : Going) (e : Entry) → g.served ≡ true → Sound g.board → Fine (turned_of g e)
unfolding turned_of
turned-fine g e s w = go (later g e)
  where
    go : (t : Bool) → Fine (cond t (noted_of g e) (taken_by g e))
    go true = inl (s, noted-kept g w e)
    go false = inl (s, took-kept g w e)

runs-fine : (k : ℕ) (look : ℕ → Entry) (z : Ran) → Fine z.0 → Fine (runs k look z).0
unfolding runs
runs-fine zero look z f = f
runs-fine (suc k) look z f = go z.0.on refl (runs-fine k look (turn_of look z))
  where
    next : Fine z.0 → z.0.on ≡ true → Fine (turned_of z.0 (look z.0.place))
    next (inl h) on = turned-fine z.0 (look z.0.place) h.0 h.1
    next (inr h) on = absurd (false≢true (sym h.1 ∙ on))

    go : (t : Bool) → z.0.on ≡ t → (Fine (turned_of z.0 (look z.0.place)) → Fine (runs k look (turn_of look z)).0)
        → Fine (cond t (runs k look (turn_of look z)) z).0
    go true on rest = rest (next f on)
    go false on rest = f

settled-whole : (b : Board) → Sound b → Whole (settled true b)
unfolding next_event
settled-whole b w =
    record {
      sound = sound-later b w (now_of b.chip) (next_event b.chip) b.chip.clock.skipped (le_refl _) w.chip.clock.cycles;
      due = le_refl _;
    }

finished-whole : (g : Going) → Fine g → Whole (finished_of g).board
unfolding finished_of
finished-whole g (inl f) = rw f.0 (settled-whole g.board f.1)
finished-whole g (inr f) = rw f.0 f.2

pub step_kept : (b : Board) (cycles : ℕ) (look : ℕ → Entry) (n : ℕ) (queue out : List ℕ) → Whole b → Whole (step_of b cycles look n queue out).board
unfolding ran
step_kept b cycles look n queue out w =
    finished-whole (ran b cycles look n queue out).0
    (runs-fine (waits b) look (begun_of b cycles (shown n (look (front_place b))) queue out, (queue, out)) (begun-fine b cycles (shown n (look (front_place b))) queue out w))
