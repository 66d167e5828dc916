-- What a holder's loop counts on: a step that goes on can be turned, a turn leaves one entry fewer, a spot lies in the script.
use Prim.Native.Nat.{ℕ, ◌+◌, ◌-◌, ◌≤◌, ◌<◌}
use mathlib.Core.Bool.{Bool, true, false, cond, false≢true}
use mathlib.Core.List.{List}
use mathlib.Core.Path.{◌≡◌, refl, ap}
use native.Mathlib.Nat.{le_refl}
use native.Mathlib.Omega.{arith}
use borrow.Author.Tests.{eqb-true, le-leb, ltb-true}
use lib.Dec.{eqb, leb, ltb}
use lib.ListN.{length}
use Rattle.base.proofs.Ring.{in-ring}
use Rattle.base.specs.Moments.{clock_max}
use Rattle.records.proofs.Written.{timed-length}
use Rattle.records.specs.Layout.{length_of, kind_of}
use Rattle.records.specs.declared.Action.{Action}
use Rattle.records.specs.declared.Action.TheVariants.{Key, Enc, Adc, Midi, KeyVel, Pressure}
use Rattle.script.proofs.Kept.{looked-kept, taken-kept}
use Rattle.script.specs.Script.{entries, spot_of, looked_of, taken_of}
use Rattle.script.specs.declared.Entry.{Entry}
use Rattle.script.specs.declared.Front.{Front}
use Rattle.state.proofs.Facts.{whole-facts}
use Rattle.state.proofs.Kept.{put-chip, put-script, later as sound-later}
use Rattle.state.specs.Whole.{Sound, Typed}
use Rattle.state.specs.With.{moved_to, with_chip, with_script}
use Rattle.state.specs.declared.Board.{Board}
use Rattle.uart.proofs.Outcomes.{receive-outcome, timeout-outcome}
use Rattle.uart.specs.Uart.{receive_at, timeout_at, stored, updated, front_gone, timed_out}
use Rattle.uart.specs.declared.Received.{Received}
use Rattle.uart.specs.declared.Uart.{Uart}
use Rattle.step.specs.Stages.{now_of, served_of, first_stages, last_stages}
use Rattle.step.specs.Step.{waits, waiting, front_place, step_refusal, stopped_of, going_of, moved_by, started_of, begun_of, Ready, later, noted_of, shorter, record_of, taken_by, turned_of, push_refusal, more_pushed, placed_of}
use Rattle.step.specs.declared.Going.{Going}
use Rattle.step.specs.declared.Spot.{Spot}
use Rattle.step.proofs.Applied.{apply-kept, applied-script, applied-dropped}
use Rattle.step.proofs.Refusals.{Accepted, accepted, pushable}
use Rattle.step.proofs.Serving.{served-kept}

-- ---- a record's length

kind-most : (a : Action) → length_of (kind_of a) ≤ 17
unfolding length_of
kind-most (Key id down) = omega arith
kind-most (Enc enc clicks) = omega arith
kind-most (Adc ch value) = omega arith
kind-most (Midi b) = omega arith
kind-most (KeyVel vel) = omega arith
kind-most (Pressure id vel) = omega arith

pub record-most : (e : Entry) → length (record_of e) ≤ 17
record-most e = rw (timed-length e.at e.action) (kind-most e.action)

pub room_for : (g : Going) (e : Entry) (queue out : ℕ) → Ready g queue out → g.written + length (record_of e) ≤ out
room_for g e queue out r = omega (arith, r.room, r.some, record-most e)

pub has_room : (g : Going) (e : Entry) (queue out : ℕ) → Ready g queue out → leb (g.written + length (record_of e)) out ≡ true
has_room g e queue out r = le-leb (g.written + length (record_of e)) out (room_for g e queue out r)

-- ---- what is known of the board

pub moved-kept : (b : Board) (cycles : ℕ) → Sound b → now_of b.chip + cycles ≤ clock_max → Sound (moved_by b cycles)
moved-kept b cycles w h =
    sound-later b w (now_of b.chip + cycles) b.chip.clock.next_due b.chip.clock.skipped (omega arith) h

pub serving-kept : (b : Board) (queue : List ℕ) → Sound b → Sound (with_chip b (served_of b.chip queue).chip)
unfolding served_of first_stages last_stages
serving-kept b queue w = put-chip b w (served_of b.chip queue).chip (served-kept b.chip queue w.chip) refl refl refl

module _ (g : Going) (w : Sound g.board) where
  pub shorter-kept : Sound (shorter g)
  shorter-kept =
      put-chip g.board w (with_script g.board.chip (taken_of g.board.chip.script))
      (put-script g.board.chip w.chip (taken_of g.board.chip.script) (taken-kept g.board.chip.script w.chip.script)) refl refl refl

  pub noted-kept : (e : Entry) → Sound (noted_of g e).board
  noted-kept e =
      put-chip g.board w (with_script g.board.chip (looked_of g.board.chip.script e.at))
      (put-script g.board.chip w.chip (looked_of g.board.chip.script e.at) (looked-kept g.board.chip.script w.chip.script e.at)) refl refl refl

  pub took-kept : (e : Entry) → Sound (taken_by g e).board
  took-kept e = apply-kept (shorter g) e.action shorter-kept

-- ---- bytes lost: at most one in the stages

receive-lost : (u : Uart) (memory : List ℕ) (now hz : ℕ) → (receive_at u memory now hz).uart.dropped ≤ u.dropped + 1
unfolding stored updated front_gone
receive-lost u memory now hz =
    receive-outcome u memory now hz (λ (r : Received). r.uart.dropped ≤ u.dropped + 1)
    (λ h. omega arith) (λ h e. omega arith) (λ h k r. omega arith) (λ h k r. le_refl _)

timeout-lost : (u : Uart) (now : ℕ) → (timeout_at u now).dropped ≤ u.dropped
unfolding timed_out updated
timeout-lost u now = timeout-outcome u now (λ (v : Uart). v.dropped ≤ u.dropped) (λ h. le_refl _) (λ h. le_refl _) (λ h. le_refl _)

pub served-lost : (b : Board) (queue : List ℕ) → (served_of b.chip queue).chip.uart.dropped ≤ b.chip.uart.dropped + 1
unfolding served_of first_stages last_stages
served-lost b queue =
    omega (arith, receive-lost b.chip.uart queue (now_of b.chip) b.chip.clock.hz, timeout-lost (receive_at b.chip.uart queue (now_of b.chip) b.chip.clock.hz).uart (now_of b.chip))

-- ---- a step that is begun and goes on

pub record Begun (b : Board) (g : Going) (script queue out : ℕ) : Type 0 where
  pub size : script ≡ entries
  pub ready : Ready g queue out
  pub same : waiting g ≡ waits b
  pub front : g.place ≡ front_place b

module _ (b : Board) (typed : Typed b) (cycles : ℕ) (front : Front) (queue out : List ℕ) where
  going-ready : Accepted b cycles front (length queue) (length out) → ltb 0 (waits b) ≡ true
      → Ready (going_of b (served_of (moved_to b.chip (now_of b.chip + cycles)) queue)) (length queue) (length out)
  unfolding served_of first_stages last_stages
  going-ready k on =
      let w = (whole-facts b typed k.whole).sound in
      let s = w.chip.script in
      record {
        sound = serving-kept (moved_by b cycles) queue (moved-kept b cycles w k.time);
        lent = k.lent;
        front = refl;
        place = s.place;
        some = ltb-true 0 (waits b) on;
        few = omega (arith, s.count);
        lost = omega (arith, s.count, k.count, served-lost (moved_by b cycles) queue);
        room = omega (arith, s.count, k.room);
      }

  started-goes : Accepted b cycles front (length queue) (length out) → (started_of b cycles queue).on ≡ true
      → Begun b (started_of b cycles queue) front.len (length queue) (length out)
  unfolding started_of served_of first_stages last_stages
  started-goes k = go (ltb (now_of b.chip + cycles) b.chip.clock.next_due)
    where
      go : (early : Bool) → (cond early (stopped_of (moved_by b cycles) 0) (going_of b (served_of (moved_to b.chip (now_of b.chip + cycles)) queue))).on ≡ true
          → Begun b (cond early (stopped_of (moved_by b cycles) 0) (going_of b (served_of (moved_to b.chip (now_of b.chip + cycles)) queue))) front.len (length queue) (length out)
      go true on = absurd (false≢true on)
      go false on = record { size = k.script; ready = going-ready k on; same = refl; front = refl }

  pub begun-goes : (begun_of b cycles front queue out).on ≡ true → Begun b (begun_of b cycles front queue out) front.len (length queue) (length out)
  unfolding begun_of
  begun-goes = go (eqb number 0) refl
    where
      number : ℕ
      number = step_refusal b cycles front (length queue) (length out)

      go : (t : Bool) → eqb number 0 ≡ t → (cond t (started_of b cycles queue) (stopped_of b number)).on ≡ true
          → Begun b (cond t (started_of b cycles queue) (stopped_of b number)) front.len (length queue) (length out)
      go true e on = started-goes (accepted b cycles front (length queue) (length out) (eqb-true number 0 e)) on
      go false e on = absurd (false≢true on)

-- ---- a turn that goes on

pub record Turned (g r : Going) (queue out : ℕ) : Type 0 where
  pub ready : Ready r queue out
  pub fewer : waiting r + 1 ≡ waiting g

module _ (g : Going) (e : Entry) (queue out : ℕ) (r : Ready g queue out) where
  taken-waits : waiting (taken_by g e) ≡ waiting g - 1
  taken-waits = ap (λ s. s.count) (applied-script (shorter g) e.action)

  taken-goes : ltb 0 (waiting g - 1) ≡ true → Turned g (taken_by g e) queue out
  taken-goes on =
      let n = taken-waits in
      let d = applied-dropped (shorter g) e.action in
      record {
        ready = record {
          sound = took-kept g r.sound e;
          lent = r.lent;
          front = rw (applied-script (shorter g) e.action);
          place = in-ring entries g.board.chip.script.place 1 (omega arith);
          some = omega (arith, ltb-true 0 (waiting g - 1) on);
          few = omega (arith, r.few, r.some);
          lost = omega (arith, r.lost, r.some);
          room = omega (arith, r.room, r.some, record-most e);
        };
        fewer = omega (arith, r.some);
      }

  pub turned-goes : (turned_of g e).on ≡ true → Turned g (turned_of g e) queue out
  unfolding turned_of
  turned-goes = go (later g e)
    where
      go : (t : Bool) → (cond t (noted_of g e) (taken_by g e)).on ≡ true → Turned g (cond t (noted_of g e) (taken_by g e)) queue out
      go true on = absurd (false≢true on)
      go false on = taken-goes on

-- ---- a spot that is given

pub placed-within : (b : Board) (front : Front) (at : ℕ) → (placed_of b front at).ok ≡ true → (placed_of b front at).place < front.len
unfolding placed_of
placed-within b front at = go (eqb number 0) refl
  where
    number : ℕ
    number = push_refusal b front

    yes : Spot
    yes = record { board = more_pushed b at; place = spot_of b.chip.script; refused = 0; ok = true }

    no : Spot
    no = record { board = b; place = 0; refused = number; ok = false }

    go : (t : Bool) → eqb number 0 ≡ t → (cond t yes no).ok ≡ true → (cond t yes no).place < front.len
    go true e on = rw (pushable b front (eqb-true number 0 e)).script (in-ring entries (front_place b) (waits b) (omega arith))
    go false e on = absurd (false≢true on)
