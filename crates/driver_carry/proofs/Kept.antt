-- What a driver knows of its board and memory stays so, whatever the record.
use mathlib.Core.Path.{◌≡◌, refl, ◌∙◌}
use mathlib.Core.Bool.{Bool, true, false}
use mathlib.Core.List.{List}
use Prim.Native.Nat.{ℕ, zero, suc, ◌-◌, ◌/◌, ◌<◌, ◌^◌}
use lib.Dec.{eqb, leb}
use lib.ListN.{length, length-set}
use borrow.Author.Tests.{leb-false}
use Rattle.base.proofs.Cases.{either}
use Rattle.board.proofs.Kept.{read-call-kept, write-call-kept}
use Rattle.board.specs.Calls.{read_call, read_chip, read_refused, write_call, write_first, write_second}
use Rattle.board_guard.specs.Refusals.{banks_refused}
use Rattle.board.specs.declared.Reading.{Reading}
use Rattle.board.specs.declared.Written.{Written}
use Rattle.records.specs.declared.Action.{Action}
use Rattle.records.specs.declared.Order.TheVariants.{Read, Write, Step}
use Rattle.records.specs.declared.Body.TheVariants.{Timed, Order as Ordered}
use Rattle.regs.specs.Reads.{polls_at}
use Rattle.regs.specs.Writes.{first_written, second_written}
use Rattle.script.specs.Script.{full_of, entries}
use Rattle.script.specs.Words.{word_of, words_at, places_in}
use Rattle.script.specs.declared.Entry.{Entry}
use Rattle.state.specs.Whole.{Typed}
use Rattle.state.specs.declared.Board.{Board}
use Rattle.state.specs.declared.Chip.{Chip}
use Rattle.step.proofs.Loop.{queue-length, out-length}
use Rattle.step.proofs.WholeKept.{push_kept, step_kept}
use Rattle.step.specs.Step.{front_place, waits, begun_of, Ran, turn_of, runs, ran}
use Rattle.board_words.specs.Words.{shown_in, spot_in, stored_words}
use Rattle.driver_carry.specs.Carry.{Bench, Agrees, BenchOk, pushed, carried_out}
use Rattle.driver_carry.proofs.Agreed.{step-agreed, polled-script, written-script, push-agreed}
use Rattle.driver_carry.proofs.Calls.{spot-full, spot-room}

-- a written bank is as long as it was
pub first-length : (bank : List ℕ) (addr v : ℕ) → length (first_written bank addr v) ≡ length bank
unfolding first_written
first-length bank addr v =
    either (λ (l : List ℕ). length l ≡ length bank) (leb 0x1eef100 addr) _ _
    (either (λ (l : List ℕ). length l ≡ length bank) (leb addr 0x1eef17f) _ _ (length-set bank ((addr - 0x1eef100) / 4) v) refl)
    refl

pub second-length : (bank : List ℕ) (addr v : ℕ) → length (second_written bank addr v) ≡ length bank
unfolding second_written
second-length bank addr v =
    either (λ (l : List ℕ). length l ≡ length bank) (leb 0x1eef300 addr) _ _
    (either (λ (l : List ℕ). length l ≡ length bank) (leb addr 0x1eef37f) _ _ (length-set bank ((addr - 0x1eef300) / 4) v) refl)
    refl

-- a step leaves the lengths of both memories
module _ (look : ℕ → Entry) where
  abbrev Long : Ran → Ran → Type 0
  Long z y = (length y.1.0 ≡ length z.1.0) × (length y.1.1 ≡ length z.1.1)

  runs-long : (k : ℕ) (z : Ran) → Long z (runs k look z)
  unfolding runs
  runs-long zero z = (refl, refl)
  runs-long (suc k) z =
      let e = z.0 in
      let r = runs-long k (turn_of look z) in
      either (Long z) e.on (runs k look (turn_of look z)) z
      (r.0 ∙ queue-length e (look e.place) z.1.0, r.1 ∙ out-length e (look e.place) z.1.1)
      (refl, refl)

-- the same ring, the same words
same-agrees : (b c : Board) (ws : List ℕ) → c.chip.script ≡ b.chip.script → Agrees b ws → Agrees c ws
same-agrees b c ws e a = record { long = a.long; front = rw e a.front }

module _ (h : Bench) (ok : BenchOk h) where
  abbrev b : Board
  b = h.board

  pub push_ok : Typed b → (time : ℕ) (action : Action) → BenchOk (carried_out h (Timed time action))
  unfolding carried_out
  push_ok t time action =
      record {
        whole = push_kept b (shown_in h.script (front_place b)) time ok.whole;
        queue = ok.queue;
        script = go (full_of b.chip.script) refl;
        first = ok.first;
        second = ok.second;
        acts = ok.acts;
      }
    where
      go : (f : Bool) → full_of b.chip.script ≡ f → Agrees (pushed b h.script time).board (stored_words (spot_in b h.script time) h.script time (word_of action))
      go true f = rw (spot-full b t h.script ok.whole ok.script time f) ok.script
      go false f = rw (spot-room b t h.script ok.whole ok.script time f) (push-agreed b h.script ok.whole ok.script (leb-false entries (waits b) f) time (word_of action))

  read-script : (addr : ℕ) → (read_call b addr h.first h.second).board.chip.script ≡ b.chip.script
  unfolding read_call read_chip
  read-script addr =
      either (λ (r : Reading). r.board.chip.script ≡ b.chip.script) (eqb (read_refused b addr (length h.first) (length h.second)) 0) _ _
      (either (λ (c : Chip). c.script ≡ b.chip.script) (polls_at b.chip addr) _ _ (polled-script b.chip) refl)
      refl

  pub read_ok : (addr : ℕ) → BenchOk (carried_out h (Ordered (Read addr)))
  unfolding carried_out
  read_ok addr =
      record {
        whole = read-call-kept b ok.whole addr h.first h.second;
        queue = ok.queue;
        script = same-agrees b _ h.script (read-script addr) ok.script;
        first = ok.first;
        second = ok.second;
        acts = ok.acts;
      }

  pub write-ok : (addr v : ℕ) → v < 2 ^ 32 → BenchOk (carried_out h (Ordered (Write addr v)))
  unfolding carried_out write_call write_first write_second
  write-ok addr v r =
      let x = eqb (banks_refused b (length h.first) (length h.second)) 0 in
      record {
        whole = write-call-kept b ok.whole addr v (length h.first) (length h.second) r;
        queue = ok.queue;
        script = same-agrees b _ h.script (either (λ (y : Written). y.board.chip.script ≡ b.chip.script) x _ _ (written-script b addr v) refl) ok.script;
        first = either (λ (l : List ℕ). length l ≡ length h.first) x _ _ (first-length h.first addr v) refl ∙ ok.first;
        second = either (λ (l : List ℕ). length l ≡ length h.second) x _ _ (second-length h.second addr v) refl ∙ ok.second;
        acts = ok.acts;
      }

  pub step_ok : (cycles : ℕ) → BenchOk (carried_out h (Ordered (Step cycles)))
  unfolding carried_out ran
  step_ok cycles =
      let look = words_at h.script in
      let n = places_in h.script in
      let r = runs-long look (waits b) (begun_of b cycles (shown_in h.script (front_place b)) h.queue h.acts, (h.queue, h.acts)) in
      record {
        whole = step_kept b cycles look n h.queue h.acts ok.whole;
        queue = r.0 ∙ ok.queue;
        script = record { long = ok.script.long; front = step-agreed look n b cycles h.queue h.acts ok.script.front };
        first = ok.first;
        second = ok.second;
        acts = r.1 ∙ ok.acts;
      }
