-- What a whole board and its own memory leave of the public calls' tests.
use mathlib.Core.Path.{◌≡◌, refl}
use mathlib.Core.Bool.{Bool, true, false, cond}
use mathlib.Core.List.{List}
use Prim.Native.Nat.{ℕ, ◌+◌, ◌^◌, ◌≤◌, ◌<◌}
use native.Mathlib.Omega.{arith}
use borrow.Author.Tests.{leb-false, ltb-false}
use lib.Dec.{leb, ltb}
use Rattle.base.specs.Moments.{clock_max}
use Rattle.board_guard.specs.Refusals.{size_of, whole_refused, banks_refused}
use Rattle.board.specs.Calls.{read_refused}
use Rattle.irq.specs.Banks.{bank_words}
use Rattle.regs.specs.Reads.{polls_at, polled_of}
use Rattle.script.specs.Script.{full_of, spot_of}
use Rattle.state.proofs.Facts.{whole-test}
use Rattle.state.specs.Whole.{Typed, Whole}
use Rattle.state.specs.declared.Board.{Board}
use Rattle.step.specs.Stages.{now_of}
use Rattle.step.specs.Step.{front_place, out_bytes, step_refusal, push_refusal, placed_of, more_pushed, past_limit}
use Rattle.uart.specs.Uart.{queue_bytes}
use Rattle.board_words.specs.Words.{shown_in, spot_in}
use Rattle.driver_carry.specs.Carry.{Agrees}

pub push-number : (b : Board) → Typed b → (ws : List ℕ) → Whole b → Agrees b ws → push_refusal b (shown_in ws (front_place b)) ≡ cond (full_of b.chip.script) 5 0
unfolding push_refusal
push-number b t ws w a = rw (a.long, whole-test b t w, a.front)

pub step_left : (b : Board) → Typed b → (ws : List ℕ) (cycles : ℕ) (queue acts : ℕ) → Whole b → Agrees b ws → queue ≡ queue_bytes → acts ≡ out_bytes
    → step_refusal b cycles (shown_in ws (front_place b)) queue acts ≡ past_limit b.chip.uart.dropped (now_of b.chip) cycles
unfolding step_refusal
step_left b t ws cycles queue acts w a q o = rw (q, o, a.long, whole-test b t w, a.front)

module _ (b : Board) (t : Typed b) (w : Whole b) (first second : ℕ) (f : first ≡ bank_words) (s : second ≡ bank_words) where
  pub banks-left : banks_refused b first second ≡ 0
  unfolding banks_refused size_of whole_refused
  banks-left = rw (f, s, whole-test b t w)

  pub read_left : (addr : ℕ) → read_refused b addr first second
      ≡ cond (polls_at b.chip addr) (cond (ltb clock_max (polled_of b.chip).clock.cycles) 7 0) 0
  unfolding read_refused size_of
  read_left addr = rw (f, s, whole-test b t w)

-- a step that is not refused
pub granted : (dropped now cycles : ℕ) → past_limit dropped now cycles ≡ 0 → (dropped < 2 ^ 62) × (now + cycles ≤ clock_max)
granted dropped now cycles e = go (leb (2 ^ 62) dropped) (ltb clock_max (now + cycles)) refl refl e
  where
    go : (x y : Bool) → leb (2 ^ 62) dropped ≡ x → ltb clock_max (now + cycles) ≡ y → ◌≡◌ {A = ℕ} (cond x 6 (cond y 7 0)) 0 → (dropped < 2 ^ 62) × (now + cycles ≤ clock_max)
    go true y p q z = absurd (omega (arith, z))
    go false true p q z = absurd (omega (arith, z))
    go false false p q z = (leb-false (2 ^ 62) dropped p, ltb-false clock_max (now + cycles) q)

-- where a push puts its entry
module _ (b : Board) (t : Typed b) (ws : List ℕ) (w : Whole b) (a : Agrees b ws) (time : ℕ) where
  pub spot-full : full_of b.chip.script ≡ true → spot_in b ws time ≡ record { board = b; place = 0; refused = 5; ok = false }
  unfolding placed_of
  spot-full f = rw (push-number b t ws w a, f)

  pub spot-room : full_of b.chip.script ≡ false
      → spot_in b ws time ≡ record { board = more_pushed b time; place = spot_of b.chip.script; refused = 0; ok = true }
  unfolding placed_of
  spot-room f = rw (push-number b t ws w a, f)
