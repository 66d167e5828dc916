-- What a step or a push that is not refused may count on.
use Prim.Native.Nat.{ℕ, ◌+◌, ◌-◌, ◌^◌, ◌≤◌, ◌<◌}
use mathlib.Core.Bool.{Bool, true, false, cond, not}
use mathlib.Core.Path.{◌≡◌, refl}
use native.Mathlib.Omega.{arith}
use borrow.Author.Tests.{eqb-true, ltb-false, leb-false, lt-ltb, le-ltb}
use lib.Dec.{eqb, leb, ltb}
use Rattle.base.proofs.Flags.{both}
use Rattle.base.specs.Moments.{clock_max}
use Rattle.base.specs.Refusals.{SIZE, STATE}
use Rattle.script.specs.Entries.{agrees_of}
use Rattle.script.specs.Script.{entries, full_of}
use Rattle.script.specs.declared.Front.{Front}
use Rattle.state.specs.State.{board_whole}
use Rattle.state.specs.declared.Board.{Board}
use Rattle.uart.specs.Uart.{queue_bytes}
use Rattle.step.specs.Stages.{now_of}
use Rattle.step.specs.Step.{out_bytes, waits, is_state, wrong_size, past_limit, step_refusal, push_refusal}

-- the step would end past the clock's end, or not: the sum does not wrap
pub too-late : (now cycles : ℕ) → clock_max - now < cycles → ltb clock_max (now + cycles) ≡ true
too-late now cycles h = lt-ltb clock_max (now + cycles) (omega arith)

pub in-time : (now cycles : ℕ) → now ≤ clock_max → cycles ≤ clock_max - now → ltb clock_max (now + cycles) ≡ false
in-time now cycles c h = le-ltb clock_max (now + cycles) (omega arith)

-- the three tests of size as one
one_size : (q n o : Bool) (rest : ℕ) → ◌≡◌ {A = ℕ} (cond q 2 (cond n 2 (cond o 2 rest))) (cond (cond q true (cond n true o)) 2 rest)
one_size true n o rest = refl
one_size false true o rest = refl
one_size false false o rest = refl

pub in_parts : (b : Board) (cycles : ℕ) (front : Front) (queue out : ℕ) → step_refusal b cycles front queue out
    ≡ cond (wrong_size front queue out) SIZE (cond (not (is_state b front)) STATE (past_limit b.chip.uart.dropped (now_of b.chip) cycles))
unfolding step_refusal
in_parts b cycles front queue out = one_size (not (eqb queue queue_bytes)) (not (eqb front.len entries)) (ltb out out_bytes) _

pub state-whole : (b : Board) (front : Front) → is_state b front ≡ true → board_whole b ≡ true
state-whole b front h = (both (board_whole b) (agrees_of b.chip.script front) h).0

pub record Accepted (b : Board) (cycles : ℕ) (front : Front) (queue out : ℕ) : Type 0 where
  pub lent : queue ≡ queue_bytes
  pub script : front.len ≡ entries
  pub room : out_bytes ≤ out
  pub whole : board_whole b ≡ true
  pub agrees : agrees_of b.chip.script front ≡ true
  pub count : b.chip.uart.dropped < 2 ^ 62
  pub time : now_of b.chip + cycles ≤ clock_max

chosen : (q n o s d t : Bool) → ◌≡◌ {A = ℕ} (cond (not q) 2 (cond (not n) 2 (cond o 2 (cond (not s) 3 (cond d 6 (cond t 7 0)))))) 0
    → (q ≡ true) × (n ≡ true) × (o ≡ false) × (s ≡ true) × (d ≡ false) × (t ≡ false)
chosen true true false true false false e = (refl, refl, refl, refl, refl, refl)
chosen false n o s d t e = absurd (omega arith)
chosen true false o s d t e = absurd (omega arith)
chosen true true true s d t e = absurd (omega arith)
chosen true true false false d t e = absurd (omega arith)
chosen true true false true true t e = absurd (omega arith)
chosen true true false true false true e = absurd (omega arith)

pub accepted : (b : Board) (cycles : ℕ) (front : Front) (queue out : ℕ) → step_refusal b cycles front queue out ≡ 0 → Accepted b cycles front queue out
unfolding step_refusal
accepted b cycles front queue out e =
    let h = chosen (eqb queue queue_bytes) (eqb front.len entries) (ltb out out_bytes) (is_state b front) (leb (2 ^ 62) b.chip.uart.dropped) (ltb clock_max (now_of b.chip + cycles)) e in
    let s = both (board_whole b) (agrees_of b.chip.script front) h.3 in
    record {
      lent = eqb-true queue queue_bytes h.0;
      script = eqb-true front.len entries h.1;
      room = ltb-false out out_bytes h.2;
      whole = s.0;
      agrees = s.1;
      count = leb-false (2 ^ 62) b.chip.uart.dropped h.4;
      time = ltb-false clock_max (now_of b.chip + cycles) h.5;
    }

pub record Pushable (b : Board) (front : Front) : Type 0 where
  pub script : front.len ≡ entries
  pub whole : board_whole b ≡ true
  pub agrees : agrees_of b.chip.script front ≡ true
  pub room : waits b < entries

picked : (n s f : Bool) → ◌≡◌ {A = ℕ} (cond (not n) 2 (cond (not s) 3 (cond f 5 0))) 0 → (n ≡ true) × (s ≡ true) × (f ≡ false)
picked true true false e = (refl, refl, refl)
picked false s f e = absurd (omega arith)
picked true false f e = absurd (omega arith)
picked true true true e = absurd (omega arith)

pub pushable : (b : Board) (front : Front) → push_refusal b front ≡ 0 → Pushable b front
unfolding push_refusal
pushable b front e =
    let h = picked (eqb front.len entries) (is_state b front) (full_of b.chip.script) e in
    let s = both (board_whole b) (agrees_of b.chip.script front) h.1 in
    record {
      script = eqb-true front.len entries h.0;
      whole = s.0;
      agrees = s.1;
      room = leb-false entries (waits b) h.2;
    }
