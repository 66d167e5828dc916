-- "8 stands alone": no public call gives it, so the driver's answer has the number 8 exactly where its record breaks the layout.
use mathlib.Core.Path.{◌≡◌, refl, sym, ◌∙◌, subst}
use mathlib.Core.Bool.{Bool, true, false, cond, not, ◌&&◌}
use mathlib.Core.List.{List}
use Prim.Native.Nat.{ℕ, ◌+◌, ◌<◌}
use native.Mathlib.Omega.{arith}
use borrow.Author.Tests.{ne_eqb}
use lib.Dec.{eqb, leb, ltb}
use lib.ListN.{length}
use Rattle.base.specs.Moments.{clock_max}
use Rattle.base.specs.Refusals.{SIZE, STATE, FULL, COUNT, TIME, RECORD, count_max}
use Rattle.board.specs.Calls.{read_refused, read_call}
use Rattle.board.specs.declared.Reading.{Reading}
use Rattle.board_guard.specs.Refusals.{size_of}
use Rattle.records.proofs.Eight.{record-number}
use Rattle.records.specs.Layout.{breaks_layout}
use Rattle.records.specs.Told.{told_body, told_record}
use Rattle.records.specs.declared.Order.TheVariants.{Read, Write, Step}
use Rattle.std.specs.Prelude.{Some, None, Ok, Err}
use Rattle.records.specs.Decoded.{RecordAt, record_of}
use Rattle.records.specs.declared.Body.{Body}
use Rattle.records.specs.declared.Body.TheVariants.{Timed, Order as Ordered}
use Rattle.regs.specs.Reads.{polls_at, polled_of}
use Rattle.script.specs.Script.{entries, full_of}
use Rattle.script.specs.Words.{words_at, places_in}
use Rattle.script.specs.declared.Front.{Front}
use Rattle.state.specs.State.{board_whole}
use Rattle.state.specs.declared.Board.{Board}
use Rattle.step.proofs.Outcomes.{step-number}
use Rattle.step.specs.Stages.{now_of}
use Rattle.step.specs.Step.{out_bytes, is_state, step_refusal, push_refusal, placed_of}
use Rattle.step.specs.declared.Spot.{Spot}
use Rattle.uart.specs.Uart.{queue_bytes}
use Rattle.driver_carry.specs.Carry.{Bench, answer_by, said, answer_of}
use Rattle.driver_carry.specs.Told.{told_answer}
use Rattle.driver_carry.specs.declared.Answer.{Answer}

abbrev Small : ℕ → Type 0
Small n = n < 8

small-0 : Small 0
small-0 = omega arith

small_size : Small SIZE
small_size = omega arith

small-state : Small STATE
small-state = omega arith

small-full : Small FULL
small-full = omega arith

small_count : Small COUNT
small_count = omega arith

small-time : Small TIME
small-time = omega arith

-- an answer with the number n, or 0 where that is 0
numbered : {A : Type 0} (number : A → ℕ) (n : ℕ) (x y : A) → number x ≡ 0 → number y ≡ n → Small n → Small (number (cond (eqb n 0) x y))
numbered {A} number n x y e f h = go (eqb n 0)
  where
    go : (t : Bool) → Small (number (cond t x y))
    go true = subst Small (sym e) small-0
    go false = subst Small (sym f) h

push-tests : (size state full : Bool) → Small (cond (not size) SIZE (cond (not state) STATE (cond full FULL 0)))
push-tests true true true = small-full
push-tests true true false = small-0
push-tests true false full = small-state
push-tests false state full = small_size

push-small : (b : Board) (front : Front) (time : ℕ) → Small (placed_of b front time).refused
unfolding placed_of push_refusal
push-small b front time =
    numbered (λ (p : Spot). p.refused) (push_refusal b front) _ _ refl refl (push-tests (eqb front.len entries) (is_state b front) (full_of b.chip.script))

read-tests : (size state polls late : Bool) → Small (cond (not size) SIZE (cond (not state) STATE (cond polls (cond late TIME 0) 0)))
read-tests true true true true = small-time
read-tests true true true false = small-0
read-tests true true false late = small-0
read-tests true false polls late = small-state
read-tests false state polls late = small_size

read_small : (b : Board) (addr : ℕ) (first second : List ℕ) → Small (read_call b addr first second).refused
unfolding read_call read_refused
read_small b addr first second =
    numbered (λ (r : Reading). r.refused) (read_refused b addr (length first) (length second)) _ _ refl refl
    (read-tests (eqb (size_of (length first) (length second)) 0) (board_whole b) (polls_at b.chip addr) (ltb clock_max (polled_of b.chip).clock.cycles))

step-tests : (queue script out state count late : Bool)
    → Small (cond (not queue) SIZE (cond (not script) SIZE (cond out SIZE (cond (not state) STATE (cond count COUNT (cond late TIME 0))))))
step-tests true true true state count late = small_size
step-tests true true false true true late = small_count
step-tests true true false true false true = small-time
step-tests true true false true false false = small-0
step-tests true true false false count late = small-state
step-tests true false out state count late = small_size
step-tests false script out state count late = small_size

step_small : (b : Board) (cycles : ℕ) (front : Front) (queue out : ℕ) → Small (step_refusal b cycles front queue out)
unfolding step_refusal
step_small b cycles front queue out =
    step-tests (eqb queue queue_bytes) (eqb front.len entries) (ltb out out_bytes) (is_state b front) (leb count_max b.chip.uart.dropped) (ltb clock_max (now_of b.chip + cycles))

not_eight : (n : ℕ) → Small n → eqb n RECORD ≡ false
not_eight n h = ne_eqb n RECORD (λ e. omega (arith, h, e))

by_number : (done : Answer) (n : ℕ) → (told_answer done).number ≡ 0 → Small n → eqb (told_answer (answer_by done n)).number RECORD ≡ false
unfolding told_answer
by_number done n e h = go (eqb n 0)
  where
    go : (t : Bool) → eqb (told_answer (cond t done (Answer.Refused n))).number RECORD ≡ false
    go true = rw e
    go false = not_eight n h

same_body : (h : Bench) (b : Body) (next : ℕ) → eqb (told_answer (said h b)).number RECORD ≡ eqb (told_body b next).number RECORD
unfolding told_answer said
same_body h (Timed time action) next = not_eight _ (push-small h.board _ time)
same_body h (Ordered (Read addr)) next = by_number _ _ refl (read_small h.board addr h.first h.second)
same_body h (Ordered (Write addr v)) next = refl
same_body h (Ordered (Step cycles)) next =
    by_number _ _ refl
    (subst Small (sym (step-number h.board cycles (words_at h.script) (places_in h.script) h.queue h.acts)) (step_small h.board cycles _ _ _))

same_number : (h : Bench) (r : RecordAt) → eqb (told_answer (answer_of h r)).number RECORD ≡ eqb (told_record r).number RECORD
unfolding told_answer told_record
same_number h (Ok (Some r)) = same_body h r.body r.next
same_number h (Ok None) = refl
same_number h (Err b) = refl

pub answer-number : (h : Bench) (s : List ℕ) (at : ℕ) → eqb (told_answer (answer_of h (record_of s at))).number RECORD ≡ (not (eqb (length s) 0) && breaks_layout s)
answer-number h s at = same_number h (record_of s at) ∙ record-number s at
