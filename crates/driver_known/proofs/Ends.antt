-- How a record's arm ends: by what it called. The chip and the panel after it are the board's.
use mathlib.Core.Path.{◌≡◌, sym, ◌∙◌, ap, subst}
use mathlib.Core.List.{List}
use Prim.Native.Nat.{ℕ, ◌<◌, ◌^◌}
use Rattle.driver_carry.proofs.Kept.{push_ok, read_ok, write-ok, step_ok}
use Rattle.driver_carry.specs.Carry.{Bench, bench_of, BenchOk, stepped, step_in, answer_of, after, said, carried_out}
use Rattle.driver_carry.specs.declared.Answer.{Answer}
use Rattle.driver_carry.specs.declared.Answer.TheVariants.{Wrote, Broken, Nothing}
use Rattle.driver_carry.specs.declared.Carried.{Carried}
use Rattle.records.specs.declared.Action.{Action}
use Rattle.records.specs.declared.Order.TheVariants.{Read, Write, Step}
use Rattle.std.specs.Prelude.{None, Ok}
use Rattle.records.specs.Decoded.{RecordAt, record_at, broken_at}
use Rattle.records.specs.declared.Body.TheVariants.{Timed, Order as Ordered}
use Rattle.regs.specs.Writes.{board_written, handled_at, first_written, second_written}
use Rattle.script.specs.Words.{word_of}
use Rattle.state.specs.With.{with_chip}
use Rattle.state.specs.declared.Board.{Board}
use Rattle.driver_ways.specs.Told.{told_by, push_out, push_words, read_out}
use Rattle.driver_ways.specs.declared.Outcome.{Outcome}
use Rattle.state.proofs.Facts.{whole_typed}
use Rattle.driver_ways.proofs.Right.{push-right, read_right, write-first, write-second, wrote}

module _ (h : Bench) (ok : BenchOk h) where
  abbrev b : Board
  b = h.board

  -- the answer, all that is held, and what is known of it
  abbrev Ends : RecordAt → Answer → Bench → Type 0
  Ends found a h' = (a ≡ answer_of h found) × (h' ≡ after h found) × BenchOk h'

  ends : (found : RecordAt) (a : Answer) (h' : Bench) → a ≡ answer_of h found → h' ≡ after h found → BenchOk (after h found) → Ends found a h'
  ends found a h' e p k = (e, p, subst BenchOk (sym p) k)

  pub push-ends : (time next : ℕ) (action : Action) (q : Outcome) (s : List ℕ)
      → (q ≡ push_out b.chip time) × (s ≡ push_words b.chip h.script time (word_of action))
      → Ends (record_at (Timed time action) next) q.answer (bench_of (with_chip b q.chip) h.queue s h.first h.second h.acts)
  unfolding said carried_out
  push-ends time next action q s e =
      let r = push-right b h.script ok.whole ok.script time (word_of action) in
      ends (record_at (Timed time action) next) q.answer _
      (ap (λ (x : Outcome). x.answer) e.0 ∙ r.1)
      (λ i. bench_of ((ap (λ (x : Outcome). with_chip b x.chip) e.0 ∙ r.0) i) h.queue ((e.1 ∙ r.2) i) h.first h.second h.acts)
      (push_ok h ok (whole_typed b ok.whole) time action)

  pub read-ends : (addr next : ℕ) (q : Outcome) → q ≡ read_out b.chip addr h.first h.second
      → Ends (record_at (Ordered (Read addr)) next) q.answer (bench_of (with_chip b q.chip) h.queue h.script h.first h.second h.acts)
  unfolding said carried_out
  read-ends addr next q e =
      let r = read_right b ok.whole h.first h.second ok.first ok.second addr in
      ends (record_at (Ordered (Read addr)) next) q.answer _
      (ap (λ (x : Outcome). x.answer) e ∙ r.1)
      (λ i. bench_of ((ap (λ (x : Outcome). with_chip b x.chip) e ∙ r.0) i) h.queue h.script h.first h.second h.acts)
      (read_ok h ok addr)

  pub write-ends : (addr v next : ℕ) (a : Answer) (b' : Board) (i j : List ℕ)
      → b' ≡ board_written b addr v → (a ≡ Wrote addr v (handled_at addr)) × (v < 2 ^ 32) → i ≡ first_written h.first addr v → j ≡ second_written h.second addr v
      → Ends (record_at (Ordered (Write addr v)) next) a (bench_of b' h.queue h.script i j h.acts)
  unfolding said carried_out
  write-ends addr v next a b' i j p e x y =
      let r = wrote b ok.whole h.first h.second ok.first ok.second addr v in
      ends (record_at (Ordered (Write addr v)) next) a _
      (e.0 ∙ sym (ap (λ (c : Carried). c.answer) r))
      (λ k. bench_of ((p ∙ sym (ap (λ (c : Carried). c.board) r)) k) h.queue h.script
      ((x ∙ sym (write-first b ok.whole h.first h.second ok.first ok.second addr v)) k)
      ((y ∙ sym (write-second b ok.whole h.first h.second ok.first ok.second addr v)) k)
      h.acts)
      (write-ok h ok addr v e.1)

  pub step-ends : (cycles next : ℕ) (a : Answer) (b' : Board) (q o : List ℕ)
      → (b' ≡ (stepped b cycles h.queue h.script h.acts).board) × (a ≡ (stepped b cycles h.queue h.script h.acts).answer)
      × (q ≡ (step_in b cycles h.queue h.script h.acts).1.0) × (o ≡ (step_in b cycles h.queue h.script h.acts).1.1)
      → Ends (record_at (Ordered (Step cycles)) next) a (bench_of b' q h.script h.first h.second o)
  unfolding said carried_out
  step-ends cycles next a b' q o e =
      ends (record_at (Ordered (Step cycles)) next) a _ e.1
      (λ i. bench_of (e.0 i) (e.2 i) h.script h.first h.second (e.3 i))
      (step_ok h ok cycles)

  pub broken-ends : (at : ℕ) (q : Outcome) → q ≡ told_by b.chip (Broken at) → Ends (broken_at at) q.answer (bench_of (with_chip b q.chip) h.queue h.script h.first h.second h.acts)
  broken-ends at q e =
      ends (broken_at at) q.answer _ (ap (λ (x : Outcome). x.answer) e) (ap (λ (x : Outcome). bench_of (with_chip b x.chip) h.queue h.script h.first h.second h.acts) e) ok

  pub end-ends : (q : Outcome) → q ≡ told_by b.chip Nothing → Ends (Ok None) q.answer (bench_of (with_chip b q.chip) h.queue h.script h.first h.second h.acts)
  end-ends q e =
      ends (Ok None) q.answer _ (ap (λ (x : Outcome). x.answer) e) (ap (λ (x : Outcome). bench_of (with_chip b x.chip) h.queue h.script h.first h.second h.acts) e) ok
