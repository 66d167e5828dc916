-- How a record's arm ends: by what it called.
use mathlib.Core.Path.{◌≡◌, refl, sym, ap, ◌∙◌, subst}
use mathlib.Core.List.{List}
use Prim.Native.Nat.{ℕ, ◌<◌, ◌^◌}
use Rattle.board.specs.Calls.{write_first, write_second}
use Rattle.records.specs.declared.Action.{Action}
use Rattle.records.specs.declared.Order.TheVariants.{Read, Write, Step}
use Rattle.std.specs.Prelude.{Option, Some, None, Ok}
use Rattle.records.specs.Decoded.{RecordAt, record_at, broken_at}
use Rattle.records.specs.declared.Body.{Body}
use Rattle.records.specs.declared.Body.TheVariants.{Timed, Order as Ordered}
use Rattle.records.specs.declared.Record.{Record}
use Rattle.script.specs.Words.{word_of}
use Rattle.state.specs.Whole.{Typed}
use Rattle.state.specs.declared.Board.{Board}
use Rattle.board_words.specs.Words.{spot_in, stored_words}
use Rattle.driver_carry.specs.Carry.{Bench, bench_of, BenchOk, pushed, read_by, wrote_by, step_in, stepped, answer_of, after, said, carried_out}
use Rattle.driver_carry.specs.declared.Answer.TheVariants.{Broken, Nothing}
use Rattle.driver_carry.specs.declared.Carried.{Carried}
use Rattle.driver_carry.proofs.Kept.{push_ok, read_ok, write-ok, step_ok}

-- what was found, by the record and what it holds
pub found_at : (found : RecordAt) (o : Option Record) (r : Record) (body : Body) → found ≡ Ok o → o ≡ Some r → r.body ≡ body → found ≡ record_at body r.next
found_at found o r body e some is = e ∙ ap (λ (x : Option Record). Ok x) some ∙ ap (λ (b : Body). record_at b r.next) is

module _ (h : Bench) where
  abbrev b : Board
  b = h.board

  -- the answer, all that is held, and what is known of it; named as `carry`'s clauses are
  abbrev Ends : RecordAt → Carried → Bench → Type 0
  Ends found r h' = record { answer_value : r.answer ≡ answer_of h found; bench : h' ≡ after h found; kept : BenchOk h → BenchOk h' }

  ends : (found : RecordAt) (r : Carried) (h' : Bench) → r.answer ≡ answer_of h found → h' ≡ after h found → (BenchOk h → BenchOk (after h found)) → Ends found r h'
  ends found r h' a e k = record { answer_value = a; bench = e; kept = λ ok. subst BenchOk (sym e) (k ok) }

  pub push-ends : Typed b → (time next : ℕ) (action : Action) (r : Carried) (s : List ℕ)
      → (r ≡ pushed b h.script time) × (s ≡ stored_words (spot_in b h.script time) h.script time (word_of action))
      → Ends (record_at (Timed time action) next) r (bench_of r.board h.queue s h.first h.second h.acts)
  unfolding said carried_out
  push-ends t time next action r s e =
      ends (record_at (Timed time action) next) r _ (ap (λ (x : Carried). x.answer) e.0)
      (λ i. bench_of (e.0 i).board h.queue (e.1 i) h.first h.second h.acts)
      (λ ok. push_ok h ok t time action)

  pub read-ends : (addr next : ℕ) (r : Carried) → r ≡ read_by b addr h.first h.second
      → Ends (record_at (Ordered (Read addr)) next) r (bench_of r.board h.queue h.script h.first h.second h.acts)
  unfolding said carried_out
  read-ends addr next r e =
      ends (record_at (Ordered (Read addr)) next) r _ (ap (λ (x : Carried). x.answer) e)
      (λ i. bench_of (e i).board h.queue h.script h.first h.second h.acts)
      (λ ok. read_ok h ok addr)

  pub write-ends : (addr v next : ℕ) (r : Carried) (i j : List ℕ)
      → (r ≡ wrote_by b addr v h.first h.second) × (i ≡ write_first b addr v h.first h.second) × (j ≡ write_second b addr v h.first h.second) × (v < 2 ^ 32)
      → Ends (record_at (Ordered (Write addr v)) next) r (bench_of r.board h.queue h.script i j h.acts)
  unfolding said carried_out
  write-ends addr v next r i j e =
      ends (record_at (Ordered (Write addr v)) next) r _ (ap (λ (x : Carried). x.answer) e.0)
      (λ k. bench_of (e.0 k).board h.queue h.script (e.1 k) (e.2 k) h.acts)
      (λ ok. write-ok h ok addr v e.3)

  pub step-ends : (cycles next : ℕ) (r : Carried) (q o : List ℕ)
      → (r ≡ stepped b cycles h.queue h.script h.acts) × (q ≡ (step_in b cycles h.queue h.script h.acts).1.0) × (o ≡ (step_in b cycles h.queue h.script h.acts).1.1)
      → Ends (record_at (Ordered (Step cycles)) next) r (bench_of r.board q h.script h.first h.second o)
  unfolding said carried_out
  step-ends cycles next r q o e =
      ends (record_at (Ordered (Step cycles)) next) r _ (ap (λ (x : Carried). x.answer) e.0)
      (λ i. bench_of (e.0 i).board (e.1 i) h.script h.first h.second (e.2 i))
      (λ ok. step_ok h ok cycles)

  pub broken-ends : (at : ℕ) → Ends (broken_at at) (record { board = b; answer = Broken at }) h
  broken-ends at = record { answer_value = refl; bench = refl; kept = λ ok. ok }

  pub end-ends : Ends (Ok None) (record { board = b; answer = Nothing }) h
  end-ends = record { answer_value = refl; bench = refl; kept = λ ok. ok }
