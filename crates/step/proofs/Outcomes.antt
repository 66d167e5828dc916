-- What a step comes to: refused, it changes nothing; before `next_due` it only moves the clock; else its output is the records of the entries it took, in order, with
-- the times that the script gave, and past them as it was.
use Prim.Native.Nat.{ℕ, zero, suc, ◌+◌, ◌%◌, ◌≤◌, ◌<◌}
use mathlib.Core.Bool.{Bool, true, false, cond}
use mathlib.Core.List.{List, ◌++◌}
use mathlib.Core.Path.{◌≡◌, refl, sym, ◌∙◌, ap, subst}
use native.Mathlib.Nat.{lt_of_lt_of_le}
use native.Mathlib.Omega.{arith}
use borrow.Author.Tests.{eqb-true, eq-eqb, ne_eqb, lt-ltb}
use lib.Dec.{eqb, ltb}
use lib.ListN.{length, drop, length-append}
use lib.Seq.{sets, sets-eq, drop_at}
use Rattle.base.specs.Moments.{clock_max}
use Rattle.records.proofs.Places.{sets-append}
use Rattle.records.proofs.Written.{written-length}
use Rattle.records.specs.Encoded.{written_of}
use Rattle.script.specs.Entries.{shown}
use Rattle.script.specs.Script.{entries, next_place}
use Rattle.script.specs.declared.Entry.{Entry}
use Rattle.script.specs.declared.Front.{Front}
use Rattle.state.specs.State.{next_event}
use Rattle.state.specs.Whole.{Typed, Whole}
use Rattle.state.specs.With.{moved_to}
use Rattle.state.specs.declared.Board.{Board}
use Rattle.step.specs.Apply.{apply_in}
use Rattle.step.specs.Stages.{now_of, served_of, nothing_due}
use Rattle.step.specs.Step.{Ready, front_place, waits, step_refusal, stopped_of, going_of, moved_by, started_of, begun_of, later, noted_of, shorter, record_of, records_of, taken_by, turned_of, queue_of, out_of, Ran, turn_of, runs, ran, settled, finished_of, step_of}
use Rattle.step.specs.declared.Going.{Going}
use Rattle.step.proofs.Loop.{done, out-length}
use Rattle.step.proofs.Serving.{served-quiet}
use Rattle.step.proofs.Turns.{moved-kept, has_room, room_for, begun-goes, turned-goes}

module _ (b : Board) (cycles : ℕ) (look : ℕ → Entry) (n : ℕ) (queue out : List ℕ) where
  abbrev number : ℕ
  number = step_refusal b cycles (shown n (look (front_place b))) (length queue) (length out)

  -- N10: the board, the queue and the output as they were, and the number alone
  pub refused-step : (number ≡ 0 → ⊥) → ran b cycles look n queue out ≡ (stopped_of b number, (queue, out))
  unfolding ran begun_of
  refused-step h = rw (ne_eqb number 0 h) (done (waits b) look (stopped_of b number, (queue, out)) refl)

  -- "Before `next_due` a step only moves the clock."
  pub quiet_step_lem : number ≡ 0 → now_of b.chip + cycles < b.chip.clock.next_due
      → ran b cycles look n queue out ≡ (stopped_of (moved_by b cycles) 0, (queue, out))
  unfolding ran begun_of started_of
  quiet_step_lem e h =
      rw (eq-eqb number 0 e, lt-ltb (now_of b.chip + cycles) b.chip.clock.next_due h)
      (done (waits b) look (stopped_of (moved_by b cycles) 0, (queue, out)) refl)

-- which is what the stages would have done
pub quick-exit : (b : Board) (cycles : ℕ) (queue : List ℕ) → Whole b → now_of b.chip + cycles ≤ clock_max → now_of b.chip + cycles < b.chip.clock.next_due
    → served_of (moved_by b cycles).chip queue ≡ nothing_due (moved_by b cycles).chip
unfolding next_event
quick-exit b cycles queue w m h =
    served-quiet (moved_by b cycles).chip queue (moved-kept b cycles w.sound m).chip (lt_of_lt_of_le h w.due)

-- ---- the number

begun-number : (b : Board) (cycles : ℕ) (front : Front) (queue out : List ℕ)
    → (begun_of b cycles front queue out).refused ≡ step_refusal b cycles front (length queue) (length out)
unfolding begun_of started_of
begun-number b cycles front queue out = go (eqb refusal 0) (ltb (now_of b.chip + cycles) b.chip.clock.next_due) refl
  where
    refusal : ℕ
    refusal = step_refusal b cycles front (length queue) (length out)

    going : Going
    going = going_of b (served_of (moved_to b.chip (now_of b.chip + cycles)) queue)

    go : (t early : Bool) → eqb refusal 0 ≡ t → (cond t (cond early (stopped_of (moved_by b cycles) 0) going) (stopped_of b refusal)).refused ≡ refusal
    go false early e = refl
    go true true e = sym (eqb-true refusal 0 e)
    go true false e = sym (eqb-true refusal 0 e)

turned-number : (g : Going) (e : Entry) → (turned_of g e).refused ≡ g.refused
unfolding turned_of
turned-number g e = go (later g e)
  where
    go : (t : Bool) → (cond t (noted_of g e) (taken_by g e)).refused ≡ g.refused
    go true = refl
    go false = refl

runs_number : (k : ℕ) (look : ℕ → Entry) (z : Ran) → (runs k look z).0.refused ≡ z.0.refused
unfolding runs
runs_number zero look z = refl
runs_number (suc k) look z = go z.0.on (runs_number k look (turn_of look z) ∙ turned-number z.0 (look z.0.place))
  where
    go : (t : Bool) → (runs k look (turn_of look z)).0.refused ≡ z.0.refused → (cond t (runs k look (turn_of look z)) z).0.refused ≡ z.0.refused
    go true e = e
    go false e = refl

-- a step answers the first refusal that applies, and 0 exactly where none does
pub step-number : (b : Board) (cycles : ℕ) (look : ℕ → Entry) (n : ℕ) (queue out : List ℕ)
    → (step_of b cycles look n queue out).refused ≡ step_refusal b cycles (shown n (look (front_place b))) (length queue) (length out)
unfolding ran finished_of
step-number b cycles look n queue out =
    let front = shown n (look (front_place b)) in
    runs_number (waits b) look (begun_of b cycles front queue out, (queue, out)) ∙ begun-number b cycles front queue out

-- and with another number than 0 the board as it was
pub refused-board : (b : Board) (cycles : ℕ) (look : ℕ → Entry) (n : ℕ) (queue out : List ℕ)
    → (step_refusal b cycles (shown n (look (front_place b))) (length queue) (length out) ≡ 0 → ⊥) → (step_of b cycles look n queue out).board ≡ b
unfolding finished_of
refused-board b cycles look n queue out h = ap (λ (z : Ran). settled z.0.served z.0.board) (refused-step b cycles look n queue out h)

-- ---- the output

-- between two states of a step, n entries were taken and their records written
record Wrote (look : ℕ → Entry) (z f : Ran) : Type 0 where
  n : ℕ
  applied : f.0.applied ≡ z.0.applied + n
  written : f.0.written ≡ z.0.written + length (records_of look z.0.place n)
  out : f.1.1 ≡ sets z.1.1 z.0.written (records_of look z.0.place n)
  fits : f.0.written ≤ length z.1.1

none : (look : ℕ → Entry) (z : Ran) → z.0.written ≤ length z.1.1 → Wrote look z z
unfolding records_of
none look z h = record { n = 0; applied = omega arith; written = omega arith; out = refl; fits = h }

-- one record, and then the rest
more : (look : ℕ → Entry) (g : Going) (q q' o : List ℕ) (f : Ran) (nq : ℕ) → Ready g nq (length o)
    → Wrote look (taken_by g (look g.place), (q', written_of o g.written (record_of (look g.place)))) f → Wrote look (g, (q, o)) f
unfolding records_of
more look g q q' o f nq r w =
    let e = look g.place in
    let here : next_place g.board.chip.script ≡ (g.place + 1) % entries = rw r.front in
    let rest = records_of look ((g.place + 1) % entries) w.n in
    let put : written_of o g.written (record_of e) ≡ sets o g.written (record_of e) =
    rw (has_room g e nq (length o) r) (sym (sets-eq (record_of e) o g.written (room_for g e nq (length o) r))) in
    let long : length (record_of e ++ rest) ≡ length (record_of e) + length rest = length-append (record_of e) rest in
    let step : f.0.written ≡ g.written + length (record_of e) + length rest =
    w.written ∙ ap (λ (k : ℕ). g.written + length (record_of e) + length (records_of look k w.n)) here in
    record {
      n = suc w.n;
      applied = omega (arith, w.applied);
      written = omega (arith, step, long);
      out =
          w.out
          ∙ ap (λ (l : List ℕ). sets l (g.written + length (record_of e)) (records_of look (next_place g.board.chip.script) w.n)) put
          ∙ ap (λ (k : ℕ). sets (sets o g.written (record_of e)) (g.written + length (record_of e)) (records_of look k w.n)) here
          ∙ sets-append o g.written (record_of e) rest;
      fits = subst (λ (k : ℕ). f.0.written ≤ k) (written-length o g.written (record_of e)) w.fits;
    }

-- a turn, whether it takes the front or not
turn-wrote : (look : ℕ → Entry) (nq : ℕ) (z f : Ran) → Ready z.0 nq (length z.1.1) → Wrote look (turn_of look z) f → Wrote look z f
unfolding turned_of queue_of out_of
turn-wrote look nq z f r = go (later g e)
  where
    g : Going
    g = z.0

    e : Entry
    e = look z.0.place

    go : (t : Bool)
        → Wrote look (cond t (noted_of g e) (taken_by g e), (cond t z.1.0 (apply_in (shorter g) e.action z.1.0), cond t z.1.1 (written_of z.1.1 g.written (record_of e)))) f
        → Wrote look z f
    go true w = record { n = w.n; applied = w.applied; written = w.written; out = w.out; fits = w.fits }
    go false w = more look g z.1.0 (apply_in (shorter g) e.action z.1.0) z.1.1 f nq r w

turn-fits : (g : Going) (e : Entry) (nq : ℕ) (out : List ℕ) → Ready g nq (length out) → (turned_of g e).written ≤ length out
unfolding turned_of
turn-fits g e nq out r = go (later g e)
  where
    go : (t : Bool) → (cond t (noted_of g e) (taken_by g e)).written ≤ length out
    go true = omega (arith, r.room)
    go false = room_for g e nq (length out) r

runs-wrote : (k : ℕ) (look : ℕ → Entry) (nq : ℕ) (z : Ran) → (z.0.on ≡ true → Ready z.0 nq (length z.1.1)) → z.0.written ≤ length z.1.1
    → Wrote look z (runs k look z)
unfolding runs
runs-wrote zero look nq z r h = none look z h
runs-wrote (suc k) look nq z r h = go z.0.on refl (runs-wrote k look nq (turn_of look z))
  where
    g : Going
    g = z.0

    e : Entry
    e = look z.0.place

    same : length (out_of g e z.1.1) ≡ length z.1.1
    same = out-length g e z.1.1

    go : (t : Bool) → g.on ≡ t
        → (((turned_of g e).on ≡ true → Ready (turned_of g e) nq (length (out_of g e z.1.1))) → (turned_of g e).written ≤ length (out_of g e z.1.1) → Wrote look (turn_of look z) (runs k look (turn_of look z)))
        → Wrote look z (cond t (runs k look (turn_of look z)) z)
    go true on rest =
        turn-wrote look nq z (runs k look (turn_of look z)) (r on)
        (rest (λ on'. subst (Ready (turned_of g e) nq) (sym same) (turned-goes g e nq (length z.1.1) (r on) on').ready) (subst (λ (m : ℕ). (turned_of g e).written ≤ m) (sym same) (turn-fits g e nq z.1.1 (r on))))
    go false on rest = none look z h

-- a step begins with nothing taken and nothing written
begun-none : (b : Board) (cycles : ℕ) (front : Front) (queue out : List ℕ) → ((begun_of b cycles front queue out).applied ≡ 0) × ((begun_of b cycles front queue out).written ≡ 0)
unfolding begun_of started_of
begun-none b cycles front queue out = go (eqb number 0) (ltb (now_of b.chip + cycles) b.chip.clock.next_due)
  where
    number : ℕ
    number = step_refusal b cycles front (length queue) (length out)

    going : Going
    going = going_of b (served_of (moved_to b.chip (now_of b.chip + cycles)) queue)

    go : (t early : Bool) → ((cond t (cond early (stopped_of (moved_by b cycles) 0) going) (stopped_of b number)).applied ≡ 0)
        × ((cond t (cond early (stopped_of (moved_by b cycles) 0) going) (stopped_of b number)).written ≡ 0)
    go false early = (refl, refl)
    go true true = (refl, refl)
    go true false = (refl, refl)

module _ (b : Board) (typed : Typed b) (cycles : ℕ) (look : ℕ → Entry) (n : ℕ) (queue out : List ℕ) where
  abbrev begin : Going
  begin = begun_of b cycles (shown n (look (front_place b))) queue out

  abbrev end : Ran
  end = ran b cycles look n queue out

  abbrev records : List ℕ
  records = records_of look (front_place b) end.0.applied

  -- the output: the records of the entries taken, and behind them as it was
  pub record Output : Type 0 where
    pub long : end.0.written ≡ length records
    pub room : end.0.written ≤ length out
    pub bytes : end.1.1 ≡ records ++ drop end.0.written out

  whole-wrote : Wrote look (begin, (queue, out)) end
  unfolding ran
  whole-wrote =
      runs-wrote (waits b) look (length queue) (begin, (queue, out)) (λ on. (begun-goes b typed cycles (shown n (look (front_place b))) queue out on).ready)
      (let z = (begun-none b cycles (shown n (look (front_place b))) queue out).1 in omega arith)

  -- where it looked: from the front on
  looked-from : (t : Bool) → begin.on ≡ t → (k : ℕ) → end.0.applied ≡ k → records_of look begin.place k ≡ records_of look (front_place b) k
  unfolding ran records_of
  looked-from true on k e = ap (λ (p : ℕ). records_of look p k) (begun-goes b typed cycles (shown n (look (front_place b))) queue out on).front
  looked-from false on k e =
      let same = done (waits b) look (begin, (queue, out)) on in
      let zero-taken : k ≡ 0 = sym e ∙ ap (λ (z : Ran). z.0.applied) same ∙ (begun-none b cycles (shown n (look (front_place b))) queue out).0 in
      rw zero-taken

  pub output : Output
  output =
      let w = whole-wrote in
      let z = begun-none b cycles (shown n (look (front_place b))) queue out in
      let taken : end.0.applied ≡ w.n = omega (arith, w.applied, z.0) in
      let same : records_of look begin.place w.n ≡ records =
      looked-from begin.on refl w.n taken ∙ ap (λ (k : ℕ). records_of look (front_place b) k) (sym taken) in
      let count : length (records_of look begin.place w.n) ≡ length records = ap length same in
      let long : end.0.written ≡ length records = omega (arith, w.written, z.1, count) in
      let fits : 0 + length records ≤ length out = omega (arith, w.fits, long) in
      record {
        long = long;
        room = w.fits;
        bytes =
            w.out
            ∙ ap (λ (k : ℕ). sets out k (records_of look begin.place w.n)) z.1
            ∙ ap (λ (l : List ℕ). sets out 0 l) same
            ∙ sets-eq records out 0 fits
            ∙ ap (λ (k : ℕ). records ++ drop k out) (let x : 0 + length records ≡ end.0.written = omega (arith, long) in x);
      }

  -- "output past the last record is unchanged"
  pub out-past : drop end.0.written end.1.1 ≡ drop end.0.written out
  out-past = rw output.bytes (drop_at records (drop end.0.written out) end.0.written (sym output.long))
