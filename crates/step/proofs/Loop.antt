-- What every holder's loop keeps, and what it has computed once it is left, as numbers and lists: no program logic, and no memory that holds the script.
use mathlib.Core.Path.{◌≡◌, refl, sym, ◌∙◌, ap, subst}
use mathlib.Core.Bool.{Bool, true, false, cond}
use mathlib.Core.List.{List}
use Prim.Native.Nat.{ℕ, zero, suc, ◌+◌, ◌-◌, ◌<◌}
use native.Mathlib.Omega.{arith}
use lib.ListN.{length}
use Rattle.records.proofs.Written.{written-length}
use Rattle.records.specs.Encoded.{written_of}
use Rattle.script.specs.Entries.{shown}
use Rattle.script.specs.Script.{entries}
use Rattle.script.specs.declared.Entry.{Entry}
use Rattle.state.specs.Whole.{Typed}
use Rattle.state.specs.declared.Board.{Board}
use Rattle.step.specs.Apply.{apply_in}
use Rattle.step.specs.Step.{Ready, front_place, waits, waiting, begun_of, later, shorter, record_of, turned_of, queue_of, out_of, Ran, turn_of, runs, ran}
use Rattle.step.specs.declared.Going.{Going}
use Rattle.step.proofs.Applied.{applied-length}
use Rattle.step.proofs.Turns.{begun-goes, turned-goes}

-- while it goes on, a turn can be made, and the script has its size
abbrev pub Goes : ℕ → ℕ → ℕ → Going → Type 0
Goes n queue out g = g.on ≡ true → (n ≡ entries) × Ready g queue out

-- the turns that are left at most
abbrev pub left : Going → ℕ
left g = cond g.on (waiting g) 0

-- what the loop keeps: `look` shows the script, of n entries, and goal is what the step comes to
pub record Loop (look : ℕ → Entry) (n : ℕ) (q₀ o₀ : List ℕ) (goal z : Ran) : Type 0 where
  pub goes : Goes n (length q₀) (length o₀) z.0
  pub queue : length z.1.0 ≡ length q₀
  pub out : length z.1.1 ≡ length o₀
  pub leads : runs (waiting z.0) look z ≡ goal

-- where it does not go on, it is done
pub done : (k : ℕ) (look : ℕ → Entry) (z : Ran) → z.0.on ≡ false → runs k look z ≡ z
unfolding runs
done zero look z off = refl
done (suc k) look z off = ap (λ (u : Bool). cond u (runs k look (turn_of look z)) z) off

opened : (k : ℕ) (look : ℕ → Entry) (z : Ran) → z.0.on ≡ true → runs (suc k) look z ≡ runs k look (turn_of look z)
unfolding runs
opened k look z on = ap (λ (u : Bool). cond u (runs k look (turn_of look z)) z) on

-- as many turns as wait are as good as k, where it goes on only if k wait
enough : (t : Bool) (k : ℕ) (look : ℕ → Entry) (z : Ran) → z.0.on ≡ t → (z.0.on ≡ true → waiting z.0 ≡ k) → runs (waiting z.0) look z ≡ runs k look z
enough true k look z is same = ap (λ (n : ℕ). runs n look z) (same is)
enough false k look z is same = done (waiting z.0) look z is ∙ sym (done k look z is)

-- a turn leaves the lengths of both memories
pub queue-length : (g : Going) (e : Entry) (queue : List ℕ) → length (queue_of g e queue) ≡ length queue
unfolding queue_of
queue-length g e queue = go (later g e)
  where
    go : (t : Bool) → length (cond t queue (apply_in (shorter g) e.action queue)) ≡ length queue
    go true = refl
    go false = applied-length (shorter g) e.action queue

pub out-length : (g : Going) (e : Entry) (out : List ℕ) → length (out_of g e out) ≡ length out
unfolding out_of
out-length g e out = go (later g e)
  where
    go : (t : Bool) → length (cond t out (written_of out g.written (record_of e))) ≡ length out
    go true = refl
    go false = written-length out g.written (record_of e)

module _ (look : ℕ → Entry) (b : Board) (typed : Typed b) (cycles n : ℕ) (q o : List ℕ) where
  abbrev begin : Going
  begin = begun_of b cycles (shown n (look (front_place b))) q o

  pub at-start : Loop look n q o (ran b cycles look n q o) (begin, (q, o))
  unfolding ran
  at-start =
      record {
        goes = λ (on : begin.on ≡ true). let g = begun-goes b typed cycles (shown n (look (front_place b))) q o on in (g.size, g.ready);
        queue = refl;
        out = refl;
        leads = enough begin.on (waits b) look (begin, (q, o)) refl (λ (on : begin.on ≡ true). (begun-goes b typed cycles (shown n (look (front_place b))) q o on).same);
      }

  pub enters : (r : Going) → r ≡ begin → Loop look n q o (ran b cycles look n q o) (r, (q, o))
  enters r is = subst (λ (g : Going). Loop look n q o (ran b cycles look n q o) (g, (q, o))) (sym is) at-start

module _ (look : ℕ → Entry) (n : ℕ) (q₀ o₀ : List ℕ) (goal z : Ran) (l : Loop look n q₀ o₀ goal z) where
  pub ready : z.0.on ≡ true → Ready z.0 (length z.1.0) (length z.1.1)
  ready on = subst (λ (m : ℕ). Ready z.0 m (length z.1.1)) (sym l.queue) (subst (λ (m : ℕ). Ready z.0 (length q₀) m) (sym l.out) (l.goes on).1)

  -- once it is left, the goal is reached
  pub leaves : z.0.on ≡ false → z ≡ goal
  leaves off = sym (done (waiting z.0) look z off) ∙ l.leads

  module _ (on : z.0.on ≡ true) where
    abbrev r : Going
    r = turned_of z.0 (look z.0.place)

    fewer : r.on ≡ true → waiting r + 1 ≡ waiting z.0
    fewer on' = (turned-goes z.0 (look z.0.place) (length q₀) (length o₀) (l.goes on).1 on').fewer

    some : 0 < waiting z.0
    some = (l.goes on).1.some

    is-suc : waiting z.0 ≡ suc (waiting z.0 - 1)
    is-suc = omega (arith, some)

    -- a turn leads where the state before it led
    leads-on : runs (waiting r) look (turn_of look z) ≡ goal
    leads-on =
        enough r.on (waiting z.0 - 1) look (turn_of look z) refl (λ (on' : r.on ≡ true). let e = fewer on' in omega (arith, e))
        ∙ sym (opened (waiting z.0 - 1) look z on)
        ∙ ap (λ (k : ℕ). runs k look z) (sym is-suc)
        ∙ l.leads

    pub turned-loop : Loop look n q₀ o₀ goal (turn_of look z)
    turned-loop =
        record {
          goes = λ (on' : r.on ≡ true). ((l.goes on).0, (turned-goes z.0 (look z.0.place) (length q₀) (length o₀) (l.goes on).1 on').ready);
          queue = queue-length z.0 (look z.0.place) z.1.0 ∙ l.queue;
          out = out-length z.0 (look z.0.place) z.1.1 ∙ l.out;
          leads = leads-on;
        }

    less-at : (t : Bool) → r.on ≡ t → cond t (waiting r) 0 < waiting z.0
    less-at true is = let e = fewer is in omega (arith, e)
    less-at false is = some

    pub less : left r < left z.0
    less = subst (λ (t : Bool). left r < cond t (waiting z.0) 0) (sym on) (less-at r.on refl)

-- what `turned` ensures, at an entry e
abbrev pub Right : Going → Entry → List ℕ → List ℕ → Going → List ℕ → List ℕ → Type 0
Right g e q o r q' o' = (r ≡ turned_of g e) × (q' ≡ queue_of g e q) × (o' ≡ out_of g e o)

pub again : (look : ℕ → Entry) (n : ℕ) (q₀ o₀ : List ℕ) (goal z z' : Ran) → Loop look n q₀ o₀ goal z → z.0.on ≡ true
    → Right z.0 (look z.0.place) z.1.0 z.1.1 z'.0 z'.1.0 z'.1.1 → Loop look n q₀ o₀ goal z'
again look n q₀ o₀ goal z z' l on right = subst (Loop look n q₀ o₀ goal) (sym is) (turned-loop look n q₀ o₀ goal z l on)
  where
    is : z' ≡ turn_of look z
    is = λ i. (right.0 i, (right.1 i, right.2 i))

pub sooner : (look : ℕ → Entry) (n : ℕ) (q₀ o₀ : List ℕ) (goal z : Ran) (r : Going) → Loop look n q₀ o₀ goal z → z.0.on ≡ true
    → r ≡ turned_of z.0 (look z.0.place) → left r < left z.0
sooner look n q₀ o₀ goal z r l on is = subst (λ (g : Going). left g < left z.0) (sym is) (less look n q₀ o₀ goal z l on)
