-- The script's front stays the one that the record tells of: through a push, a read, a write and a step.
use mathlib.Core.Path.{◌≡◌, refl, sym, ◌∙◌, ap, subst}
use mathlib.Core.Bool.{Bool, true, false, cond, ◌||◌, false≢true}
use mathlib.Core.List.{List}
use Prim.Native.Nat.{ℕ, zero, suc, ◌+◌, ◌*◌, ◌/◌, ◌≤◌, ◌<◌}
use native.Mathlib.Omega.{arith}
use borrow.Author.Tests.{eqb-true, eqb-false, eq-eqb, ltb-true, ltb-false}
use lib.Dec.{eqb, ltb}
use lib.ListN.{length, get_or, set, length-set}
use lib.Seq.{get_or-set_same, get_or-set_other}
use Rattle.records.specs.declared.Action.{Action}
use Rattle.records.specs.declared.Action.TheVariants.{Key, Enc, Adc, Midi, KeyVel, Pressure}
use Rattle.regs.specs.Reads.{polled_of}
use Rattle.regs.specs.Writes.{adc_written, chip_written, board_written}
use Rattle.script.specs.Entries.{shown, agrees_of}
use Rattle.script.specs.Script.{entries, ScriptOk, spot_of, looked_of, taken_of}
use Rattle.script.specs.declared.Entry.{Entry}
use Rattle.script.specs.declared.Script.{Script}
use Rattle.state.specs.Whole.{Whole}
use Rattle.state.specs.With.{moved_to}
use Rattle.state.specs.declared.Board.{Board}
use Rattle.state.specs.declared.Chip.{Chip}
use Rattle.step.specs.Apply.{apply_of, acted_on}
use Rattle.step.specs.Stages.{now_of, served_of, first_stages, last_stages}
use Rattle.step.specs.Step.{front_place, waits, waiting, step_refusal, stopped_of, going_of, moved_by, started_of, begun_of, later, noted_of, shorter, taken_by, turned_of, settled, finished_of, Ran, turn_of, runs, ran, step_of, more_pushed}
use Rattle.step.specs.declared.Going.{Going}
use Rattle.driver_carry.specs.Carry.{Agrees}

-- what holds in both cases holds in either
either : (t : Bool) (x y : Board) (s : Script) → x.chip.script ≡ s → y.chip.script ≡ s → (cond t x y).chip.script ≡ s
either true x y s p q = p
either false x y s p q = q

always : (t : Bool) → t || true ≡ true
always true = refl
always false = refl

-- ---- a step, over any look into the script

module _ (look : ℕ → Entry) (n : ℕ) where
  abbrev Agreed : Board → Type 0
  Agreed b = agrees_of b.chip.script (shown n (look (front_place b))) ≡ true

  -- where it goes on, an entry waits and stands at its place; where it does not, the front is the record's
  abbrev Good : Going → Type 0
  Good g = (g.on ≡ true → (g.place ≡ front_place g.board) × (0 < waiting g)) × (g.on ≡ false → Agreed g.board)

  none-waits : (s : Script) (x : Entry) → ltb 0 s.count ≡ false → agrees_of s (shown n x) ≡ true
  none-waits s x e = rw (eq-eqb s.count 0 (omega (arith, ltb-false 0 s.count e)))

  -- the stages leave the script alone
  served-script : (c : Chip) (queue : List ℕ) → (served_of c queue).chip.script ≡ c.script
  unfolding served_of first_stages last_stages
  served-script c queue = refl

  applied-script : (b : Board) (a : Action) → (apply_of b a).chip.script ≡ b.chip.script
  unfolding apply_of acted_on
  applied-script b (Key id down) = refl
  applied-script b (Enc enc clicks) = refl
  applied-script b (Adc ch value) = refl
  applied-script b (Midi x) = refl
  applied-script b (KeyVel vel) = refl
  applied-script b (Pressure id vel) = refl

  begun-good : (b : Board) (cycles : ℕ) (queue out : List ℕ) → Agreed b → Good (begun_of b cycles (shown n (look (front_place b))) queue out)
  unfolding begun_of started_of
  begun-good b cycles queue out a =
      go (eqb number 0) (ltb (now_of b.chip + cycles) b.chip.clock.next_due)
    where
      number : ℕ
      number = step_refusal b cycles (shown n (look (front_place b))) (length queue) (length out)

      moved : Chip
      moved = moved_to b.chip (now_of b.chip + cycles)

      going : Going
      going = going_of b (served_of moved queue)

      is : (served_of moved queue).chip.script ≡ b.chip.script
      is = served-script moved queue

      served : Good going
      served = (
        λ (on : ltb 0 (served_of moved queue).chip.script.count ≡ true). (refl, ltb-true 0 _ on),
        λ (off : ltb 0 (served_of moved queue).chip.script.count ≡ false). none-waits (served_of moved queue).chip.script (look (front_place going.board)) off,
      )

      go : (t early : Bool) → Good (cond t (cond early (stopped_of (moved_by b cycles) 0) going) (stopped_of b number))
      go false early = (λ on. absurd (false≢true on), λ off. a)
      go true true = (λ on. absurd (false≢true on), λ off. a)
      go true false = served

  turned-good : (g : Going) → g.on ≡ true → Good g → Good (turned_of g (look g.place))
  unfolding turned_of
  turned-good g on ok = go (later g (look g.place))
    where
      e : Entry
      e = look g.place

      s : Script
      s = g.board.chip.script

      at_front : look g.place ≡ look (front_place g.board)
      at_front = ap look (ok.0 on).0

      noted : agrees_of (looked_of s e.at) (shown n (look (front_place g.board))) ≡ true
      noted = rw (sym at_front, eq-eqb e.at e.at refl) (always (eqb s.count 0))

      is : (apply_of (shorter g) e.action).chip.script ≡ taken_of s
      is = applied-script (shorter g) e.action

      go : (t : Bool) → Good (cond t (noted_of g e) (taken_by g e))
      go true = (λ on'. absurd (false≢true on'), λ off. noted)
      go false = (
        λ (on' : ltb 0 (taken_of s).count ≡ true). (ap (λ (x : Script). x.place) (sym is), subst (λ (x : Script). 0 < x.count) (sym is) (ltb-true 0 _ on')),
        λ (off : ltb 0 (taken_of s).count ≡ false). none-waits (apply_of (shorter g) e.action).chip.script (look (front_place (taken_by g e).board)) (subst (λ (x : Script). ltb 0 x.count ≡ false) (sym is) off),
      )

  -- a turn that goes on leaves one fewer
  turned-fewer : (g : Going) (k : ℕ) → waiting g ≤ suc k → (turned_of g (look g.place)).on ≡ true → waiting (turned_of g (look g.place)) ≤ k
  unfolding turned_of
  turned-fewer g k h = go (later g (look g.place))
    where
      e : Entry
      e = look g.place

      is : (apply_of (shorter g) e.action).chip.script ≡ taken_of g.board.chip.script
      is = applied-script (shorter g) e.action

      go : (t : Bool) → (cond t (noted_of g e) (taken_by g e)).on ≡ true → waiting (cond t (noted_of g e) (taken_by g e)) ≤ k
      go true on = absurd (false≢true on)
      go false on = subst (λ (x : Script). x.count ≤ k) (sym is) (omega (arith, h))

  runs-agreed : (k : ℕ) (z : Ran) → Good z.0 → (z.0.on ≡ true → waiting z.0 ≤ k) → Agreed (runs k look z).0.board
  unfolding runs
  runs-agreed zero z ok few = go z.0.on refl
    where
      go : (t : Bool) → z.0.on ≡ t → Agreed z.0.board
      go true on = absurd (omega (arith, (ok.0 on).1, few on))
      go false off = ok.1 off
  runs-agreed (suc k) z ok few = go z.0.on refl (λ on. runs-agreed k (turn_of look z) (turned-good z.0 on ok) (turned-fewer z.0 k (few on)))
    where
      go : (t : Bool) → z.0.on ≡ t → (z.0.on ≡ true → Agreed (runs k look (turn_of look z)).0.board) → Agreed (cond t (runs k look (turn_of look z)) z).0.board
      go true on rest = rest on
      go false off rest = ok.1 off

  settled-agreed : (t : Bool) (b : Board) → Agreed b → Agreed (settled t b)
  settled-agreed true b a = a
  settled-agreed false b a = a

  -- where a step begins to look, as many wait as waited before it
  begun-waits : (b : Board) (cycles : ℕ) (queue out : List ℕ) → (begun_of b cycles (shown n (look (front_place b))) queue out).on ≡ true
      → waiting (begun_of b cycles (shown n (look (front_place b))) queue out) ≤ waits b
  unfolding begun_of started_of
  begun-waits b cycles queue out = go (eqb number 0) (ltb (now_of b.chip + cycles) b.chip.clock.next_due)
    where
      number : ℕ
      number = step_refusal b cycles (shown n (look (front_place b))) (length queue) (length out)

      moved : Chip
      moved = moved_to b.chip (now_of b.chip + cycles)

      going : Going
      going = going_of b (served_of moved queue)

      go : (t early : Bool) → (cond t (cond early (stopped_of (moved_by b cycles) 0) going) (stopped_of b number)).on ≡ true
          → waiting (cond t (cond early (stopped_of (moved_by b cycles) 0) going) (stopped_of b number)) ≤ waits b
      go false early on = absurd (false≢true on)
      go true true on = absurd (false≢true on)
      go true false on = subst (λ (x : Script). x.count ≤ waits b) (sym (served-script moved queue)) (omega arith)

  pub step-agreed : (b : Board) (cycles : ℕ) (queue out : List ℕ) → Agreed b → Agreed (step_of b cycles look n queue out).board
  unfolding ran finished_of
  step-agreed b cycles queue out a =
      let begin = begun_of b cycles (shown n (look (front_place b))) queue out in
      settled-agreed (ran b cycles look n queue out).0.served (ran b cycles look n queue out).0.board
      (runs-agreed (waits b) (begin, (queue, out)) (begun-good b cycles queue out a) (begun-waits b cycles queue out))

-- ---- a read and a write leave the script's ring alone

pub polled-script : (c : Chip) → (polled_of c).script ≡ c.script
unfolding polled_of
polled-script c = refl

pub written-script : (b : Board) (addr v : ℕ) → (board_written b addr v).chip.script ≡ b.chip.script
unfolding board_written adc_written chip_written
written-script b addr v = either (eqb addr 0x13100) _ _ b.chip.script refl refl

-- ---- a push

-- a count of whole rounds that is less than one
no-rounds : (n k : ℕ) → n ≡ 256 * k → n < 256 → n ≡ 0
no-rounds n zero e h = omega arith
no-rounds n (suc k) e h = absurd (omega arith)

-- the front is where it was, unless the entry is the first
module _ (s : Script) (ws : List ℕ) (ok : ScriptOk s) (room : s.count < entries) (long : length ws ≡ 512) (at w : ℕ) where
  pub stored-front : (eqb s.count 0 || eqb (get_or ws (2 * s.place) 0) s.at) ≡ true
      → eqb (get_or (set (set ws (2 * spot_of s) at) (2 * spot_of s + 1) w) (2 * s.place) 0) (cond (eqb s.count 0) at s.at) ≡ true
  stored-front front = go (eqb s.count 0) refl
    where
      go : (t : Bool) → eqb s.count 0 ≡ t → eqb (get_or (set (set ws (2 * spot_of s) at) (2 * spot_of s + 1) w) (2 * s.place) 0) (cond t at s.at) ≡ true
      go true e =
          let q : 2 * s.place ≡ 2 * spot_of s = omega (arith, eqb-true s.count 0 e, ok.place) in
          let within : 2 * spot_of s < length ws = omega (arith, long) in
          eq-eqb _ at (rw q (get_or-set_other (set ws (2 * spot_of s) at) (2 * spot_of s + 1) (2 * spot_of s) w 0 (λ z. omega arith) ∙ get_or-set_same ws (2 * spot_of s) at 0 within))
      go false e =
          let some = eqb-false s.count 0 e in
          let apart : (2 * s.place ≡ 2 * spot_of s) → ⊥ = λ z. let whole : s.count ≡ 256 * ((s.place + s.count) / 256) = omega (arith, z) in some (no-rounds s.count _ whole room) in
          let odd : (2 * s.place ≡ 2 * spot_of s + 1) → ⊥ = λ z. omega (arith, z) in
          rw (get_or-set_other (set ws (2 * spot_of s) at) (2 * spot_of s + 1) (2 * s.place) w 0 odd, get_or-set_other ws (2 * spot_of s) (2 * s.place) at 0 apart) (rw e at front)

-- the same of a board: a push that finds room
pub push-agreed : (b : Board) (ws : List ℕ) → Whole b → Agrees b ws → waits b < entries → (at w : ℕ)
    → Agrees (more_pushed b at) (set (set ws (2 * spot_of b.chip.script) at) (2 * spot_of b.chip.script + 1) w)
push-agreed b ws whole a room at w =
    record {
      long = length-set (set ws (2 * spot_of b.chip.script) at) (2 * spot_of b.chip.script + 1) w ∙ length-set ws (2 * spot_of b.chip.script) at ∙ a.long;
      front = rw (stored-front b.chip.script ws whole.sound.chip.script room a.long at w a.front) (always (eqb (waits b + 1) 0));
    }
