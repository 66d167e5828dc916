-- A step over the script's words: refused, early, or served and taken through its entries, as `step` has it.
use mathlib.Core.Path.{◌≡◌, refl, sym, ◌∙◌, ap, subst}
use mathlib.Core.Bool.{Bool, true, false, cond}
use mathlib.Core.List.{List}
use Prim.Native.Nat.{ℕ, zero, suc, ◌+◌, ◌≤◌, ◌<◌, ◌^◌}
use native.Mathlib.Omega.{arith}
use borrow.Author.Tests.{eqb-true, eqb-false, eq-eqb, ltb-true}
use lib.Dec.{eqb, ltb}
use lib.ListN.{length}
use Rattle.base.specs.Moments.{clock_max}
use Rattle.std.specs.Prelude.{None}
use Rattle.driver_carry.proofs.Calls.{granted, step_left}
use Rattle.driver_carry.specs.Carry.{Agrees, told_of, step_in}
use Rattle.driver_carry.specs.declared.Answer.{Answer}
use Rattle.driver_carry.specs.declared.Answer.TheVariants.{Stepped, Refused}
use Rattle.script.specs.Words.{words_at, places_in}
use Rattle.script.specs.declared.Entry.{Entry}
use Rattle.state.proofs.Kept.{put-clock}
use Rattle.state.specs.State.{next_event}
use Rattle.state.specs.Whole.{Whole, ChipOk}
use Rattle.state.specs.With.{moved_to, due_at, with_chip}
use Rattle.state.specs.declared.Board.{Board}
use Rattle.state.specs.declared.Chip.{Chip}
use Rattle.state.specs.declared.Panel.{Panel}
use Rattle.step.proofs.Outcomes.{refused-step, quiet_step_lem}
use Rattle.step.proofs.Turns.{begun-goes}
use Rattle.step.specs.Apply.{board_of}
use Rattle.step.specs.Stages.{now_of, served_of, first_stages, last_stages}
use Rattle.step.specs.Step.{Ready, front_place, out_bytes, step_refusal, stopped_of, started_of, begun_of, later, noted_of, taken_by, turned_of, queue_of, out_of, finished_of, moved_by, Ran, turn_of, runs, ran, past_limit}
use Rattle.step.specs.declared.Going.{Going}
use Rattle.step.specs.declared.stages.Served.{Served}
use Rattle.uart.specs.Uart.{queue_bytes}
use Rattle.board_words.specs.Words.{shown_in}
use Rattle.driver_turns.specs.Held.{Goes, going_by}
use Rattle.driver_ways.specs.Told.{told_by}
use Rattle.driver_ways.specs.declared.Outcome.{Outcome}
use Rattle.driver_turns.specs.declared.Taken.{Taken}
use Rattle.state.proofs.Facts.{whole_typed}

-- ---- what the stages found due goes through the turns as it is

abbrev pub events_of : Served → Going → Going
events_of s g = record {
  board = g.board;
  audio_half = s.audio_half;
  uart_rx = s.uart_rx;
  written = g.written;
  place = g.place;
  applied = g.applied;
  refused = g.refused;
  usb_frame = s.usb_frame;
  wdt = s.wdt;
  on = g.on;
  served = g.served;
}

abbrev pub events_in : Served → Ran → Ran
events_in s z = (events_of s z.0, z.1)

turned-events : (s : Served) (g : Going) (e : Entry) → turned_of (events_of s g) e ≡ events_of s (turned_of g e)
unfolding turned_of
turned-events s g e = go (later g e)
  where
    go : (x : Bool) → cond x (noted_of (events_of s g) e) (taken_by (events_of s g) e) ≡ events_of s (cond x (noted_of g e) (taken_by g e))
    go true = refl
    go false = refl

turn-events : (s : Served) (look : ℕ → Entry) (z : Ran) → turn_of look (events_in s z) ≡ events_in s (turn_of look z)
unfolding queue_of out_of
turn-events s look z = ap (λ (g : Going). (g, (turn_of look z).1)) (turned-events s z.0 (look z.0.place))

runs-events : (k : ℕ) (s : Served) (look : ℕ → Entry) (z : Ran) → runs k look (events_in s z) ≡ events_in s (runs k look z)
unfolding runs
runs-events zero s look z = refl
runs-events (suc k) s look z = go z.0.on (ap (runs k look) (turn-events s look z) ∙ runs-events k s look (turn_of look z))
  where
    go : (x : Bool) → runs k look (turn_of look (events_in s z)) ≡ events_in s (runs k look (turn_of look z))
        → cond x (runs k look (turn_of look (events_in s z))) (events_in s z) ≡ events_in s (cond x (runs k look (turn_of look z)) z)
    go true e = e
    go false e = refl

-- ---- the step

module _ (b : Board) (ws : List ℕ) (w : Whole b) (a : Agrees b ws) (cycles : ℕ) (queue acts : List ℕ) (ql : length queue ≡ queue_bytes) (al : length acts ≡ out_bytes) where
  abbrev look : ℕ → Entry
  look = words_at ws

  abbrev end : ℕ
  end = now_of b.chip + cycles

  abbrev number : ℕ
  number = past_limit b.chip.uart.dropped (now_of b.chip) cycles

  abbrev S : Served
  S = served_of (moved_to b.chip end) queue

  abbrev begin : Going
  begin = begun_of b cycles (shown_in ws (front_place b)) queue acts

  left : step_refusal b cycles (shown_in ws (front_place b)) (length queue) (length acts) ≡ number
  left = step_left b (whole_typed b w) ws cycles (length queue) (length acts) w a ql al

  -- the board, the answer, the queue and the output
  abbrev RightAt : Board → Answer → List ℕ → List ℕ → Ran → Type 0
  RightAt b' r q o z = (b' ≡ (told_of (finished_of z.0)).board) × (r ≡ (told_of (finished_of z.0)).answer) × (q ≡ z.1.0) × (o ≡ z.1.1)

  abbrev RightStep : Board → Answer → List ℕ → List ℕ → Type 0
  RightStep b' r q o = RightAt b' r q o (step_in b cycles queue ws acts)

  at : (b' : Board) (r : Answer) (q o : List ℕ) (z : Ran) → step_in b cycles queue ws acts ≡ z → RightAt b' r q o z → RightStep b' r q o
  at b' r q o z e p = subst (RightAt b' r q o) (sym e) p

  pub refused-right : eqb number 0 ≡ false → RightStep b (Refused number) queue acts
  unfolding finished_of
  refused-right e =
      at b (Refused number) queue acts (stopped_of b number, (queue, acts))
      (refused-step b cycles look (places_in ws) queue acts (λ z. eqb-false number 0 e (sym left ∙ z)) ∙ ap (λ (n : ℕ). (stopped_of b n, (queue, acts))) left)
      (refl, rw e, refl, refl)

  pub early-right : eqb number 0 ≡ true → ltb end b.chip.clock.next_due ≡ true → RightStep (moved_by b cycles) (Stepped end None None 0) queue acts
  unfolding finished_of
  early-right e h =
      at (moved_by b cycles) (Stepped end None None 0) queue acts (stopped_of (moved_by b cycles) 0, (queue, acts))
      (quiet_step_lem b cycles look (places_in ws) queue acts (left ∙ eqb-true number 0 e) (ltb-true end b.chip.clock.next_due h))
      (refl, refl, refl, refl)

  module _ (e : eqb number 0 ≡ true) (h : ltb end b.chip.clock.next_due ≡ false) where
    abbrev start : Going
    start = going_by S.chip b.panel 0 0 (ltb 0 S.chip.script.count)

    began : begin ≡ events_of S start
    unfolding begun_of started_of
    began = rw (left, e, h)

    served-count : S.chip.script.count ≡ b.chip.script.count
    unfolding served_of first_stages last_stages
    served-count = refl

    pub served-goes : Goes (length queue) (length acts) start
    served-goes on =
        let k = (begun-goes b (whole_typed b w) cycles (shown_in ws (front_place b)) queue acts (ap (λ (g : Going). g.on) began ∙ on)).ready in
        let r : Ready (events_of S start) (length queue) (length acts) = subst (λ (g : Going). Ready g (length queue) (length acts)) began k in
        record { sound = r.sound; lent = r.lent; front = r.front; place = r.place; some = r.some; few = r.few; lost = r.lost; room = r.room }

    served-ran : step_in b cycles queue ws acts ≡ events_in S (runs S.chip.script.count look (start, (queue, acts)))
    unfolding ran
    served-ran =
        ap (λ (g : Going). runs b.chip.script.count look (g, (queue, acts))) began
        ∙ runs-events b.chip.script.count S look (start, (queue, acts))
        ∙ ap (λ (n : ℕ). events_in S (runs n look (start, (queue, acts)))) (sym served-count)

    pub served-right : (c : Chip) (p : Panel) (written applied : ℕ) (on : Bool) (q o : List ℕ) (next : ℕ)
        → (going_by c p written applied on, (q, o)) ≡ runs S.chip.script.count look (start, (queue, acts)) → next ≡ next_event c
        → RightStep (board_of (due_at c next) p) (Stepped c.clock.cycles S.audio_half S.uart_rx applied) q o
    unfolding finished_of
    served-right c p written applied on q o next r n =
        at _ _ q o (events_in S (going_by c p written applied on, (q, o)))
        (served-ran ∙ ap (events_in S) (sym r))
        (ap (λ (m : ℕ). board_of (due_at c m) p) n, refl, refl, refl)

  -- ---- by what the code has at hand

  module _ (n : ℕ) (is : n ≡ number) where
    pub refused-told : eqb n 0 ≡ false → (r : Outcome) → r ≡ told_by b.chip (Refused n) → RightStep (with_chip b r.chip) r.answer queue acts
    refused-told e r t =
        subst (λ (x : Outcome). RightStep (with_chip b x.chip) x.answer queue acts) (sym t)
        (subst (λ (m : ℕ). eqb m 0 ≡ false → RightStep b (Refused m) queue acts) (sym is) refused-right e)

    module _ (none : n ≡ 0) where
      granted-by : (b.chip.uart.dropped < 2 ^ 62) × (end ≤ clock_max)
      granted-by = granted b.chip.uart.dropped (now_of b.chip) cycles (sym is ∙ none)

      pub within : end ≤ clock_max
      within = granted-by.1

      pub serve-ready : ChipOk (moved_to b.chip end) × (length queue ≡ queue_bytes) × (b.chip.uart.dropped < 2 ^ 62)
      serve-ready =
          (put-clock b.chip w.sound.chip end b.chip.clock.next_due b.chip.clock.skipped (omega arith) within, ql, granted-by.0)

      none_is : eqb number 0 ≡ true
      none_is = eq-eqb number 0 (sym is ∙ none)

      pub early-told : ltb end b.chip.clock.next_due ≡ true → (r : Outcome) → r ≡ told_by (moved_to b.chip end) (Stepped end None None 0)
          → RightStep (with_chip b r.chip) r.answer queue acts
      early-told h r t = subst (λ (x : Outcome). RightStep (with_chip b x.chip) x.answer queue acts) (sym t) (early-right none_is h)

      module _ (h : ltb end b.chip.clock.next_due ≡ false) (s : Served) (served : s ≡ S) where
        abbrev start_of : Served → Going
        start_of x = going_by x.chip b.panel 0 0 (ltb 0 x.chip.script.count)

        pub turns-ready : Goes (length queue) (length acts) (start_of s)
        turns-ready = subst (λ (x : Served). Goes (length queue) (length acts) (start_of x)) (sym served) (served-goes none_is h)

        pub served-told : (t : Taken) (p : Panel) (q o : List ℕ) → (going_by t.chip p t.written t.applied false, (q, o)) ≡ runs s.chip.script.count look (start_of s, (queue, acts))
            → (next : ℕ) → next ≡ next_event t.chip → (r : Outcome) → r ≡ told_by (due_at t.chip next) (Stepped t.chip.clock.cycles s.audio_half s.uart_rx t.applied)
            → RightStep (board_of r.chip p) r.answer q o
        served-told t p q o e next m r told =
            subst (λ (x : Outcome). RightStep (board_of x.chip p) x.answer q o) (sym told)
            (subst
            (λ (x : Served). (going_by t.chip p t.written t.applied false, (q, o)) ≡ runs x.chip.script.count look (start_of x, (queue, acts))
            → RightStep (board_of (due_at t.chip next) p) (Stepped t.chip.clock.cycles x.audio_half x.uart_rx t.applied) q o)
            (sym served)
            (λ f. served-right none_is h t.chip p t.written t.applied false q o next f m) e)
