-- The script's turn in a step: the entries that it takes offer their bytes, in order, and do nothing else to the MIDI part.
use mathlib.Core.Path.{◌≡◌, refl, sym, ◌∙◌, ap, subst}
use mathlib.Core.Bool.{Bool, true, false, cond}
use mathlib.Core.List.{List, [], ◌∷◌, ◌++◌}
use Prim.Native.Nat.{ℕ, zero, suc, ◌+◌, ◌%◌}
use native.Mathlib.Omega.{arith}
use lib.ListN.{length}
use Rattle.midi_laws.proofs.Does.{Does, nothing, and_then}
use Rattle.midi_laws.specs.Model.{Act}
use Rattle.records.specs.declared.Action.{Action}
use Rattle.records.specs.declared.Action.TheVariants.{Key, Enc, Adc, Midi as MidiByte, KeyVel, Pressure}
use Rattle.script.specs.Script.{entries, next_place}
use Rattle.script.specs.declared.Entry.{Entry}
use Rattle.script.specs.declared.Script.{Script}
use Rattle.state.specs.Whole.{Sound}
use Rattle.state.specs.declared.Board.{Board}
use Rattle.step.proofs.Applied.{applied-script, applied-now, applied-length}
use Rattle.step.proofs.Turns.{shorter-kept, noted-kept, took-kept}
use Rattle.step.specs.Apply.{acted_on, apply_of, apply_in}
use Rattle.step.specs.Stages.{now_of, hz_of}
use Rattle.step.specs.Step.{front_place, later, noted_of, shorter, record_of, taken_by, turned_of, queue_of, out_of, Ran, turn_of, runs}
use Rattle.step.specs.declared.Going.{Going}
use Rattle.records.specs.Encoded.{written_of}
use Rattle.times.specs.Clocks.{byte_time}
use Rattle.uart.specs.Uart.{queue_bytes}
use Rattle.promises.specs.Midi.{part_of, midi_of, midi_from, offers}
use Rattle.promises.proofs.Bytes.{apply-does}

pub offers-append : (t : ℕ) (a l : List ℕ) → offers t (a ++ l) ≡ offers t a ++ offers t l
unfolding offers
offers-append t [] l = refl
offers-append t (b ∷ a) l = ap (λ (r : List Act). Rattle.midi_laws.specs.Model.offer t b ∷ r) (offers-append t a l)

-- an action leaves the rate
pub applied-rate : (b : Board) (a : Action) → hz_of (apply_of b a).chip ≡ hz_of b.chip
unfolding apply_of acted_on
applied-rate b (Key id down) = refl
applied-rate b (Enc enc clicks) = refl
applied-rate b (Adc ch value) = refl
applied-rate b (MidiByte x) = refl
applied-rate b (KeyVel vel) = refl
applied-rate b (Pressure id vel) = refl

-- a state of a step in which a turn can be made
pub record Fit (hz : ℕ) (g : Going) (queue : ℕ) : Type 0 where
  pub sound : Sound g.board
  pub rate : hz_of g.board.chip ≡ hz
  pub lent : queue ≡ queue_bytes
  pub front : g.place ≡ front_place g.board

-- between two states of a step n entries were taken: the MIDI part is offered their bytes; clock and rate stay, and so does what the stages answered
pub record Took (hz : ℕ) (look : ℕ → Entry) (z f : Ran) : Type 0 where
  pub n : ℕ
  pub applied : f.0.applied ≡ z.0.applied + n
  pub does : Does queue_bytes (part_of z.0.board z.1.0) (part_of f.0.board f.1.0) [] (offers (byte_time hz) (midi_from look z.0.place n))
  pub now : now_of f.0.board.chip ≡ now_of z.0.board.chip
  pub rate : hz_of f.0.board.chip ≡ hz_of z.0.board.chip
  pub served : f.0.served ≡ z.0.served
  pub refused : f.0.refused ≡ z.0.refused
  pub gave : f.0.uart_rx ≡ z.0.uart_rx

none : (hz : ℕ) (look : ℕ → Entry) (z : Ran) → Took hz look z z
unfolding midi_from offers
none hz look z =
    record { n = 0; applied = omega arith; does = nothing refl; now = refl; rate = refl; served = refl; refused = refl; gave = refl }

module _ (hz : ℕ) (look : ℕ → Entry) where
  -- one entry taken, and then the rest
  more : (g : Going) (q o o' : List ℕ) (f : Ran) → Fit hz g (length q)
      → Took hz look (taken_by g (look g.place), (apply_in (shorter g) (look g.place).action q, o')) f → Took hz look (g, (q, o)) f
  unfolding midi_from
  more g q o o' f w t =
      let a = (look g.place).action in
      let place : next_place g.board.chip.script ≡ (g.place + 1) % entries = rw w.front in
      let one : Does queue_bytes (part_of g.board q) (part_of (apply_of (shorter g) a) (apply_in (shorter g) a q)) [] (offers (byte_time hz) (midi_of a)) =
      subst (λ (h : ℕ). Does queue_bytes (part_of g.board q) (part_of (apply_of (shorter g) a) (apply_in (shorter g) a q)) [] (offers (byte_time h) (midi_of a))) w.rate
      (apply-does (shorter g) a q (shorter-kept g w.sound) w.lent) in
      let rest = subst (λ (p : ℕ). Does queue_bytes (part_of (apply_of (shorter g) a) (apply_in (shorter g) a q)) (part_of f.0.board f.1.0) [] (offers (byte_time hz) (midi_from look p t.n))) place t.does in
      record {
        n = suc t.n;
        applied = omega (arith, t.applied);
        does = rw (offers-append (byte_time hz) (midi_of a) (midi_from look ((g.place + 1) % entries) t.n)) (and_then one rest);
        now = t.now ∙ applied-now (shorter g) a;
        rate = t.rate ∙ applied-rate (shorter g) a;
        served = t.served;
        refused = t.refused;
        gave = t.gave;
      }

  -- a turn, whether it takes the front or not
  turn-took : (z f : Ran) → Fit hz z.0 (length z.1.0) → Took hz look (turn_of look z) f → Took hz look z f
  unfolding turned_of queue_of out_of
  turn-took z f w = go (later g e)
    where
      g : Going
      g = z.0

      e : Entry
      e = look z.0.place

      go : (t : Bool)
          → Took hz look (cond t (noted_of g e) (taken_by g e), (cond t z.1.0 (apply_in (shorter g) e.action z.1.0), cond t z.1.1 (written_of z.1.1 g.written (record_of e)))) f
          → Took hz look z f
      go true t = record { n = t.n; applied = t.applied; does = t.does; now = t.now; rate = t.rate; served = t.served; refused = t.refused; gave = t.gave }
      go false t = more g z.1.0 z.1.1 (written_of z.1.1 g.written (record_of e)) f w t

  turn-fit : (g : Going) (e : Entry) (q : List ℕ) → Fit hz g (length q) → Fit hz (turned_of g e) (length (queue_of g e q))
  unfolding turned_of queue_of
  turn-fit g e q w = go (later g e)
    where
      go : (t : Bool) → Fit hz (cond t (noted_of g e) (taken_by g e)) (length (cond t q (apply_in (shorter g) e.action q)))
      go true = record { sound = noted-kept g w.sound e; rate = w.rate; lent = w.lent; front = w.front }
      go false =
          record {
            sound = took-kept g w.sound e;
            rate = applied-rate (shorter g) e.action ∙ w.rate;
            lent = applied-length (shorter g) e.action q ∙ w.lent;
            front = ap (λ (s : Script). s.place) (sym (applied-script (shorter g) e.action));
          }

  pub runs-took : (k : ℕ) (z : Ran) → Fit hz z.0 (length z.1.0) → Took hz look z (runs k look z)
  unfolding runs
  runs-took zero z w = none hz look z
  runs-took (suc k) z w = go z.0.on (runs-took k (turn_of look z) (turn-fit z.0 (look z.0.place) z.1.0 w))
    where
      go : (t : Bool) → Took hz look (turn_of look z) (runs k look (turn_of look z)) → Took hz look z (cond t (runs k look (turn_of look z)) z)
      go true rest = turn-took z (runs k look (turn_of look z)) w rest
      go false rest = none hz look z
