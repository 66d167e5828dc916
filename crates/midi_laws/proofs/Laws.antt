-- The laws, of every list of acts with byte times that are not 0, from an empty queue with nothing dropped.
use mathlib.Core.Path.{◌≡◌, refl, ap}
use mathlib.Core.List.{List, []}
use Prim.Native.Nat.{ℕ, ◌<◌}
use native.Mathlib.Omega.{arith}
use lib.ListN.{length, length-append, length-map}
use Rattle.midi_laws.specs.Laws.{out_at, Positive, MidiLaws}
use Rattle.midi_laws.specs.Model.{midi, Act, Hist, run}
use Rattle.midi_laws.proofs.Bounds.{left-first, waits-on, bounds, least}
use Rattle.midi_laws.proofs.Facts.{total, fifo, placed, apart, none-gave}
use Rattle.midi_laws.proofs.Law.{end-due}
use Rattle.midi_laws.proofs.Runs.{Runs, runs}

pub laws : (room c d : ℕ) (l : List Act) → Positive l → MidiLaws l (run room 0 (midi c d [] 0) l)
laws room c d l pos =
    record {
      due = end-due r 0 [] refl tt;
      order = fifo r;
      gave = λ n g.
          let p = placed r n g in
          let e : (out_at h.outs n).step ≡ p.0 = omega (arith, p.1) in
          rw e p.3;
      apart = apart r;
      none = λ i g f. none-gave r i g (λ n k e. f n k (omega arith));
      first = λ n g. left-first r pos n g (in-range n g);
      waits = waits-on r pos;
      least = λ B st n g. least r pos B st n (in-range n g) g;
      bounds = λ B st D n g on. bounds r pos B st n g D on;
      total = omega (arith, total r);
    }
  where
    h : Hist
    h = run room 0 (midi c d [] 0) l

    r : Runs room 0 c d [] 0 l (run room 0 (midi c d [] 0) l)
    r = runs room l 0 c d [] 0

    in-range : (n : ℕ) → n < length h.outs → n < length h.ins
    in-range n g = omega (arith, simp (length-append, length-map) at (ap length (fifo r)))
