-- No byte is dropped without a reason: from what each call does to the MIDI part.
use mathlib.Core.Path.{◌≡◌, refl, sym, ◌∙◌, ap}
use mathlib.Core.Bool.{Bool, true, false, cond}
use mathlib.Core.List.{List, [], ◌∷◌, ◌++◌, append-nil, append_assoc}
use Prim.Native.Nat.{ℕ, suc, ◌+◌, ◌-◌}
use native.Mathlib.Omega.{arith}
use borrow.Author.Tests.{ltb-true, ltb-false}
use lib.Dec.{eqb, leb, ltb}
use lib.ListN.{length, take, length-append}
use lib.Seq.{take-nil}
use Rattle.midi_laws.proofs.Does.{Does, all-good}
use Rattle.midi_laws.specs.Laws.{handed, offered}
use Rattle.midi_laws.specs.Machine.{final}
use Rattle.midi_laws.specs.Model.{Midi, midi, move, serve, Hist, due_after, due_with, serving, offering, one, join, run}
use Rattle.step.specs.Stages.{now_of}
use Rattle.uart.specs.Uart.{queue_bytes, receives}
use Rattle.promises.specs.Dropped.{waiting, leaves, gone, rest, room, Accounted, EveryByte}
use Rattle.promises.specs.Midi.{part, Effect, steps, acts, moves, none, effect_of, offered_in, steps_in, steps_by, offers, byte_time_now, acts_in, acts_of}
use Rattle.promises.specs.Run.{Held, stepped, made, exec}
use Rattle.promises.proofs.Midi.{Good, keeps, does, made-good, effect-offered}

-- ---- bytes offered one after the other: as many enter as there is room for

record Entered (q bs : List ℕ) (x : ℕ) (h : Hist) : Type 0 where
  queue : h.end.queue ≡ q ++ take (room q) bs
  dropped : h.end.dropped ≡ x + (length bs - room q)
  quiet : h.steps ≡ []

offers-enter : (t : ℕ) (bs : List ℕ) (j c d : ℕ) (q : List ℕ) (x : ℕ) → Entered q bs x (run queue_bytes j (midi c d q x) (offers t bs))
unfolding run one offering offers
offers-enter t [] j c d q x = record { queue = rw (take-nil (room q)) (sym (append-nil q)); dropped = omega arith; quiet = refl }
offers-enter t (b ∷ bs) j c d q x = go (offers-enter t bs) (ltb (length q) queue_bytes) refl
  where
    go : ((j c d : ℕ) (q : List ℕ) (x : ℕ) → Entered q bs x (run queue_bytes j (midi c d q x) (offers t bs)))
        → (y : Bool) → ltb (length q) queue_bytes ≡ y
        → Entered q (b ∷ bs) x (join (offering queue_bytes y t b c d q x) (run queue_bytes (j + length (offering queue_bytes y t b c d q x).steps) (offering queue_bytes y t b c d q x).end (offers t bs)))
    go more true e =
        let r = more (j + 0) c (due_with t q c d) (q ++ (b ∷ [])) x in
        let few = ltb-true (length q) queue_bytes e in
        let one_more : room q ≡ suc (room (q ++ (b ∷ []))) = omega (arith, few, length-append q (b ∷ [])) in
        record {
          queue = r.queue ∙ rw one_more (append_assoc q (b ∷ []) (take (room (q ++ (b ∷ []))) bs));
          dropped = r.dropped ∙ rw one_more (omega arith);
          quiet = r.quiet;
        }
    go more false e =
        let r = more (j + 0) c d q (x + 1) in
        let full : room q ≡ 0 = omega (arith, ltb-false (length q) queue_bytes e) in
        record { queue = rw full (rw full at r.queue); dropped = rw full (omega (arith, rw full at r.dropped)); quiet = r.quiet }

-- ---- a step: a byte leaves or none, and bytes are offered

record Went (y on : Bool) (q bs : List ℕ) (x : ℕ) (h : Hist) : Type 0 where
  queue : h.end.queue ≡ rest y q ++ take (room (rest y q)) bs
  gave : handed h.steps ≡ cond on (gone y q) []
  dropped : h.end.dropped ≡ x + cond on 0 (length (gone y q)) + (length bs - room (rest y q))

served : (y on : Bool) (t : ℕ) (bs : List ℕ) (j k c d b : ℕ) (q : List ℕ) (x : ℕ)
    → Went y on (b ∷ q) bs x (join (serving queue_bytes y j t on c d b q x) (run queue_bytes k (serving queue_bytes y j t on c d b q x).end (offers t bs)))
unfolding serving handed
served true true t bs j k c d b q x =
    let r = offers-enter t bs k c (due_after t q c) q (x + 0) in
    record { queue = r.queue; gave = rw r.quiet refl; dropped = r.dropped }
served true false t bs j k c d b q x =
    let r = offers-enter t bs k c (due_after t q c) q (x + 1) in
    record { queue = r.queue; gave = rw r.quiet refl; dropped = r.dropped }
served false true t bs j k c d b q x =
    let r = offers-enter t bs k c d (b ∷ q) x in
    record { queue = r.queue; gave = rw r.quiet refl; dropped = omega (arith, r.dropped) }
served false false t bs j k c d b q x =
    let r = offers-enter t bs k c d (b ∷ q) x in
    record { queue = r.queue; gave = rw r.quiet refl; dropped = omega (arith, r.dropped) }

idle : (y on : Bool) (t : ℕ) (bs : List ℕ) (j k c d x : ℕ) → Went y on [] bs x (join (one queue_bytes j (serve t on) c d [] x) (run queue_bytes k (midi c d [] x) (offers t bs)))
unfolding one handed
idle true true t bs j k c d x = let r = offers-enter t bs k c d [] x in record { queue = r.queue; gave = rw r.quiet refl; dropped = omega (arith, r.dropped) }
idle true false t bs j k c d x = let r = offers-enter t bs k c d [] x in record { queue = r.queue; gave = rw r.quiet refl; dropped = omega (arith, r.dropped) }
idle false true t bs j k c d x = let r = offers-enter t bs k c d [] x in record { queue = r.queue; gave = rw r.quiet refl; dropped = omega (arith, r.dropped) }
idle false false t bs j k c d x = let r = offers-enter t bs k c d [] x in record { queue = r.queue; gave = rw r.quiet refl; dropped = omega (arith, r.dropped) }

step_went : (n t : ℕ) (on : Bool) (bs : List ℕ) (c d : ℕ) (q : List ℕ) (x : ℕ) → Went (leb d (c + n)) on q bs x (run queue_bytes 0 (midi c d q x) (move n ∷ serve t on ∷ offers t bs))
unfolding run one
step_went n t on bs c d [] x = idle (leb d (c + n)) on t bs 0 _ (c + n) d x
step_went n t on bs c d (b ∷ q) x = served (leb d (c + n)) on t bs _ _ (c + n) d b q x

-- ---- a call

no_more : (x n : ℕ) (on : Bool) → x ≡ x + cond on 0 0 + (0 - n)
no_more x n true = omega arith
no_more x n false = omega arith

none-given : (on : Bool) → ◌≡◌ {A = List ℕ} [] (cond on [] [])
none-given true = refl
none-given false = refl

module _ (s s' : Held) where
  abbrev on : Bool
  on = receives s.board.chip.uart

  -- nothing enters, leaves or is dropped
  still : (e : Effect) → (part s').queue ≡ waiting s → (part s').dropped ≡ (part s).dropped → offered_in e s ≡ [] → steps_in e s ≡ [] → leaves e s ≡ false → Accounted e s s'
  unfolding handed
  still e q x o i l =
      record {
        enters = rw (o, l) (q ∙ sym (append-nil (waiting s)) ∙ ap (λ (x : List ℕ). waiting s ++ x) (sym (take-nil (room (waiting s)))));
        gives = rw (i, l) (none-given on);
        drops = rw (o, l) (x ∙ no_more (part s).dropped (room (waiting s)) on);
      }

  accounted : (e : Effect) → offered_in e s ≡ offered (acts_in e s s') → Does queue_bytes (part s) (part s') (steps_in e s) (acts_in e s s') → Accounted e s s'
  unfolding run one offered handed
  accounted (steps cycles out) o d = go (eqb (stepped s cycles out).refused 0) refl
    where
      go : (t : Bool) → eqb (stepped s cycles out).refused 0 ≡ t → Accounted (steps cycles out) s s'
      go true e =
          let f = rw e at d in
          let w = step_went cycles (byte_time_now s) on (offered_in (steps cycles out) s) (now_of s.board.chip) s.board.chip.uart.next (waiting s) s.board.chip.uart.dropped in
          record {
            enters = rw e (ap (λ (m : Midi). m.queue) (f.state 0) ∙ w.queue);
            gives = rw e (ap handed (f.steps 0) ∙ w.gave);
            drops = rw e (ap (λ (m : Midi). m.dropped) (f.state 0) ∙ w.dropped);
          }
      go false e =
          let f = rw e at d in
          still (steps cycles out) (ap (λ (m : Midi). m.queue) (f.state 0)) (ap (λ (m : Midi). m.dropped) (f.state 0)) (rw e at o) (rw e refl) (rw e refl)
  accounted (acts a) o d =
      let w = offers-enter (byte_time_now s) (offered_in (acts a) s) 0 (now_of s.board.chip) s.board.chip.uart.next (waiting s) s.board.chip.uart.dropped in
      record {
        enters = ap (λ (m : Midi). m.queue) (d.state 0) ∙ w.queue;
        gives = none-given on;
        drops = ap (λ (m : Midi). m.dropped) (d.state 0) ∙ w.dropped ∙ more on;
      }
    where
      more : (y : Bool) → s.board.chip.uart.dropped + (length (offered_in (acts a) s) - room (waiting s)) ≡ s.board.chip.uart.dropped + cond y 0 0 + (length (offered_in (acts a) s) - room (waiting s))
      more true = omega arith
      more false = omega arith
  accounted moves o d = still moves (ap (λ (m : Midi). m.queue) (d.state 0)) (ap (λ (m : Midi). m.dropped) (d.state 0)) refl refl refl
  accounted none o d = still none (ap (λ (m : Midi). m.queue) (d.state 0)) (ap (λ (m : Midi). m.dropped) (d.state 0)) refl refl refl

pub every_byte : EveryByte
every_byte hz m e l k =
    let s = final exec (made hz m) l in
    let g : Good hz s = all-good exec queue_bytes part acts_of steps_by (Good hz) (keeps hz) (does hz) l (made hz m) (made-good hz m e) in
    accounted s (exec k s) (effect_of k) (effect-offered (effect_of k) s (exec k s)) (does hz k s g)
