-- The law of departure, by the cases of a run.
use mathlib.Core.Path.{◌≡◌, refl, sym, ◌∙◌}
use mathlib.Core.List.{List, [], ◌∷◌, ◌++◌, map}
use Prim.Native.Nat.{ℕ, zero, suc, ◌+◌, ◌≤◌, ◌<◌}
use native.Mathlib.Nat.{not-suc-le-zero}
use native.Mathlib.Omega.{arith}
use lib.ListN.{length, get_or, get_elem?, length-append}
use lib.Seq.{append_snoc}
use Rattle.midi_laws.specs.Laws.{in_at, Each, Positive, pick_from, dues, due_from}
use Rattle.midi_laws.specs.Model.{Act, In, Out, Hist, in_of, quiet_step, leaving_step}
use Rattle.midi_laws.proofs.Runs.{Runs, done, moved, empty, quiet, leaves, enters, full}
use Rattle.midi_laws.proofs.Facts.{late-out, late-in, in-time, out-time, first, first-skip, first-hit, Behind, Link, pick-ahead, pick-late, link-leave, link-enter, fresh, due-at}

abbrev pub steps_of : List Out → List ℕ
steps_of = map (λ (o : Out). o.step)

-- a byte that is still to come, or to leave, is due later than now
module _ {room j c d x : ℕ} {q : List ℕ} {l : List Act} {h : Hist} (r : Runs room j c d q x l h) (pos : Positive l) where
  entry-late : (n : ℕ) → n < length h.ins → c < (in_at h.ins n).at + (in_at h.ins n).time
  entry-late n g = omega (arith, late-in r n g, in-time (λ t. 0 < t) r pos n g)

  left-late : (n : ℕ) → n < length h.outs → c < get_or (dues h.outs) n 0
  left-late n g = rw (due-at h.outs n) (omega (arith, late-out r n g, out-time (λ t. 0 < t) r pos n g))

  -- a byte that is not the first waits for nothing that is past
  waits-at : (I : List In) → Behind I → (n : ℕ) → n < length (I ++ h.ins) → (o : ℕ) → c < o
      → c < pick_from (in_at (I ++ h.ins) n).ahead ((in_at (I ++ h.ins) n).at + (in_at (I ++ h.ins) n).time) o
  waits-at [] k n g o late = pick-late (in_at h.ins n).ahead _ o c (entry-late n g) late
  waits-at (i ∷ I) k zero g o late = rw (pick-ahead i.ahead (i.at + i.time) o k.0) late
  waits-at (i ∷ I) k (suc n) g o late = waits-at I k.1 n (omega arith) o late

  -- behind the byte that left now, whose successor is due a byte time on
  soon-left : (t : ℕ) → 0 < t → (I : List In) → Behind I → (m : ℕ) → m < length (I ++ h.ins) → m ≤ length h.outs
      → c < due_from (c + t) (I ++ h.ins) h.outs m
  soon-left t z I k zero g f = waits-at I k zero g (c + t) (omega arith)
  soon-left t z I k (suc m) g f = waits-at I k (suc m) g (get_or (dues h.outs) m 0) (left-late m f)

  -- behind the first of the queue
  soon-behind : (p : ℕ) (i : In) (I : List In) → Behind I → (m : ℕ) → m < length (I ++ h.ins) → m < length h.outs
      → c < due_from p (i ∷ I ++ h.ins) h.outs (suc m)
  soon-behind p i I k m g f = waits-at I k m g (get_or (dues h.outs) m 0) (left-late m f)

-- in an empty queue
soon-empty : {room j c d x : ℕ} {l : List Act} {h : Hist} → Runs room j c d [] x l h → Positive l
    → (p n : ℕ) → n < length h.ins → n ≤ length h.outs → c < due_from p h.ins h.outs n
soon-empty r pos p zero g f = rw (fresh r) (entry-late r pos 0 g)
soon-empty {h = h} r pos p (suc m) g f = waits-at r pos [] tt (suc m) g (get_or (dues h.outs) m 0) (left-late r pos m f)

-- A byte whose due time is known, since none stood ahead of it or the one ahead left, leaves in the first accepted step that
-- ends at or after its due time: the equation says in which step it left, and that it has not left if there is no such step.
pub law : {room j c d x : ℕ} {q : List ℕ} {l : List Act} {h : Hist} → Runs room j c d q x l h → Positive l
    → (p : ℕ) (I : List In) → length I ≡ length q → Link d p I
    → (n : ℕ) → n < length (I ++ h.ins) → n ≤ length h.outs
    → get_elem? (steps_of h.outs) n ≡ first j (due_from p (I ++ h.ins) h.outs n) h.steps
unfolding first Each
law done b p I e k zero g f = refl
law done b p I e k (suc n) g f = absurd (not-suc-le-zero f)
law (moved r) b p I e k n g f = law r b p I e k n g f
law (empty {j = j} {c = c} {h = h} r) b p [] e k n g f =
    law r b.1 p [] e k n g f ∙ sym (first-skip j (due_from p h.ins h.outs n) (quiet_step c) h.steps (soon-empty r b.1 p n g f))
law (empty r) b p (i ∷ I) e k n g f = absurd (omega arith)
law (quiet t r) b p [] e k n g f = absurd (omega arith)
law (quiet {j = j} {c = c} {h = h} t r) b p (i ∷ I) e k zero g f =
    law r b.1 p (i ∷ I) e k zero g f ∙ sym (first-skip j (due_from p (i ∷ I ++ h.ins) h.outs 0) (quiet_step c) h.steps (omega (arith, t, k.0)))
law (quiet {j = j} {c = c} {h = h} t r) b p (i ∷ I) e k (suc n) g f =
    law r b.1 p (i ∷ I) e k (suc n) g f
    ∙ sym (first-skip j (due_from p (i ∷ I ++ h.ins) h.outs (suc n)) (quiet_step c) h.steps (soon-behind r b.1 p i I k.1 n (omega arith) f))
law (leaves t r) b p [] e k n g f = absurd (omega arith)
law (leaves {j = j} {c = c} {b = y} {on = on} {h = h} t r) b p (i ∷ I) e k zero g f =
    sym (first-hit j (due_from p (i ∷ I ++ h.ins) h.outs 0) (leaving_step c on y) h.steps (omega (arith, t, k.0)))
law (leaves {j = j} {c = c} {b = y} {t = s} {q = q} {on = on} {h = h} t r) b p (i ∷ I) e k (suc n) g f =
    law r b.1 (c + s) I (omega arith) (link-leave s c I q (omega arith) k.1) n (omega arith) (omega arith)
    ∙ sym (first-skip j (due_from (c + s) (I ++ h.ins) h.outs n) (leaving_step c on y) h.steps (soon-left r b.1 s b.0 I k.1 n (omega arith) (omega arith)))
law (enters {c = c} {d = d} {b = a} {t = s} {q = q} {h = h} t r) b p I e k n g f =
    let i : In = in_of c s (length q) a in
    rw (append_snoc I i h.ins) at
    (law r b.1 p (I ++ (i ∷ [])) (simp length-append (omega arith)) (link-enter s c d p a I q e k) n (rw append_snoc g) f)
law (full t r) b p I e k n g f = law r b.1 p I e k n g f

-- the deadline at the end is the due time of the first byte that waits
pub end-due : {room j c d x : ℕ} {q : List ℕ} {l : List Act} {h : Hist} → Runs room j c d q x l h
    → (p : ℕ) (I : List In) → length I ≡ length q → Link d p I
    → length h.outs < length (I ++ h.ins) → h.end.due ≡ due_from p (I ++ h.ins) h.outs (length h.outs)
end-due done p [] e k g = absurd (not-suc-le-zero g)
end-due done p (i ∷ I) e k g = k.0
end-due (moved r) p I e k g = end-due r p I e k g
end-due (empty r) p I e k g = end-due r p I e k g
end-due (quiet t r) p I e k g = end-due r p I e k g
end-due (leaves t r) p [] e k g = absurd (omega arith)
end-due (leaves {c = c} {t = s} {q = q} t r) p (i ∷ I) e k g = end-due r (c + s) I (omega arith) (link-leave s c I q (omega arith) k.1) (omega arith)
end-due (enters {c = c} {d = d} {b = a} {t = s} {q = q} {h = h} t r) p I e k g =
    let i : In = in_of c s (length q) a in
    rw (append_snoc I i h.ins) at (end-due r p (I ++ (i ∷ [])) (simp length-append (omega arith)) (link-enter s c d p a I q e k) (rw append_snoc g))
end-due (full t r) p I e k g = end-due r p I e k g
