-- How long a byte waits.
use mathlib.Core.Path.{◌≡◌, refl, ap, sym, subst, ◌∙◌}
use mathlib.Core.Bool.{Bool, true, false}
use mathlib.Core.List.{List, [], ◌∷◌, ◌++◌}
use mathlib.Core.Option.{Option, some, none, none-ne-some, some-injective}
use Prim.Native.Nat.{ℕ, zero, suc, ◌+◌, ◌*◌, ◌≤◌, ◌<◌, zero-le}
use native.Mathlib.Nat.{add-zero, add-suc, suc-add, not-suc-le-zero}
use native.Mathlib.Omega.{arith}
use lib.Dec.{leb}
use lib.ListN.{length, get_elem?, length-append}
use lib.Seq.{append_snoc, get_or-append_seam}
use borrow.Author.Tests.{leb-true, leb-false}
use Rattle.midi_laws.specs.Laws.{no_in, in_at, out_at, step_at, Each, Positive, Steady, due_from, InFirst, NoneYet, OnTime, Bound}
use Rattle.midi_laws.specs.Model.{Act, In, Out, Step, Hist, due_after, due_with, in_of, out_of}
use Rattle.midi_laws.proofs.Runs.{Runs, done, moved, empty, quiet, leaves, enters, full}
use Rattle.midi_laws.proofs.Facts.{late-out, out-time, sorted, placed, Found, first, first_some, first-none, Link, pick-ahead, link-leave, link-enter, behind-at, due-at}
use Rattle.midi_laws.proofs.Law.{law, steps_of}

-- the deadline of a queue that is not empty is at most a byte time on
abbrev Soon : ℕ → ℕ → ℕ → List In → Type 0
Soon B c d [] = Unit {0}
Soon B c d (i ∷ I) = d ≤ c + B

soon-move : (B c d n : ℕ) (I : List In) → Soon B c d I → Soon B (c + n) d I
soon-move B c d n [] k = tt
soon-move B c d n (i ∷ I) k = omega arith

soon-leave : (B t c : ℕ) (I : List In) (q : List ℕ) → length I ≡ length q → t ≡ B → Soon B c (due_after t q c) I
soon-leave B t c [] q e s = tt
soon-leave B t c (i ∷ I) [] e s = absurd (omega arith)
soon-leave B t c (i ∷ I) (b ∷ q) e s = omega arith

soon-enter : (B t c d : ℕ) (i : In) (I : List In) (q : List ℕ) → length I ≡ length q → t ≡ B → Soon B c d I → Soon B c (due_with t q c d) (I ++ (i ∷ []))
soon-enter B t c d i [] [] e s k = omega arith
soon-enter B t c d i [] (a ∷ q) e s k = absurd (omega arith)
soon-enter B t c d i (j ∷ I) [] e s k = absurd (omega arith)
soon-enter B t c d i (j ∷ I) (a ∷ q) e s k = k

-- where byte n stood when it entered: behind the byte `base`, the first in the queue
pub record Stands (B p : ℕ) (is : List In) (os : List Out) (n : ℕ) : Type 0 where
  pub base : ℕ
  pub here : n ≡ base + (in_at is n).ahead
  pub gone : base ≤ length os
  pub behind : (i : ℕ) → i < (in_at is n).ahead → 0 < (in_at is (suc (base + i))).ahead
  pub soon : due_from p is os base ≤ (in_at is n).at + B
  pub since : base < length os → (in_at is n).at ≤ (out_at os base).at

front-due : (B c d p : ℕ) (I r : List In) (os : List Out) → 0 < length I → Link d p I → Soon B c d I → due_from p (I ++ r) os 0 ≤ c + B
front-due B c d p [] r os g k s = absurd (not-suc-le-zero g)
front-due B c d p (i ∷ I) r os g k s = omega (arith, k.0)

later-ahead : (d p : ℕ) (I r : List In) → Link d p I → (m : ℕ) → suc m < length I → 0 < (in_at (I ++ r) (suc m)).ahead
later-ahead d p [] r k m g = absurd (not-suc-le-zero g)
later-ahead d p (i ∷ I) r k m g = behind-at I r k.1 m (omega arith)

enter-here : (B t c d p a : ℕ) (I r : List In) (q : List ℕ) (os : List Out) → length I ≡ length q → t ≡ B → Link d p I → Soon B c d I
    → (0 < length os → c ≤ (out_at os 0).at)
    → Stands B p (I ++ (in_of c t (length q) a ∷ r)) os (length I)
enter-here B t c d p a I r q os e s k so late =
    let i : In = in_of c t (length q) a in
    let y : in_at (I ++ (i ∷ r)) (length I) ≡ i = get_or-append_seam I i r no_in in
    let d' : ℕ = due_with t q c d in
    let k' : Link d' p (I ++ (i ∷ [])) = link-enter t c d p a I q e k in
    let s' : Soon B c d' (I ++ (i ∷ [])) = soon-enter B t c d i I q e s so in
    let z : length (I ++ (i ∷ [])) ≡ length I + 1 = length-append I (i ∷ []) in
    record {
      base = 0;
      here = rw y (omega arith);
      gone = zero-le;
      behind = λ m g.
          let g' : m < length q = rw y at g in
          rw (append_snoc I i r) at (later-ahead d' p (I ++ (i ∷ [])) r k' (0 + m) (omega arith));
      soon = rw y (rw (append_snoc I i r) at (front-due B c d' p (I ++ (i ∷ [])) r os (omega arith) k' s'));
      since = rw y late;
    }

shift : (B p c t j b : ℕ) (on : Bool) (i : In) (is : List In) (os : List Out) (n : ℕ) → Stands B (c + t) is os n
    → Stands B p (i ∷ is) (out_of c t j on b ∷ os) (suc n)
shift B p c t j b on i is os n w =
    record {
      base = suc w.base;
      here = omega (arith, w.here);
      gone = omega (arith, w.gone);
      behind = λ m g. rw (suc-add w.base m) (w.behind m g);
      soon = w.soon;
      since = λ z. w.since (omega arith);
    }

stands : {room j c d x : ℕ} {q : List ℕ} {l : List Act} {h : Hist} (B : ℕ) → Runs room j c d q x l h → Steady B l
    → (p : ℕ) (I : List In) → length I ≡ length q → Link d p I → Soon B c d I
    → (n : ℕ) → length I ≤ n → n < length (I ++ h.ins) → Stands B p (I ++ h.ins) h.outs n
unfolding Each
stands B done st p I e k s n f g = absurd (omega (arith, length-append I [], g))
stands B (moved {c = c} {d = d} {n = m} r) st p I e k s n f g = stands B r st p I e k (soon-move B c d m I s) n f g
stands B (empty r) st p I e k s n f g = stands B r st.1 p I e k s n f g
stands B (quiet t r) st p I e k s n f g = stands B r st.1 p I e k s n f g
stands B (leaves t r) st p [] e k s n f g = absurd (omega arith)
stands B (leaves t r) st p (i ∷ I) e k s zero f g = absurd (not-suc-le-zero f)
stands B (leaves {j = j} {c = c} {b = b} {t = u} {q = q} {on = on} {h = h} t r) st p (i ∷ I) e k s (suc n) f g =
    shift B p c u j b on i (I ++ h.ins) h.outs n
    (stands B r st.1 (c + u) I (omega arith) (link-leave u c I q (omega arith) k.1) (soon-leave B u c I q (omega arith) st.0) n (omega arith) (omega arith))
stands B (enters {c = c} {d = d} {b = a} {t = u} {q = q} {h = h} t r) st p I e k s n f g =
    go (leb n (length I)) refl
    (λ z. stands B r st.1 p (I ++ (i ∷ [])) (simp length-append (omega arith)) (link-enter u c d p a I q e k) (soon-enter B u c d i I q e st.0 s) n z (rw append_snoc g))
  where
    i : In
    i = in_of c u (length q) a

    go : (y : Bool) → leb n (length I) ≡ y → (length (I ++ (i ∷ [])) ≤ n → Stands B p (I ++ (i ∷ []) ++ h.ins) h.outs n)
        → Stands B p (I ++ (i ∷ h.ins)) h.outs n
    go true z rest =
        let w : n ≡ length I = omega (arith, leb-true n (length I) z) in
        rw w (enter-here B u c d p a I h.ins q h.outs e st.0 k s (late-out r 0))
    go false z rest = rw append_snoc at (rest (simp length-append (omega (arith, leb-false n (length I) z))))
stands B (full t r) st p I e k s n f g = stands B r st.1 p I e k s n f g

-- byte n left, at or after its due time, and at most D later
pub record Left (D d : ℕ) (os : List Out) (n : ℕ) : Type 0 where
  pub gone : n < length os
  pub reached : d ≤ (out_at os n).at
  pub near : (out_at os n).at ≤ d + D

step-some : (os : List Out) (n i : ℕ) → get_elem? (steps_of os) n ≡ some i → (n < length os) × ((out_at os n).step ≡ i)
step-some [] n i e = absurd (none-ne-some i e)
step-some (o ∷ os) zero i e = (omega arith, some-injective _ i e)
step-some (o ∷ os) (suc n) i e = let w = step-some os n i e in (omega arith, w.1)

some-step : (os : List Out) (n : ℕ) → n < length os → get_elem? (steps_of os) n ≡ some (out_at os n).step
some-step [] n g = absurd (not-suc-le-zero g)
some-step (o ∷ os) zero g = refl
some-step (o ∷ os) (suc n) g = some-step os n (omega arith)

no_step_lem : (os : List Out) (n : ℕ) → length os ≤ n → get_elem? (steps_of os) n ≡ none
no_step_lem [] n g = refl
no_step_lem (o ∷ os) zero g = absurd (not-suc-le-zero g)
no_step_lem (o ∷ os) (suc n) g = no_step_lem os n (omega arith)

module _ {room c d x : ℕ} {l : List Act} {h : Hist} (r : Runs room 0 c d [] x l h) (pos : Positive l) where
  abbrev due : ℕ → ℕ
  due n = due_from 0 h.ins h.outs n

  -- a byte that left: its step is the first that ends at or after its due time
  pub left-first : (n : ℕ) → n < length h.outs → n < length h.ins → InFirst h.steps (due n) (out_at h.outs n).step
  left-first n g f =
      let e : first 0 (due n) h.steps ≡ some (out_at h.outs n).step = sym (law r pos 0 [] refl tt n f (omega arith)) ∙ some-step h.outs n g in
      let v = first_some h.steps 0 (due n) (out_at h.outs n).step e in
      let z : (out_at h.outs n).step ≡ v.place = omega (arith, v.counted) in
      rw z (record { made = v.inside; reached = v.reached; before = v.before })

  -- the first that waits: no step ended at or after its due time
  pub waits-on : (n : ℕ) → n ≡ length h.outs → n < length h.ins → NoneYet h.steps (due n)
  waits-on n g f = first-none h.steps 0 (due n) (sym (law r pos 0 [] refl tt n f (omega arith)) ∙ no_step_lem h.outs n (omega arith))

  at-end : (n : ℕ) → n < length h.outs → (step_at h.steps (out_at h.outs n).step).at ≡ (out_at h.outs n).at
  at-end n g =
      let p = placed r n g in
      let e : (out_at h.outs n).step ≡ p.0 = omega (arith, p.1) in
      rw e (ap (λ (s : Step). s.at) p.3)

  departs : (D n : ℕ) → n < length h.ins → n ≤ length h.outs → OnTime D (due n) h.steps → Left D (due n) h.outs n
  departs D n g f t = go (first 0 (due n) h.steps) refl
    where
      go : (o : Option ℕ) → first 0 (due n) h.steps ≡ o → Left D (due n) h.outs n
      go none e = absurd (omega (arith, first-none h.steps 0 (due n) e t.step t.made, t.reached))
      go (some i) e = at-step (leb w.place t.step) refl
        where
          w : Found 0 (due n) h.steps i
          w = first_some h.steps 0 (due n) i e

          s : (n < length h.outs) × ((out_at h.outs n).step ≡ i)
          s = step-some h.outs n i (law r pos 0 [] refl tt n g f ∙ e)

          here : (step_at h.steps w.place).at ≡ (out_at h.outs n).at
          here =
              let z : (out_at h.outs n).step ≡ w.place = omega (arith, s.1, w.counted) in
              rw z at (at-end n s.0)

          at-step : (b : Bool) → leb w.place t.step ≡ b → Left D (due n) h.outs n
          at-step true b =
              let v = sorted r w.place t.step (leb-true w.place t.step b) t.made in
              record { gone = s.0; reached = omega (arith, w.reached, here); near = omega (arith, here, v, t.near) }
          at-step false b = absurd (omega (arith, w.before t.step (leb-false w.place t.step b), t.reached))

  -- a byte that left was due
  not-early : (n : ℕ) → n < length h.ins → n < length h.outs → due n ≤ (out_at h.outs n).at
  not-early n g f = let w = left-first n f g in omega (arith, w.reached, at-end n f)

  module _ (B : ℕ) (st : Steady B l) where
    -- a byte with one ahead is due a byte time after that one left
    due-behind : (m : ℕ) → m < length h.outs → 0 < (in_at h.ins (suc m)).ahead → due (suc m) ≡ (out_at h.outs m).at + B
    due-behind m g a =
        let e : (out_at h.outs m).time ≡ B = out-time (λ t. t ≡ B) r st m g in
        pick-ahead _ _ _ a ∙ due-at h.outs m ∙ ap (λ (t : ℕ). (out_at h.outs m).at + t) e

    module _ (n : ℕ) (g : n < length h.ins) where
      w : Stands B 0 h.ins h.outs n
      w = stands B r st 0 [] refl tt tt n zero-le g

      abbrev T : ℕ
      T = (in_at h.ins n).at

      abbrev k : ℕ
      k = (in_at h.ins n).ahead

      pub bounds : (D : ℕ) → ((m : ℕ) → m ≤ n → n ≤ m + (in_at h.ins n).ahead → OnTime D (due m) h.steps) → Bound B D h n
      bounds D on =
          let v : Within k n = subst (Within k) (sym w.here) (chain k (omega arith)) in
          record { gone = v.0; least = v.1; most = v.2 }
        where
          Within : ℕ → ℕ → Type 0
          Within i m = (m < length h.outs) × (T + i * B ≤ (out_at h.outs m).at) × ((out_at h.outs m).at ≤ T + suc i * (B + D))

          chain : (i : ℕ) → i ≤ k → Within i (w.base + i)
          chain zero z =
              let v = departs D w.base (omega (arith, w.here)) w.gone (on w.base (omega (arith, w.here)) (omega (arith, w.here))) in
              let u = w.since v.gone in
              rw (add-zero w.base) (v.gone, omega arith, omega (arith, v.near, w.soon))
          chain (suc i) z =
              let u = chain i (omega arith) in
              let m : ℕ = w.base + i in
              let p = due-behind m u.0 (w.behind i z) in
              let v = departs D (suc m) (omega (arith, w.here)) u.0 (on (suc m) (omega (arith, w.here)) (omega (arith, w.here))) in
              rw (add-suc w.base i) (v.gone, omega (arith, u.1, v.reached, p), omega (arith, u.2, v.near, p))

      pub least : n < length h.outs → T + k * B ≤ (out_at h.outs n).at
      least f = subst (λ (m : ℕ). T + k * B ≤ (out_at h.outs m).at) (sym w.here) (chain k (omega arith))
        where
          chain : (i : ℕ) → i ≤ k → T + i * B ≤ (out_at h.outs (w.base + i)).at
          chain zero z = rw (add-zero w.base) (omega (arith, w.since (omega (arith, w.here))))
          chain (suc i) z =
              let u = chain i (omega arith) in
              let m : ℕ = w.base + i in
              let p = due-behind m (omega (arith, w.here)) (w.behind i z) in
              let v = not-early (suc m) (omega (arith, w.here)) (omega (arith, w.here)) in
              rw (add-suc w.base i) (omega (arith, u, v, p))
