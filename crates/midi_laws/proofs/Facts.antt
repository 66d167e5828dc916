-- Facts on histories, each by the cases of a run.
use mathlib.Core.Path.{◌≡◌, refl, ap, sym, ◌∙◌}
use mathlib.Core.Bool.{Bool, true, false}
use mathlib.Core.List.{List, [], ◌∷◌, ◌++◌, append-nil}
use mathlib.Core.Option.{Option, some, none, none-ne-some, some-ne-none, some-injective}
use Prim.Native.Nat.{ℕ, zero, suc, ◌+◌, ◌≤◌, ◌<◌}
use native.Mathlib.Nat.{not-suc-le-zero}
use native.Mathlib.Omega.{arith}
use lib.Dec.{leb}
use lib.ListN.{length, get_or, length-append}
use lib.Seq.{append_snoc}
use borrow.Author.Tests.{leb-true, leb-false}
use Rattle.midi_laws.specs.Laws.{in_at, out_at, step_at, in_bytes, out_bytes, handed, offered, Each, pick_from, dues}
use Rattle.midi_laws.specs.Model.{Act, In, Out, Step, Hist, lost, given, due_after, due_with, in_of}
use Rattle.midi_laws.proofs.Runs.{Runs, done, moved, empty, quiet, leaves, enters, full}

-- ---- what is offered is handed out, dropped or waiting

given-count : (on : Bool) (b : ℕ) (l : List ℕ) → length (given on b ++ l) + lost on ≡ suc (length l)
given-count true b l = omega arith
given-count false b l = omega arith

pub total : {room j c d x : ℕ} {q : List ℕ} {l : List Act} {h : Hist} → Runs room j c d q x l h
    → length (offered l) + length q + x ≡ length (handed h.steps) + h.end.dropped + length h.end.queue
unfolding offered handed
total done = omega arith
total (moved r) = total r
total (empty r) = total r
total (quiet e r) = total r
total (leaves {b = b} {on = on} {h = h} e r) = omega (arith, total r, given-count on b (handed h.steps))
total (enters {b = b} {q = q} e r) = omega (arith, total r, length-append q (b ∷ []))
total (full e r) = omega (arith, total r)

-- ---- what entered is what left and what waits, in order

pub fifo : {room j c d x : ℕ} {q : List ℕ} {l : List Act} {h : Hist} → Runs room j c d q x l h
    → q ++ in_bytes h.ins ≡ out_bytes h.outs ++ h.end.queue
fifo (done {q = q}) = append-nil q
fifo (moved r) = fifo r
fifo (empty r) = fifo r
fifo (quiet e r) = fifo r
fifo (leaves {b = b} e r) = ap (λ (l : List ℕ). b ∷ l) (fifo r)
fifo (enters {b = b} {q = q} {h = h} e r) = rw append_snoc at (fifo r)
fifo (full e r) = fifo r

-- ---- nothing in a history is earlier than its start

pub late-out : {room j c d x : ℕ} {q : List ℕ} {l : List Act} {h : Hist} → Runs room j c d q x l h
    → (n : ℕ) → n < length h.outs → c ≤ (out_at h.outs n).at
late-out done n g = absurd (not-suc-le-zero g)
late-out (moved r) n g = omega (arith, late-out r n g)
late-out (empty r) n g = late-out r n g
late-out (quiet e r) n g = late-out r n g
late-out (leaves e r) zero g = omega arith
late-out (leaves e r) (suc n) g = late-out r n (omega arith)
late-out (enters e r) n g = late-out r n g
late-out (full e r) n g = late-out r n g

pub late-in : {room j c d x : ℕ} {q : List ℕ} {l : List Act} {h : Hist} → Runs room j c d q x l h
    → (n : ℕ) → n < length h.ins → c ≤ (in_at h.ins n).at
late-in done n g = absurd (not-suc-le-zero g)
late-in (moved r) n g = omega (arith, late-in r n g)
late-in (empty r) n g = late-in r n g
late-in (quiet e r) n g = late-in r n g
late-in (leaves e r) n g = late-in r n g
late-in (enters e r) zero g = omega arith
late-in (enters e r) (suc n) g = late-in r n (omega arith)
late-in (full e r) n g = late-in r n g

pub late-end : {room j c d x : ℕ} {q : List ℕ} {l : List Act} {h : Hist} → Runs room j c d q x l h
    → (n : ℕ) → n < length h.steps → c ≤ (step_at h.steps n).at
late-end done n g = absurd (not-suc-le-zero g)
late-end (moved r) n g = omega (arith, late-end r n g)
late-end (empty r) zero g = omega arith
late-end (empty r) (suc n) g = late-end r n (omega arith)
late-end (quiet e r) zero g = omega arith
late-end (quiet e r) (suc n) g = late-end r n (omega arith)
late-end (leaves e r) zero g = omega arith
late-end (leaves e r) (suc n) g = late-end r n (omega arith)
late-end (enters e r) n g = late-end r n g
late-end (full e r) n g = late-end r n g

-- ---- what holds of every byte time holds of those of the bytes

pub in-time : {room j c d x : ℕ} {q : List ℕ} {l : List Act} {h : Hist} (P : ℕ → Type 0) → Runs room j c d q x l h → Each P l
    → (n : ℕ) → n < length h.ins → P (in_at h.ins n).time
unfolding Each
in-time P done k n g = absurd (not-suc-le-zero g)
in-time P (moved r) k n g = in-time P r k n g
in-time P (empty r) k n g = in-time P r k.1 n g
in-time P (quiet e r) k n g = in-time P r k.1 n g
in-time P (leaves e r) k n g = in-time P r k.1 n g
in-time P (enters e r) k zero g = k.0
in-time P (enters e r) k (suc n) g = in-time P r k.1 n (omega arith)
in-time P (full e r) k n g = in-time P r k.1 n g

pub out-time : {room j c d x : ℕ} {q : List ℕ} {l : List Act} {h : Hist} (P : ℕ → Type 0) → Runs room j c d q x l h → Each P l
    → (n : ℕ) → n < length h.outs → P (out_at h.outs n).time
unfolding Each
out-time P done k n g = absurd (not-suc-le-zero g)
out-time P (moved r) k n g = out-time P r k n g
out-time P (empty r) k n g = out-time P r k.1 n g
out-time P (quiet e r) k n g = out-time P r k.1 n g
out-time P (leaves e r) k zero g = k.0
out-time P (leaves e r) k (suc n) g = out-time P r k.1 n (omega arith)
out-time P (enters e r) k n g = out-time P r k.1 n g
out-time P (full e r) k n g = out-time P r k.1 n g

-- ---- steps

-- the ends of the steps never go back
after_first : (s : Step) (es : List Step) → ((n : ℕ) → n < length es → s.at ≤ (step_at es n).at)
    → ((a b : ℕ) → a ≤ b → b < length es → (step_at es a).at ≤ (step_at es b).at) → (a b : ℕ) → a ≤ b → b < length (s ∷ es) → (step_at (s ∷ es) a).at ≤ (step_at (s ∷ es) b).at
after_first s es f g zero zero h k = omega arith
after_first s es f g zero (suc b) h k = f b (omega arith)
after_first s es f g (suc a) zero h k = absurd (not-suc-le-zero h)
after_first s es f g (suc a) (suc b) h k = g a b (omega arith) (omega arith)

pub sorted : {room j c d x : ℕ} {q : List ℕ} {l : List Act} {h : Hist} → Runs room j c d q x l h
    → (a b : ℕ) → a ≤ b → b < length h.steps → (step_at h.steps a).at ≤ (step_at h.steps b).at
sorted done a b e g = absurd (not-suc-le-zero g)
sorted (moved r) a b e g = sorted r a b e g
sorted (empty {c = c} {h = h} r) a b e g = after_first _ h.steps (late-end r) (λ a b e g. sorted r a b e g) a b e g
sorted (quiet {c = c} {h = h} _ r) a b e g = after_first _ h.steps (late-end r) (λ a b e g. sorted r a b e g) a b e g
sorted (leaves {c = c} {h = h} _ r) a b e g = after_first _ h.steps (late-end r) (λ a b e g. sorted r a b e g) a b e g
sorted (enters _ r) a b e g = sorted r a b e g
sorted (full _ r) a b e g = sorted r a b e g

-- the step in which byte n left: its end is when the byte left, and it handed the byte out, or none
abbrev pub left_in : Out → Step
left_in o = record { at = o.at; gave = given o.handed o.byte }

pub placed : {room j c d x : ℕ} {q : List ℕ} {l : List Act} {h : Hist} → Runs room j c d q x l h
    → (n : ℕ) → n < length h.outs
    → (i : ℕ) × ((out_at h.outs n).step ≡ j + i) × (i < length h.steps) × (step_at h.steps i ≡ left_in (out_at h.outs n))
placed done n g = absurd (not-suc-le-zero g)
placed (moved r) n g = placed r n g
placed (empty r) n g = let p = placed r n g in (suc p.0, omega (arith, p.1), omega (arith, p.2), p.3)
placed (quiet e r) n g = let p = placed r n g in (suc p.0, omega (arith, p.1), omega (arith, p.2), p.3)
placed (leaves e r) zero g = (0, omega arith, omega arith, refl)
placed (leaves e r) (suc n) g = let p = placed r n (omega arith) in (suc p.0, omega (arith, p.1), omega (arith, p.2), p.3)
placed (enters e r) n g = placed r n g
placed (full e r) n g = placed r n g

-- no two bytes leave in one step
pub apart : {room j c d x : ℕ} {q : List ℕ} {l : List Act} {h : Hist} → Runs room j c d q x l h
    → (m n : ℕ) → m < n → n < length h.outs → (out_at h.outs m).step < (out_at h.outs n).step
apart done m n e g = absurd (not-suc-le-zero g)
apart (moved r) m n e g = apart r m n e g
apart (empty r) m n e g = apart r m n e g
apart (quiet _ r) m n e g = apart r m n e g
apart (leaves _ r) m zero e g = absurd (not-suc-le-zero e)
apart (leaves _ r) zero (suc n) e g = let p = placed r n (omega arith) in omega (arith, p.1)
apart (leaves _ r) (suc m) (suc n) e g = apart r m n (omega arith) (omega arith)
apart (enters _ r) m n e g = apart r m n e g
apart (full _ r) m n e g = apart r m n e g

-- in step i no byte left
abbrev NoneLeft : List Out → ℕ → Type 0
NoneLeft os i = (n : ℕ) → n < length os → (out_at os n).step ≡ i → ⊥

-- a step in which none left hands out none
pub none-gave : {room j c d x : ℕ} {q : List ℕ} {l : List Act} {h : Hist} → Runs room j c d q x l h
    → (i : ℕ) → i < length h.steps → NoneLeft h.outs (j + i) → (step_at h.steps i).gave ≡ []
none-gave done i g f = absurd (not-suc-le-zero g)
none-gave (moved r) i g f = none-gave r i g f
none-gave (empty r) zero g f = refl
none-gave (empty r) (suc i) g f = none-gave r i (omega arith) (λ n k e. f n k (omega arith))
none-gave (quiet _ r) zero g f = refl
none-gave (quiet _ r) (suc i) g f = none-gave r i (omega arith) (λ n k e. f n k (omega arith))
none-gave (leaves _ r) zero g f = absurd (f 0 (omega arith) (omega arith))
none-gave (leaves _ r) (suc i) g f = none-gave r i (omega arith) (λ n k e. f (suc n) (omega arith) (omega arith))
none-gave (enters _ r) i g f = none-gave r i g f
none-gave (full _ r) i g f = none-gave r i g f

-- ---- the first step that ends at or after a time, counted from j

unfoldable pub first : ℕ → ℕ → List Step → Option ℕ
first j d [] = none
first j d (s ∷ es) = elim (leb d s.at) [ true ↦ some j | false ↦ first (suc j) d es ]

pub first-skip : (j d : ℕ) (s : Step) (es : List Step) → s.at < d → first j d (s ∷ es) ≡ first (suc j) d es
unfolding first
first-skip j d s es h = go (leb d s.at) refl
  where
    go : (t : Bool) → leb d s.at ≡ t → first j d (s ∷ es) ≡ first (suc j) d es
    go true p = absurd (omega (arith, leb-true d s.at p))
    go false p = rw (p, first)

pub first-hit : (j d : ℕ) (s : Step) (es : List Step) → d ≤ s.at → first j d (s ∷ es) ≡ some j
unfolding first
first-hit j d s es h = go (leb d s.at) refl
  where
    go : (t : Bool) → leb d s.at ≡ t → first j d (s ∷ es) ≡ some j
    go true p = rw (p, first)
    go false p = absurd (omega (arith, leb-false d s.at p))

-- what `first` answers, in full
pub record Found (j d : ℕ) (es : List Step) (i : ℕ) : Type 0 where
  pub place : ℕ
  pub counted : i ≡ j + place
  pub inside : place < length es
  pub reached : d ≤ (step_at es place).at
  pub before : (m : ℕ) → m < place → (step_at es m).at < d

pub first_some : (es : List Step) (j d i : ℕ) → first j d es ≡ some i → Found j d es i
unfolding first
first_some [] j d i p = absurd (none-ne-some i p)
first_some (s ∷ es) j d i p = go (leb d s.at) refl (first_some es (suc j) d i)
  where
    earlier : (k : ℕ) → s.at < d → ((m : ℕ) → m < k → (step_at es m).at < d) → (m : ℕ) → m < suc k → (step_at (s ∷ es) m).at < d
    earlier k h f zero g = h
    earlier k h f (suc m) g = f m (omega arith)

    go : (t : Bool) → leb d s.at ≡ t → (first (suc j) d es ≡ some i → Found (suc j) d es i) → Found j d (s ∷ es) i
    go true q f =
        let w : some j ≡ some i = sym (first-hit j d s es (leb-true d s.at q)) ∙ p in
        let v : j ≡ i = some-injective j i w in
        record { place = 0; counted = omega arith; inside = omega arith; reached = leb-true d s.at q; before = λ m g. absurd (not-suc-le-zero g) }
    go false q f =
        let w = f (sym (first-skip j d s es (leb-false d s.at q)) ∙ p) in
        record {
          place = suc w.place;
          counted = omega (arith, w.counted);
          inside = omega (arith, w.inside);
          reached = w.reached;
          before = earlier w.place (leb-false d s.at q) w.before;
        }

pub first-none : (es : List Step) (j d : ℕ) → first j d es ≡ none → (m : ℕ) → m < length es → (step_at es m).at < d
unfolding first
first-none [] j d p m g = absurd (not-suc-le-zero g)
first-none (s ∷ es) j d p m g = go (leb d s.at) refl (first-none es (suc j) d) m g
  where
    go : (t : Bool) → leb d s.at ≡ t → (first (suc j) d es ≡ none → (m : ℕ) → m < length es → (step_at es m).at < d)
        → (m : ℕ) → m < length (s ∷ es) → (step_at (s ∷ es) m).at < d
    go true q f m g = absurd (some-ne-none j (sym (first-hit j d s es (leb-true d s.at q)) ∙ p))
    go false q f zero g = leb-false d s.at q
    go false q f (suc m) g = f (sym (first-skip j d s es (leb-false d s.at q)) ∙ p) m (omega arith)

-- ---- the bytes in the queue, as they entered: every one but the first found a byte ahead, and the deadline is the first one's

abbrev pub Behind : List In → Type 0
Behind [] = Unit {0}
Behind (i ∷ I) = (0 < i.ahead) × Behind I

abbrev pub Link : ℕ → ℕ → List In → Type 0
Link d p [] = Unit {0}
Link d p (i ∷ I) = (d ≡ pick_from i.ahead (i.at + i.time) p) × Behind I

pub pick-ahead : (k t p : ℕ) → 0 < k → pick_from k t p ≡ p
pick-ahead zero t p h = absurd (not-suc-le-zero h)
pick-ahead (suc k) t p h = refl

-- a choice between two moments that are later is later
pub pick-late : (k t p c : ℕ) → c < t → c < p → c < pick_from k t p
pick-late zero t p c g h = g
pick-late (suc k) t p c g h = h

pub link-leave : (t c : ℕ) (I : List In) (q : List ℕ) → length I ≡ length q → Behind I → Link (due_after t q c) (c + t) I
link-leave t c [] q e k = tt
link-leave t c (i ∷ I) [] e k = absurd (omega arith)
link-leave t c (i ∷ I) (b ∷ q) e k = (sym (pick-ahead i.ahead (i.at + i.time) (c + t) k.0), k.1)

pub behind-snoc : (I : List In) (i : In) → Behind I → 0 < i.ahead → Behind (I ++ (i ∷ []))
behind-snoc [] i k h = (h, tt)
behind-snoc (a ∷ I) i k h = (k.0, behind-snoc I i k.1 h)

pub link-enter : (t c d p b : ℕ) (I : List In) (q : List ℕ) → length I ≡ length q → Link d p I
    → Link (due_with t q c d) p (I ++ (in_of c t (length q) b ∷ []))
link-enter t c d p b [] [] e k = (refl, tt)
link-enter t c d p b [] (a ∷ q) e k = absurd (omega arith)
link-enter t c d p b (i ∷ I) [] e k = absurd (omega arith)
link-enter t c d p b (i ∷ I) (a ∷ q) e k = (k.0, behind-snoc I _ k.1 (omega arith))

pub behind-at : (I r : List In) → Behind I → (m : ℕ) → m < length I → 0 < (in_at (I ++ r) m).ahead
behind-at [] r k m g = absurd (not-suc-le-zero g)
behind-at (i ∷ I) r k zero g = k.0
behind-at (i ∷ I) r k (suc m) g = behind-at I r k.1 m (omega arith)

-- from an empty queue the first byte to enter finds none ahead
pub fresh : {room j c d x : ℕ} {l : List Act} {h : Hist} → Runs room j c d [] x l h → (in_at h.ins 0).ahead ≡ 0
fresh done = refl
fresh (moved r) = fresh r
fresh (empty r) = fresh r
fresh (enters e r) = refl
fresh (full e r) = fresh r

pub due-at : (os : List Out) (n : ℕ) → get_or (dues os) n 0 ≡ (out_at os n).at + (out_at os n).time
due-at [] n = refl
due-at (o ∷ os) zero = refl
due-at (o ∷ os) (suc n) = due-at os n
