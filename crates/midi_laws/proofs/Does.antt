-- What it is for a call to act on the MIDI part as a list of acts, the rules by which that is shown, and the laws of any machine whose calls do.
use mathlib.Core.Path.{◌≡◌, refl, ap, sym, ◌∙◌}
use mathlib.Core.Bool.{Bool, true, false}
use mathlib.Core.List.{List, [], ◌∷◌, ◌++◌, append_assoc}
use Prim.Native.Nat.{ℕ, ◌+◌, ◌≤◌, ◌<◌}
use native.Mathlib.Nat.{add-zero}
use native.Mathlib.Omega.{arith}
use lib.Dec.{leb, ltb}
use lib.ListN.{length, length-append}
use borrow.Author.Tests.{ltb-true, ltb-false, leb-true, leb-false}
use Rattle.midi_laws.specs.Laws.{Each, Positive}
use Rattle.midi_laws.specs.Machine.{final, gather, Demand}
use Rattle.midi_laws.specs.Model.{Midi, midi, Act, move, serve, offer, Step, Hist, hist, lost, due_after, due_with, quiet_step, leaving_step, serving, offering, one, act, join, run}
use Rattle.midi_laws.proofs.Laws.{laws}

join-assoc : (f g h : Hist) → join (join f g) h ≡ join f (join g h)
join-assoc f g h i =
    hist h.end (append_assoc f.ins g.ins h.ins i) (append_assoc f.outs g.outs h.outs i)
    (append_assoc f.steps g.steps h.steps i)

run-append : (room : ℕ) (a b : List Act) (j : ℕ) (m : Midi)
    → run room j m (a ++ b) ≡ join (run room j m a) (run room (j + length (run room j m a).steps) (run room j m a).end b)
unfolding run
run-append room [] b j m = rw add-zero refl
run-append room (a ∷ l) b j m =
    let g : Hist = act room j a m in
    let k : ℕ = j + length g.steps in
    let f : Hist = run room k g.end l in
    let e : k + length f.steps ≡ j + length (g.steps ++ f.steps) = simp length-append (omega arith) in
    ap (join g) (run-append room l b k g.end)
    ∙ sym (join-assoc g f (run room (k + length f.steps) f.end b))
    ∙ ap (λ (n : ℕ). join (join g f) (run room n f.end b)) e

-- a fact of the byte times of two lists is one of both together
pub each_append : (P : ℕ → Type 0) (a b : List Act) → Each P a → Each P b → Each P (a ++ b)
unfolding Each
each_append P [] b h k = k
each_append P (move n ∷ l) b h k = each_append P l b h k
each_append P (serve t on ∷ l) b h k = (h.0, each_append P l b h.1 k)
each_append P (offer t y ∷ l) b h k = (h.0, each_append P l b h.1 k)

-- what holds of every byte time gives what follows from it
pub each-then : (P Q : ℕ → Type 0) → ((t : ℕ) → P t → Q t) → (l : List Act) → Each P l → Each Q l
unfolding Each
each-then P Q f [] h = tt
each-then P Q f (move n ∷ l) h = each-then P Q f l h
each-then P Q f (serve t on ∷ l) h = (f t h.0, each-then P Q f l h.1)
each-then P Q f (offer t y ∷ l) h = (f t h.0, each-then P Q f l h.1)

-- a call that takes the part m to m' and makes the accepted steps `made` does the acts l
pub record Does (room : ℕ) (m m' : Midi) (made : List Step) (l : List Act) : Type 0 where
  pub state : (j : ℕ) → m' ≡ (run room j m l).end
  pub steps : (j : ℕ) → made ≡ (run room j m l).steps

module _ {room : ℕ} where
  pub nothing : {m m' : Midi} → m' ≡ m → Does room m m' [] []
  unfolding run
  nothing e = record { state = λ j. e; steps = λ j. refl }

  pub and_then : {m m₁ m₂ : Midi} {o₁ o₂ : List Step} {l₁ l₂ : List Act}
      → Does room m m₁ o₁ l₁ → Does room m₁ m₂ o₂ l₂ → Does room m m₂ (o₁ ++ o₂) (l₁ ++ l₂)
  and_then {m} {m₁} {m₂} {o₁} {o₂} {l₁} {l₂} d e =
      record {
        state = λ j.
            let k : ℕ = j + length (run room j m l₁).steps in
            rw (run-append room l₁ l₂ j m, ← d.state j) (e.state k);
        steps = λ j.
            rw (run-append room l₁ l₂ j m, ← d.state j, ← d.steps j) (ap (λ (o : List Step). o₁ ++ o) (e.steps (j + length o₁)));
      }

  pub moves : {c d x : ℕ} {q : List ℕ} (n : ℕ) {m' : Midi} → m' ≡ midi (c + n) d q x → Does room (midi c d q x) m' [] (move n ∷ [])
  unfolding run one
  moves n e = record { state = λ j. e; steps = λ j. refl }

  pub serves-none : {c d x : ℕ} (t : ℕ) (on : Bool) {m' : Midi} → m' ≡ midi c d [] x → Does room (midi c d [] x) m' (quiet_step c ∷ []) (serve t on ∷ [])
  unfolding run one
  serves-none t on e = record { state = λ j. e; steps = λ j. refl }

  pub serves-quiet : {c d x : ℕ} {q : List ℕ} (t : ℕ) (on : Bool) {m' : Midi} → c < d → m' ≡ midi c d q x
      → Does room (midi c d q x) m' (quiet_step c ∷ []) (serve t on ∷ [])
  unfolding run one serving
  serves-quiet {q = []} t on h e = serves-none t on e
  serves-quiet {c = c} {d = d} {x = x} {q = b ∷ q} t on {m'} h e = go (leb d c) refl
    where
      go : (y : Bool) → leb d c ≡ y → Does room (midi c d (b ∷ q) x) m' (quiet_step c ∷ []) (serve t on ∷ [])
      go true p = absurd (omega (arith, leb-true d c p))
      go false p = record { state = λ j. rw p e; steps = λ j. rw p refl }

  pub serves-byte : {c d x b : ℕ} {q : List ℕ} (t : ℕ) (on : Bool) {m' : Midi} → d ≤ c → m' ≡ midi c (due_after t q c) q (x + lost on)
      → Does room (midi c d (b ∷ q) x) m' (leaving_step c on b ∷ []) (serve t on ∷ [])
  unfolding run one serving
  serves-byte {c = c} {d = d} {x = x} {b = b} {q = q} t on {m'} h e = go (leb d c) refl
    where
      go : (y : Bool) → leb d c ≡ y → Does room (midi c d (b ∷ q) x) m' (leaving_step c on b ∷ []) (serve t on ∷ [])
      go true p = record { state = λ j. rw p e; steps = λ j. rw p refl }
      go false p = absurd (omega (arith, leb-false d c p))

  pub takes : {c d x : ℕ} {q : List ℕ} (t b : ℕ) {m' : Midi} → length q < room → m' ≡ midi c (due_with t q c d) (q ++ (b ∷ [])) x
      → Does room (midi c d q x) m' [] (offer t b ∷ [])
  unfolding run one offering
  takes {c = c} {d = d} {x = x} {q = q} t b {m'} h e = go (ltb (length q) room) refl
    where
      go : (y : Bool) → ltb (length q) room ≡ y → Does room (midi c d q x) m' [] (offer t b ∷ [])
      go true p = record { state = λ j. rw p e; steps = λ j. rw p refl }
      go false p = absurd (omega (arith, ltb-false (length q) room p))

  pub drops : {c d x : ℕ} {q : List ℕ} (t b : ℕ) {m' : Midi} → room ≤ length q → m' ≡ midi c d q (x + 1)
      → Does room (midi c d q x) m' [] (offer t b ∷ [])
  unfolding run one offering
  drops {c = c} {d = d} {x = x} {q = q} t b {m'} h e = go (ltb (length q) room) refl
    where
      go : (y : Bool) → ltb (length q) room ≡ y → Does room (midi c d q x) m' [] (offer t b ∷ [])
      go true p = absurd (omega (arith, ltb-true (length q) room p))
      go false p = record { state = λ j. rw p e; steps = λ j. rw p refl }

-- each call keeps a state good, and does its acts, with byte times that are not 0
module _ {S K : Type 0} (exec : K → S → S)
    (room : ℕ) (part : S → Midi) (acts : K → S → List Act) (made : K → S → List Step) (Good : S → Type 0)
    (keeps : (k : K) (s : S) → Good s → Good (exec k s))
    (does : (k : K) (s : S) → Good s → Does room (part s) (part (exec k s)) (made k s) (acts k s))
  where
    pub all-good : (l : List K) (s : S) → Good s → Good (final exec s l)
    unfolding final
    all-good [] s w = w
    all-good (k ∷ l) s w = all-good l (exec k s) (keeps k s w)

    all-do : (l : List K) (s : S) → Good s → Does room (part s) (part (final exec s l)) (gather exec made s l) (gather exec acts s l)
    unfolding final gather
    all-do [] s w = nothing refl
    all-do (k ∷ l) s w = and_then (does k s w) (all-do l (exec k s) (keeps k s w))

    -- a fact of each call's byte times is one of the run's
    pub all-each : (P : ℕ → Type 0) → ((k : K) (s : S) → Good s → Each P (acts k s)) → (l : List K) (s : S) → Good s → Each P (gather exec acts s l)
    unfolding gather Each
    all-each P f [] s w = tt
    all-each P f (k ∷ l) s w = each_append P (acts k s) (gather exec acts (exec k s) l) (f k s w) (all-each P f l (exec k s) (keeps k s w))

    pub demand : (s : S) → Good s → (c d : ℕ) → part s ≡ midi c d [] 0 → (l : List K) → Positive (gather exec acts s l) → Demand exec room part acts made s l
    demand s w c d new l pos =
        record {
          state = (all-do l s w).state 0;
          answers = (all-do l s w).steps 0;
          keep = rw new (laws room c d (gather exec acts s l) pos);
        }
