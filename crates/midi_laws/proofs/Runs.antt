-- A run as a derivation: one case for each thing that can happen. A proof on histories goes by these cases.
use mathlib.Core.Path.{◌≡◌, refl}
use mathlib.Core.Bool.{Bool, true, false}
use mathlib.Core.List.{List, [], ◌∷◌, ◌++◌}
use Prim.Native.Nat.{ℕ, suc, ◌+◌, ◌≤◌, ◌<◌}
use native.Mathlib.Nat.{add-zero}
use native.Mathlib.Numerals.{add-one}
use lib.Dec.{leb, ltb}
use lib.ListN.{length}
use borrow.Author.Tests.{ltb-true, ltb-false, leb-true, leb-false}
use Rattle.midi_laws.specs.Model.{midi, Act, move, serve, offer, Hist, hist, lost, due_after, due_with, quiet_step, leaving_step, out_of, in_of, serving, offering, one, join, run}

abbrev pub ended : ℕ → Hist → Hist
ended c h = hist h.end h.ins h.outs (quiet_step c ∷ h.steps)

abbrev pub left : ℕ → ℕ → ℕ → ℕ → Bool → Hist → Hist
left c t j b on h = hist h.end h.ins (out_of c t j on b ∷ h.outs) (leaving_step c on b ∷ h.steps)

abbrev pub entered : ℕ → ℕ → ℕ → ℕ → Hist → Hist
entered c t k b h = hist h.end (in_of c t k b ∷ h.ins) h.outs h.steps

pub data Runs (room : ℕ) : ℕ → ℕ → ℕ → List ℕ → ℕ → List Act → Hist → Type 0 where
  done : {j c d x : ℕ} {q : List ℕ} → Runs room j c d q x [] (hist (midi c d q x) [] [] [])
  moved : {j c d x n : ℕ} {q : List ℕ} {l : List Act} {h : Hist}
      → Runs room j (c + n) d q x l h → Runs room j c d q x (move n ∷ l) h
  empty : {j c d x t : ℕ} {on : Bool} {l : List Act} {h : Hist}
      → Runs room (suc j) c d [] x l h → Runs room j c d [] x (serve t on ∷ l) (ended c h)
  quiet : {j c d x b t : ℕ} {q : List ℕ} {on : Bool} {l : List Act} {h : Hist}
      → c < d → Runs room (suc j) c d (b ∷ q) x l h → Runs room j c d (b ∷ q) x (serve t on ∷ l) (ended c h)
  leaves : {j c d x b t : ℕ} {q : List ℕ} {on : Bool} {l : List Act} {h : Hist}
      → d ≤ c → Runs room (suc j) c (due_after t q c) q (x + lost on) l h
      → Runs room j c d (b ∷ q) x (serve t on ∷ l) (left c t j b on h)
  enters : {j c d x b t : ℕ} {q : List ℕ} {l : List Act} {h : Hist}
      → length q < room → Runs room j c (due_with t q c d) (q ++ (b ∷ [])) x l h
      → Runs room j c d q x (offer t b ∷ l) (entered c t (length q) b h)
  full : {j c d x b t : ℕ} {q : List ℕ} {l : List Act} {h : Hist}
      → room ≤ length q → Runs room j c d q (x + 1) l h → Runs room j c d q x (offer t b ∷ l) h

module _ (room : ℕ) where
  Rest : List Act → Type 0
  Rest l = (j c d : ℕ) (q : List ℕ) (x : ℕ) → Runs room j c d q x l (run room j (midi c d q x) l)

  -- the rest of a run after the history g
  abbrev then : ℕ → Hist → List Act → Hist
  then j g l = join g (run room (j + length g.steps) g.end l)

  at-serve : (y : Bool) (l : List Act) → Rest l → (t : ℕ) (on : Bool) (j c d b : ℕ) (q : List ℕ) (x : ℕ) → leb d c ≡ y
      → Runs room j c d (b ∷ q) x (serve t on ∷ l) (then j (serving room y j t on c d b q x) l)
  unfolding Rest serving
  at-serve true l r t on j c d b q x e = rw add-one (leaves (leb-true d c e) (r (suc j) c (due_after t q c) q (x + lost on)))
  at-serve false l r t on j c d b q x e = rw add-one (quiet (leb-false d c e) (r (suc j) c d (b ∷ q) x))

  at-offer : (y : Bool) (l : List Act) → Rest l → (t b j c d : ℕ) (q : List ℕ) (x : ℕ) → ltb (length q) room ≡ y
      → Runs room j c d q x (offer t b ∷ l) (then j (offering room y t b c d q x) l)
  unfolding Rest offering
  at-offer true l r t b j c d q x e = rw add-zero (enters (ltb-true _ _ e) (r j c (due_with t q c d) (q ++ (b ∷ [])) x))
  at-offer false l r t b j c d q x e = rw add-zero (full (ltb-false _ _ e) (r j c d q (x + 1)))

  pub runs : (l : List Act) (j c d : ℕ) (q : List ℕ) (x : ℕ) → Runs room j c d q x l (run room j (midi c d q x) l)
  unfolding run one Rest
  runs [] j c d q x = done
  runs (move n ∷ l) j c d q x = rw add-zero (moved (runs l j (c + n) d q x))
  runs (serve t on ∷ l) j c d [] x = rw add-one (empty (runs l (suc j) c d [] x))
  runs (serve t on ∷ l) j c d (b ∷ q) x = at-serve (leb d c) l (runs l) t on j c d b q x refl
  runs (offer t b ∷ l) j c d q x = at-offer (ltb (length q) room) l (runs l) t b j c d q x refl
