-- The script as a list: a push puts its entry behind the last, a take gives the first, a look shows it. Whatever the times are.
use mathlib.Core.Path.{◌≡◌, refl, subst}
use mathlib.Core.Logic.{◌≢◌}
use mathlib.Core.Bool.{Bool, true, false, cond}
use mathlib.Core.List.{List, [], ◌∷◌, ◌++◌}
use Prim.Native.Nat.{ℕ, zero, suc, ◌+◌, ◌-◌, ◌%◌, ◌<◌}
use native.Mathlib.Numerals.{add-one}
use native.Mathlib.Omega.{arith}
use lib.Dec.{eqb}
use lib.ListN.{length, get_or, set, length-set}
use lib.Seq.{get_or-set_other}
use borrow.Author.Tests.{eqb-true, eqb-false}
use Rattle.std.specs.Prelude.{Option, Some, None, Ok, Err}
use Rattle.base.specs.declared.Refusal.{Refusal}
use Rattle.base.specs.Ring.{ring}
use Rattle.base.proofs.Ring.{length-ring, ring-push}
use Rattle.script.specs.declared.Script.{Script}
use Rattle.script.specs.declared.Entry.{Entry}
use Rattle.script.specs.declared.Took.{Took}
use Rattle.script.specs.Script.{entries, spot_of, pushed_of, taken_of, looked_of, next_place}
use Rattle.script.specs.Entries.{no_entry, entries_at, contents_of, front_of, lent_of, room_of, pushes, push_of, push_in, ring_pushed, take_of, ring_taken}
use Rattle.script.proofs.Refusals.{done_is, refused_is, push_ok}

pub contents-length : (s : Script) (ys : List Entry) → length (contents_of s ys) ≡ s.count
contents-length s ys = length-ring no_entry entries ys s.place s.count

front_at : (n : ℕ) (ys : List Entry) (p : ℕ) → 0 < n
    → ring no_entry entries ys p n ≡ get_or ys p no_entry ∷ ring no_entry entries ys ((p + 1) % entries) (n - 1)
unfolding ring
front_at zero ys p h = absurd (omega arith)
front_at (suc n) ys p h = let e : suc n - 1 ≡ n = omega arith in rw e

-- a look at the place shows the first
pub look-first : (s : Script) (ys : List Entry) → 0 < s.count
    → contents_of s ys ≡ (front_of ys s.place).entry ∷ contents_of (taken_of s) ys
look-first s ys h = front_at s.count ys s.place h

-- ---- a push

module _ (s : Script) (ys : List Entry) (e : Entry) where
  -- it goes behind the last
  pub push-appends : (ring' : Script) → push_of s (length ys) e ≡ Ok ring' → contents_of ring' (push_in s ys e) ≡ contents_of s ys ++ (e ∷ [])
  push-appends ring' done =
      let d = done_is (room_of s (length ys)) (pushed_of s e.at) ring' done in
      let room = push_ok s (length ys) d.0 in
      subst (λ (x : Script). contents_of x (push_in s ys e) ≡ contents_of s ys ++ (e ∷ [])) d.1
      (rw (d.0, add-one) (ring-push no_entry entries s.count ys s.place e room.lent.length room.lent.ok.place room.room))

  -- a refused push leaves all as it was
  pub push-refused : (r : Refusal) → push_of s (length ys) e ≡ Err r → (ring_pushed s (push_of s (length ys) e) ≡ s) × (push_in s ys e ≡ ys)
  push-refused r refused =
      let no = refused_is (room_of s (length ys)) (pushed_of s e.at) r refused in
      (rw refused, rw no)

  others-at : (t : Bool) (i : ℕ) → i ≢ spot_of s → entries_at (cond t (set ys (spot_of s) e) ys) i ≡ entries_at ys i
  others-at true i apart = get_or-set_other ys (spot_of s) i e no_entry apart
  others-at false i apart = refl

  -- every other lent entry stays
  pub push-others : (i : ℕ) → i ≢ spot_of s → entries_at (push_in s ys e) i ≡ entries_at ys i
  push-others i apart = others-at (pushes s (length ys)) i apart

  length_at : (t : Bool) → length (cond t (set ys (spot_of s) e) ys) ≡ length ys
  length_at true = length-set ys (spot_of s) e
  length_at false = refl

  pub push-length : length (push_in s ys e) ≡ length ys
  push-length = length_at (pushes s (length ys))

-- ---- a take

module _ (s : Script) (ys : List Entry) where
  abbrev pub front : Took
  front = record { ring = looked_of (taken_of s) (entries_at ys (next_place s)).at; entry = entries_at ys s.place }

  -- it gives the first, and the others stay in their order
  first-at : (z : Bool) (t : Took) → eqb s.count 0 ≡ z → ◌≡◌ {A = Option Took} (cond z None (Some front)) (Some t)
      → contents_of s ys ≡ t.entry ∷ contents_of t.ring ys
  first-at true t is h = cc
  first-at false t is h =
      let q : front ≡ t = cc in
      subst (λ (x : Took). contents_of s ys ≡ x.entry ∷ contents_of x.ring ys) q
      (look-first s ys (let some : 0 < s.count = omega (arith, eqb-false s.count 0 is) in some))

  pub take-first : (t : Took) → take_of s ys ≡ Ok (Some t) → contents_of s ys ≡ t.entry ∷ contents_of t.ring ys
  take-first t h = first-at (eqb s.count 0) t refl (done_is (lent_of s (length ys)) _ (Some t) h).1

  -- where it gives none the ring stays, and unless it is refused none waits
  pub take_none : take_of s ys ≡ Ok None → ring_taken s (take_of s ys) ≡ s
  take_none h = rw h

  pub take-refused : (r : Refusal) → take_of s ys ≡ Err r → ring_taken s (take_of s ys) ≡ s
  take-refused r h = rw h

  empty-at : (z : Bool) → ◌≡◌ {A = Option Took} (cond z None (Some front)) None → z ≡ true
  empty-at true h = refl
  empty-at false h = cc

  pub take-empty : take_of s ys ≡ Ok None → contents_of s ys ≡ []
  unfolding ring
  take-empty h =
      let none = eqb-true s.count 0 (empty-at (eqb s.count 0) (done_is (lent_of s (length ys)) _ None h).1) in
      rw none
