-- The record's time and the lent front go on agreeing: a push and a take keep what `agrees` tests.
use mathlib.Core.Path.{◌≡◌, refl, ap}
use mathlib.Core.Logic.{◌≢◌}
use mathlib.Core.Bool.{Bool, true, false, cond, ◌||◌}
use mathlib.Core.List.{List}
use Prim.Native.Nat.{◌+◌, ◌-◌, ◌<◌}
use native.Mathlib.Omega.{arith}
use lib.Dec.{eqb}
use lib.ListN.{length, set}
use lib.Seq.{get_or-set_same, get_or-set_other}
use borrow.Author.Tests.{eq-eqb, eqb-true, eqb-false}
use Rattle.std.specs.Prelude.{Some, None, Result, Ok, Err}
use Rattle.base.specs.declared.Refusal.{Refusal}
use Rattle.script.specs.declared.Script.{Script}
use Rattle.script.specs.declared.Entry.{Entry}
use Rattle.script.specs.Script.{spot_of, pushed_of, next_place}
use Rattle.script.specs.Entries.{no_entry, entries_at, front_of, agrees_of, lent_of, room_of, unless_refused, is_done, push_of, push_in, ring_pushed, take_of, ring_taken}
use Rattle.script.proofs.Refusals.{push_ok, Room}
use Rattle.script.proofs.Contents.{front}

abbrev pub Agrees : Script → List Entry → Type 0
Agrees s ys = agrees_of s (front_of ys s.place) ≡ true

or-in : (u x : Bool) → x ≡ true → (u || x) ≡ true
or-in true x h = refl
or-in false x h = h

module _ (s : Script) (ys : List Entry) (e : Entry) where
  -- a push changes the front where none waited, and else another place
  front_at : (u z : Bool) → Room s (length ys) → eqb s.count 0 ≡ z
      → (z || eqb (entries_at ys s.place).at s.at) ≡ true
      → (u || eqb (entries_at (set ys (spot_of s) e) s.place).at (cond z e.at s.at)) ≡ true
  front_at u true r is h =
      let none = eqb-true s.count 0 is in
      let place = r.lent.ok.place in
      let here : spot_of s ≡ s.place = omega (arith, none, place) in
      let there : s.place < length ys = omega (arith, r.lent.length, place) in
      or-in u (eqb (entries_at (set ys (spot_of s) e) s.place).at e.at)
      (rw here (eq-eqb _ _ (ap (λ (x : Entry). x.at) (get_or-set_same ys s.place e no_entry there))))
  front_at u false r is h =
      let some = eqb-false s.count 0 is in
      let apart : s.place ≢ spot_of s = λ (same : s.place ≡ spot_of s). some (omega (arith, same, r.lent.ok.place, r.room)) in
      or-in u (eqb (entries_at (set ys (spot_of s) e) s.place).at s.at)
      (rw (get_or-set_other ys (spot_of s) s.place e no_entry apart) h)

  push_at : (o : Result (Unit {0}) Refusal) → room_of s (length ys) ≡ o → Agrees s ys
      → Agrees (ring_pushed s (unless_refused o (pushed_of s e.at))) (cond (is_done o) (set ys (spot_of s) e) ys)
  push_at (Ok u) is h = front_at (eqb (s.count + 1) 0) (eqb s.count 0) (push_ok s (length ys) (ap (λ o. is_done o) is)) refl h
  push_at (Err r) is h = h

  pub push-agrees : Agrees s ys → Agrees (ring_pushed s (push_of s (length ys) e)) (push_in s ys e)
  push-agrees h = push_at (room_of s (length ys)) refl h

module _ (s : Script) (ys : List Entry) where
  take_at : (o : Result (Unit {0}) Refusal) (z : Bool) → Agrees s ys → Agrees (ring_taken s (unless_refused o (cond z None (Some (front s ys))))) ys
  take_at (Ok u) true h = h
  take_at (Ok u) false h = or-in (eqb (s.count - 1) 0) (eqb (entries_at ys (next_place s)).at (entries_at ys (next_place s)).at) (eq-eqb (entries_at ys (next_place s)).at (entries_at ys (next_place s)).at refl)
  take_at (Err r) z h = h

  pub take-agrees : Agrees s ys → Agrees (ring_taken s (take_of s ys)) ys
  take-agrees h = take_at (lent_of s (length ys)) (eqb s.count 0) h
