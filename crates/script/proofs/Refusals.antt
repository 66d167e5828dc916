-- What a call that is not refused may count on.
use mathlib.Core.Path.{◌≡◌, refl, ap}
use mathlib.Core.Bool.{Bool, true, false, cond, not}
use Prim.Native.Nat.{ℕ, ◌<◌}
use native.Mathlib.Omega.{arith}
use lib.Dec.{eqb, ltb, leb}
use borrow.Author.Tests.{eqb-true, ltb-true, leb-true, leb-false}
use Rattle.std.specs.Prelude.{Result, Ok, Err}
use Rattle.base.specs.declared.Refusal.{Refusal}
use Rattle.base.specs.declared.Refusal.TheVariants.{Size, State, Full}
use Rattle.base.proofs.Flags.{and_left, and_right}
use Rattle.base.proofs.Ring.{in-ring}
use Rattle.script.specs.declared.Script.{Script}
use Rattle.script.specs.declared.Entry.{Entry}
use Rattle.script.specs.declared.Spot.{Spot}
use Rattle.script.specs.Script.{entries, script_whole, spot_of, full_of, ScriptOk}
use Rattle.script.specs.Entries.{lent_of, room_of, unless_refused, is_done, pushes, spot_for}

pub whole-ok : (s : Script) → script_whole s ≡ true → ScriptOk s
whole-ok s e =
    record {
      place = ltb-true s.place entries (and_left (ltb s.place entries) (leb s.count entries) e);
      count = leb-true s.count entries (and_right (ltb s.place entries) (leb s.count entries) e);
    }

lent_at : (t w : Bool) → ◌≡◌ {A = Result (Unit {0}) Refusal} (cond (not t) (Err Size) (cond w (Ok tt) (Err State))) (Ok tt) → (t ≡ true) × (w ≡ true)
lent_at true true e = (refl, refl)
lent_at true false e = cc
lent_at false w e = cc

abbrev room_at : (t w f : Bool) → Result (Unit {0}) Refusal
room_at t w f = cond (not t) (Err Size) (cond w (cond f (Err Full) (Ok tt)) (Err State))

push_at : (t w f : Bool) → is_done (room_at t w f) ≡ true → (t ≡ true) × (w ≡ true) × (f ≡ false)
push_at true true false e = (refl, refl, refl)
push_at true true true e = cc
push_at true false f e = cc
push_at false w f e = cc

refused_at : (t w f : Bool) (r : Refusal) → ◌≡◌ {A = Result (Unit {0}) Refusal} (cond (not t) (Err Size) (cond w (Ok tt) (Err State))) (Err r)
    → ◌≡◌ {A = Result (Unit {0}) Refusal} (cond (not t) (Err Size) (cond w (cond f (Err Full) (Ok tt)) (Err State))) (Err r)
refused_at true true f r e = cc
refused_at true false f r e = e
refused_at false w f r e = e

-- what is refused of the lent entries is refused of a push
pub push_refused : (s : Script) (n : ℕ) (r : Refusal) → lent_of s n ≡ Err r → room_of s n ≡ Err r
push_refused s n r e = refused_at (eqb n entries) (script_whole s) (full_of s) r e

-- what an answer says of the call
pub done_is : {A : Type 0} (o : Result (Unit {0}) Refusal) (a b : A) → unless_refused o a ≡ Ok b → (is_done o ≡ true) × (a ≡ b)
done_is (Ok u) a b e = (refl, cc)
done_is (Err r) a b e = absurd (let q : ◌≡◌ {A = ℕ} 0 1 = cc in omega arith)

pub refused_is : {A : Type 0} (o : Result (Unit {0}) Refusal) (a : A) (r : Refusal) → unless_refused o a ≡ Err r → is_done o ≡ false
refused_is (Ok u) a r e = absurd (let q : ◌≡◌ {A = ℕ} 0 1 = cc in omega arith)
refused_is (Err x) a r e = refl

-- the lent entries are all there, and the record is whole
pub record Lent (s : Script) (n : ℕ) : Type 0 where
  pub length : n ≡ entries
  pub ok : ScriptOk s

pub lent_ok : (s : Script) (n : ℕ) → lent_of s n ≡ Ok tt → Lent s n
lent_ok s n e =
    let both = lent_at (eqb n entries) (script_whole s) e in
    record { length = eqb-true n entries both.0; ok = whole-ok s both.1 }

-- and one more has room
pub record Room (s : Script) (n : ℕ) : Type 0 where
  pub lent : Lent s n
  pub room : s.count < entries

pub push_ok : (s : Script) (n : ℕ) → pushes s n ≡ true → Room s n
push_ok s n e =
    let all = push_at (eqb n entries) (script_whole s) (full_of s) e in
    record {
      lent = record { length = eqb-true n entries all.0; ok = whole-ok s all.1 };
      room = leb-false entries s.count all.2;
    }

-- a spot that is given lies in the lent entries
pub spot-within : (s : Script) (n : ℕ) (e : Entry) (p : Spot) → spot_for s n e ≡ Ok p → p.place < n
spot-within s n e p given =
    let d = done_is (room_of s n) _ p given in
    let all = (push_ok s n d.0).lent.length in
    let place : spot_of s ≡ p.place = ap (λ (x : Spot). x.place) d.1 in
    rw (← place, all) (in-ring entries s.place s.count (omega arith))
