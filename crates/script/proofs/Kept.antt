-- "Accepted calls keep a whole record whole": place and count stay in their ring.
use mathlib.Core.Path.{◌≡◌, refl, ap}
use mathlib.Core.Bool.{Bool, true, false, cond}
use mathlib.Core.List.{List}
use Prim.Native.Nat.{ℕ, ◌<◌}
use native.Mathlib.Omega.{arith}
use lib.Dec.{eqb}
use lib.ListN.{length}
use Rattle.base.proofs.Ring.{in-ring}
use Rattle.std.specs.Prelude.{Some, None, Result, Ok, Err}
use Rattle.base.specs.declared.Refusal.{Refusal}
use Rattle.script.specs.declared.Script.{Script}
use Rattle.script.specs.declared.Entry.{Entry}
use Rattle.script.specs.declared.Took.{Took}
use Rattle.script.specs.Script.{entries, script_new, pushed_of, looked_of, taken_of, ScriptOk}
use Rattle.script.specs.Entries.{lent_of, room_of, unless_refused, is_done, push_of, ring_pushed, take_of, ring_taken, entries_at}
use Rattle.script.proofs.Refusals.{push_ok}

pub new_ok : ScriptOk script_new
new_ok = record { place = omega arith; count = omega arith }

module _ (s : Script) (w : ScriptOk s) where
  pub pushed-kept : (at : ℕ) → s.count < entries → ScriptOk (pushed_of s at)
  pushed-kept at h = record { place = w.place; count = omega (arith, h) }

  pub looked-kept : (at : ℕ) → ScriptOk (looked_of s at)
  looked-kept at = record { place = w.place; count = w.count }

  pub taken-kept : ScriptOk (taken_of s)
  taken-kept = record { place = in-ring entries s.place 1 (omega arith); count = omega (arith, w.count) }

  push_at : (n : ℕ) (o : Result (Unit {0}) Refusal) (at : ℕ) → room_of s n ≡ o → ScriptOk (ring_pushed s (unless_refused o (pushed_of s at)))
  push_at n (Ok u) at is = pushed-kept at (push_ok s n (ap (λ o. is_done o) is)).room
  push_at n (Err r) at is = w

  pub push_kept : (n : ℕ) (e : Entry) → ScriptOk (ring_pushed s (push_of s n e))
  push_kept n e = push_at n (room_of s n) e.at refl

  take_at : (o : Result (Unit {0}) Refusal) (z : Bool) (x : Took) → ScriptOk x.ring → ScriptOk (ring_taken s (unless_refused o (cond z None (Some x))))
  take_at (Ok u) true x h = w
  take_at (Ok u) false x h = h
  take_at (Err r) z x h = w

  pub take-kept : (ys : List Entry) → ScriptOk (ring_taken s (take_of s ys))
  take-kept ys =
      take_at (lent_of s (length ys)) (eqb s.count 0) (record {
        ring = looked_of (taken_of s) (entries_at ys (taken_of s).place).at;
        entry = entries_at ys s.place;
      })
      (record { place = taken-kept.place; count = taken-kept.count })
