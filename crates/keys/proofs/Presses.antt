-- Action Key by cases: an id that is none, a key that is already so, and one that turns.
use mathlib.Core.Path.{◌≡◌, sym, subst}
use mathlib.Core.Bool.{Bool, true, false, beq}
use Prim.Native.Nat.{ℕ, ◌≤◌, ◌<◌}
use borrow.Author.Tests.{lt-ltb, le-ltb}
use lib.Dec.{T}
use Rattle.keys.specs.Keys.{is_down, goal_of, time_of, toggled, turned_ramps, press_of, release_of, key_of}
use Rattle.keys.specs.declared.Keys.{Keys}
use Rattle.keys.specs.declared.Ramps.{Ramps}

module _ (k : Keys) (rs : Ramps) (id now hz : ℕ) where
  -- the action leaves these keys and these ramps
  abbrev Leaves : Bool → Keys → Ramps → Type 0
  Leaves down q ts = (q ≡ (key_of k rs id down now hz).keys) × (ts ≡ (key_of k rs id down now hz).ramps)

  pub key-none : (down : Bool) → 41 ≤ id → Leaves down k rs
  unfolding press_of release_of
  key-none true h = (rw (le-ltb id 41 h), rw (le-ltb id 41 h))
  key-none false h = (rw (le-ltb id 41 h), rw (le-ltb id 41 h))

  pub key-stays : (was down : Bool) → was ≡ is_down k.down id → id < 41 → beq was down ≡ true → Leaves down k rs
  unfolding press_of release_of
  key-stays true true e h b = (rw (sym e, lt-ltb id 41 h), rw (sym e, lt-ltb id 41 h))
  key-stays false false e h b = (rw (sym e), rw (sym e))
  key-stays true false e h b = absurd (subst T (sym b) tt)
  key-stays false true e h b = absurd (subst T (sym b) tt)

  pub key-turns : (was down : Bool) → was ≡ is_down k.down id → id < 41 → beq was down ≡ false
      → Leaves down (toggled k id) (turned_ramps rs id now (goal_of k id down) (time_of down) hz)
  unfolding press_of release_of
  key-turns false true e h b = (rw (sym e, lt-ltb id 41 h), rw (sym e, lt-ltb id 41 h))
  key-turns true false e h b = (rw (sym e), rw (sym e))
  key-turns true true e h b = absurd (subst T b tt)
  key-turns false false e h b = absurd (subst T b tt)
