-- A timer that is found by its page is the one that the address writes; the others stay.
use mathlib.Core.Path.{◌≡◌, refl}
use mathlib.Core.Bool.{Bool, true, false, cond}
use mathlib.Core.List.{List, [], ◌∷◌}
use Prim.Native.Nat.{ℕ, ◌+◌, ◌-◌, ◌*◌, ◌/◌, ◌%◌}
use native.Mathlib.Omega.{arith}
use borrow.Author.Tests.{eqb-true, eqb-false, ne_eqb}
use lib.Dec.{eqb}
use Rattle.timers.specs.Timer.{tmr_of}
use Rattle.timers.specs.declared.timer.Tmr.{Tmr}
use Rattle.regs.specs.Writes.{tmr_written, timer_on, tmrs_written}

module _ (ts : List Tmr) (addr v now hz : ℕ) where
  -- a timer on another page
  elsewhere : (k : ℕ) (t : Tmr) → (addr / 256 ≡ k → ⊥) → t ≡ tmr_written t (k * 256) addr v now hz
  unfolding tmr_written
  elsewhere k t n =
      let a : addr ≡ k * 256 → ⊥ = λ e. n (omega arith) in
      let b : addr ≡ k * 256 + 4 → ⊥ = λ e. n (omega arith) in
      let c : addr ≡ k * 256 + 8 → ⊥ = λ e. n (omega arith) in
      rw (ne_eqb addr (k * 256) a, ne_eqb addr (k * 256 + 4) b, ne_eqb addr (k * 256 + 8) c)

  -- the timer that the address's page is of, written
  abbrev one : Tmr
  one = tmr_written (timer_on ts (addr / 256)) (addr - addr % 256) addr v now hz

  at-page : (k : ℕ) (t : Tmr) → timer_on ts k ≡ t → cond (eqb (addr / 256) k) one t ≡ tmr_written t (k * 256) addr v now hz
  at-page k t p = go (eqb (addr / 256) k) refl
    where
      go : (b : Bool) → eqb (addr / 256) k ≡ b → cond b one t ≡ tmr_written t (k * 256) addr v now hz
      go true e =
          let q = eqb-true (addr / 256) k e in
          let f : addr - addr % 256 ≡ k * 256 = omega arith in
          rw (q, f, p)
      go false e = elsewhere k t (eqb-false (addr / 256) k e)

  -- four timers, each written at its page
  four : (a b c d : Tmr) → a ≡ tmr_written (tmr_of ts 0) 0x10400 addr v now hz → b ≡ tmr_written (tmr_of ts 1) 0x10500 addr v now hz
      → c ≡ tmr_written (tmr_of ts 2) 0x10600 addr v now hz → d ≡ tmr_written (tmr_of ts 3) 0x10700 addr v now hz
      → a ∷ b ∷ c ∷ d ∷ [] ≡ tmrs_written ts addr v now hz
  unfolding tmrs_written
  four a b c d e f g h = rw (e, f, g, h)

  pub none_written : (addr / 1024 ≡ 0x41 → ⊥) → tmr_of ts 0 ∷ tmr_of ts 1 ∷ tmr_of ts 2 ∷ tmr_of ts 3 ∷ [] ≡ tmrs_written ts addr v now hz
  none_written n =
      four (tmr_of ts 0) (tmr_of ts 1) (tmr_of ts 2) (tmr_of ts 3) (elsewhere 0x104 (tmr_of ts 0) (λ e. n (omega arith)))
      (elsewhere 0x105 (tmr_of ts 1) (λ e. n (omega arith))) (elsewhere 0x106 (tmr_of ts 2) (λ e. n (omega arith)))
      (elsewhere 0x107 (tmr_of ts 3) (λ e. n (omega arith)))

  abbrev put : ℕ → ℕ → Tmr
  put k i = cond (eqb (addr / 256) k) one (tmr_of ts i)

  pub one_written : put 0x104 0 ∷ put 0x105 1 ∷ put 0x106 2 ∷ put 0x107 3 ∷ [] ≡ tmrs_written ts addr v now hz
  unfolding timer_on
  one_written =
      four (put 0x104 0) (put 0x105 1) (put 0x106 2) (put 0x107 3) (at-page 0x104 (tmr_of ts 0) refl)
      (at-page 0x105 (tmr_of ts 1) refl) (at-page 0x106 (tmr_of ts 2) refl) (at-page 0x107 (tmr_of ts 3) refl)
