-- Starts and moments keep the SPI block's part of a whole record; before their deadlines the two are themselves.
use Prim.Native.Nat.{ℕ, ◌+◌, ◌^◌, ◌≤◌, ◌<◌}
use mathlib.Core.Path.{◌≡◌, refl}
use mathlib.Core.Bool.{Bool, true, false, cond}
use mathlib.Core.Logic.{⊎_elim, inl, inr}
use native.Mathlib.Omega.{arith}
use borrow.Author.Tests.{lt-ltb, le-ltb}
use Rattle.base.specs.Limits.{spi_bytes_max, spi_baud_max}
use Rattle.base.proofs.Cases.{lt-or-ge}
use Rattle.base.specs.Moments.{clock_max, Deadline}
use Rattle.times.specs.Clocks.{spi1_cycles, spi2_cycles}
use Rattle.times.proofs.Quotients.{spi1-most, spi2-most}
use Rattle.spi.specs.declared.Spi.{Spi}
use Rattle.spi.specs.Spi.{spi1_started, spi1_off, spi2_started, spi1_at, spi2_at}
use Rattle.spi.specs.Facts.{SpiOk}

pub spi1-quiet : (s : Spi) (now : ℕ) → now < s.spi1_irq_at → spi1_at s now ≡ s
unfolding spi1_at
spi1-quiet s now h = rw (lt-ltb now s.spi1_irq_at h)

pub spi2-quiet : (s : Spi) (now : ℕ) → now < s.spi2_next → spi2_at s now ≡ s
unfolding spi2_at
spi2-quiet s now h = rw (lt-ltb now s.spi2_next h)

module _ (s : Spi) (w : SpiOk s) where
  pub spi1-at-kept : (now : ℕ) → SpiOk (spi1_at s now)
  unfolding spi1_at
  spi1-at-kept now =
      ⊎_elim
      (λ (l : now < s.spi1_irq_at). rw (lt-ltb now s.spi1_irq_at l) w)
      (λ (l : s.spi1_irq_at ≤ now).
      rw (le-ltb now s.spi1_irq_at l) (record { done = w.done; irq = inr refl; spi2 = w.spi2 }))
      (lt-or-ge now s.spi1_irq_at)

  pub spi2-at-kept : (now : ℕ) → SpiOk (spi2_at s now)
  unfolding spi2_at
  spi2-at-kept now =
      ⊎_elim
      (λ (l : now < s.spi2_next). rw (lt-ltb now s.spi2_next l) w)
      (λ (l : s.spi2_next ≤ now).
      rw (le-ltb now s.spi2_next l) (record { done = w.done; irq = w.irq; spi2 = inr refl }))
      (lt-or-ge now s.spi2_next)

  pub spi1-off-kept : SpiOk (spi1_off s)
  spi1-off-kept = record { done = w.done; irq = inr refl; spi2 = w.spi2 }

-- a deadline that is set where the interrupt is on
set-or-kept : (irq : Bool) (now cycles old : ℕ) → now ≤ clock_max → cycles ≤ 2 ^ 62 → Deadline old → Deadline (cond irq (now + cycles) old)
set-or-kept true now cycles old h g d = inl (omega arith)
set-or-kept false now cycles old h g d = d

module _ (s : Spi) (bytes baud : ℕ) (irq : Bool) (now hz : ℕ) (w : SpiOk s) (b : bytes ≤ spi_bytes_max) (d : baud ≤ spi_baud_max) (c : now ≤ clock_max) (g : hz < 2 ^ 32) where
  pub spi1-start-kept : SpiOk (spi1_started s bytes baud irq now hz)
  unfolding spi1_started
  spi1-start-kept =
      let k = spi1-most bytes baud hz b d g in
      let m : spi1_cycles bytes baud hz ≤ 2 ^ 62 = omega arith in
      record { done = inl (omega arith); irq = set-or-kept irq now (spi1_cycles bytes baud hz) s.spi1_irq_at c m w.irq; spi2 = w.spi2 }

  pub spi2-start-kept : SpiOk (spi2_started s bytes baud irq now hz)
  unfolding spi2_started
  spi2-start-kept =
      let k = spi2-most bytes baud hz b d g in
      let m : spi2_cycles bytes baud hz ≤ 2 ^ 62 = omega arith in
      record { done = w.done; irq = w.irq; spi2 = set-or-kept irq now (spi2_cycles bytes baud hz) s.spi2_next c m w.spi2 }
