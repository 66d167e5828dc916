-- The two channels of matrix rows as one: channel n of them is row 3 + n on pin 7 + n of port A. A further one keeps its stored value.
use mathlib.Core.Path.{◌≡◌, refl}
use Prim.Native.Nat.{ℕ, zero, suc, ◌+◌, ◌≤◌, ◌<◌}
use native.Mathlib.Omega.{arith}
use borrow.Author.Tests.{ne_eqb}
use Rattle.keys.specs.declared.Ramps.{Ramps}
use Rattle.panel.specs.declared.map.Map.{Map}
use Rattle.panel.specs.declared.pins.Pins.{Pins}
use Rattle.adc.specs.Adc.{pin_at, least_to, pin_reads, channel_reads}

module _ (m : Map) (p : Pins) (ramps : Ramps) (stored now noise : ℕ) where
  pub of_row : (ch : ℕ) → ch < 2
      → pin_reads (pin_at p (7 + ch)) (λ ohms. least_to m ramps p.sr_latched (3 + ch) now ohms 11) stored noise ≡ channel_reads m p ramps stored now noise ch
  unfolding channel_reads
  of_row zero h = refl
  of_row (suc zero) h = refl
  of_row (suc (suc n)) h = absurd (omega arith)

  pub of-store : (ch : ℕ) → 2 ≤ ch → record { sample = stored; noise = noise } ≡ channel_reads m p ramps stored now noise ch
  unfolding channel_reads
  of-store ch h =
      let a : ch ≡ 0 → ⊥ = λ e. omega arith in
      let b : ch ≡ 1 → ⊥ = λ e. omega arith in
      rw (ne_eqb ch 0 a, ne_eqb ch 1 b)
