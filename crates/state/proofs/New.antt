-- A new board is whole.
use mathlib.Core.Path.{◌≡◌, refl}
use mathlib.Core.Logic.{inl, inr}
use Prim.Native.Nat.{ℕ, zero, suc, ◌/◌, ◌≤◌, ◌<◌}
use native.Mathlib.Omega.{arith}
use lib.Ieee.{Float, nan}
use lib.ListN.{get_or-replicate}
use Rattle.base.specs.Limits.{rate_min, rate_max}
use Rattle.encoders.specs.Encoder.{enc_new, enc_of}
use Rattle.encoders.specs.Facts.{EncOk}
use Rattle.keys.specs.Keys.{ramp_of, ramps_new}
use Rattle.pressure.specs.Force.{zero32, ramp_new}
use Rattle.pressure.proofs.Kept.{new_ok}
use Rattle.timers.specs.Facts.{TmrOk}
use Rattle.timers.specs.Timer.{tmr_of}
use Rattle.state.specs.State.{next_event, chip_new, panel_new, board_new}
use Rattle.state.specs.Whole.{Whole}

ramp-new : (i : ℕ) → i < 41 → ramp_of ramps_new i ≡ ramp_new
ramp-new i h =
    rw (get_or-replicate {A = Float} 41 i zero32 nan h, get_or-replicate {A = ℕ} 41 i 0 0 h)

tmr-new : (i : ℕ) → i < 4 → TmrOk (tmr_of (chip_new 0).tmr i) 0
unfolding chip_new
tmr-new zero h = record { start = omega arith; next = inr refl; prd = omega arith }
tmr-new (suc zero) h = record { start = omega arith; next = inr refl; prd = omega arith }
tmr-new (suc (suc zero)) h = record { start = omega arith; next = inr refl; prd = omega arith }
tmr-new (suc (suc (suc zero))) h = record { start = omega arith; next = inr refl; prd = omega arith }
tmr-new (suc (suc (suc (suc i)))) h = absurd (omega arith)

enc_ok : EncOk enc_new
enc_ok = record { next = inl (omega arith); state = omega arith }

-- past its end the list reads as an encoder at rest, too
enc-new : (i : ℕ) → EncOk (enc_of (chip_new 0).enc i)
unfolding chip_new
enc-new zero = enc_ok
enc-new (suc zero) = enc_ok
enc-new (suc (suc zero)) = enc_ok
enc-new (suc (suc (suc zero))) = enc_ok
enc-new (suc (suc (suc (suc zero)))) = enc_ok
enc-new (suc (suc (suc (suc (suc zero))))) = enc_ok
enc-new (suc (suc (suc (suc (suc (suc zero)))))) = enc_ok
enc-new (suc (suc (suc (suc (suc (suc (suc zero))))))) = enc_ok
enc-new (suc (suc (suc (suc (suc (suc (suc (suc i)))))))) = enc_ok

pub new-whole : (hz : ℕ) → rate_min ≤ hz → hz ≤ rate_max → Whole (board_new hz)
unfolding chip_new panel_new next_event
new-whole hz l h = record {
  sound = record {
    chip = record {
      clock = record { low = l; high = h; cycles = omega arith };
      t4 = record { base = omega arith; read = omega arith };
      t5 = record { next = inr refl; prd = omega arith };
      tmr = tmr-new;
      tmrs = refl;
      tick = record { start = omega arith; next = inr refl };
      audio = record { next = inr refl; half = omega arith; len = omega arith };
      spi = record { done = inl (omega arith); irq = inr refl; spi2 = inr refl };
      uart = record {
        next = inr refl;
        timeout = inr refl;
        idle = λ e. refl;
        empty = λ e. refl;
        place = omega arith;
        count = omega arith;
        wr = omega arith;
        rxcnt = omega arith;
        otcnt = omega arith;
      };
      host = record { usb = inr refl; wdt = inr refl; period = inl refl };
      script = record { place = omega arith; count = omega arith };
      pins = record { last = omega arith; since = omega arith; pend = omega arith };
      enc = λ i k. enc-new i;
      encs = refl;
      keys = record { low = omega arith; high = omega arith };
    };
    ramps = λ i k. rw (ramp-new i k) (new_ok 0 (hz / 50));
    sized = record { t0 = refl; dur = refl; from = refl; to = refl };
    light = λ i k. rw (get_or-replicate {A = ℕ} 41 i 0 0 k) (omega arith);
  };
  due = omega arith;
}
