-- The keys' share of a whole record is kept by every press, release and pressure, and a ramp changes only where it is put.
use mathlib.Core.Path.{◌≡◌, refl, ◌∙◌}
use mathlib.Core.Bool.{Bool, true, false, cond, not, ◌&&◌}
use Prim.Native.Nat.{ℕ, ◌/◌, ◌≤◌, ◌<◌}
use native.Mathlib.Nat.{le_trans}
use native.Mathlib.Omega.{arith}
use borrow.Author.Tests.{eqb-true, eqb-false, ltb-true}
use lib.Dec.{eqb, ltb, leb}
use lib.Ieee.{Float, nan}
use lib.ListN.{length-set}
use lib.Seq.{get_or-set_same, get_or-set_other}
use Rattle.base.specs.Moments.{clock_max}
use Rattle.base.proofs.Flags.{and_left}
use Rattle.pressure.specs.Facts.{Force, RampOk}
use Rattle.pressure.specs.Force.{ramp_most, zero32, one32, turned_of, vel_force}
use Rattle.pressure.specs.declared.ramp.Ramp.{Ramp}
use Rattle.pressure.proofs.Kept.{force-0, force-1, force-vel, turned-ok, later-ok}
use Rattle.times.specs.Clocks.{ramp_cycles}
use Rattle.times.specs.declared.RampTime.{RampTime}
use Rattle.times.specs.declared.RampTime.TheVariants.{Press, Release, Pressure}
use Rattle.times.proofs.Exact.{ramp-short}
use Rattle.keys.specs.Keys.{Pressed, is_down, ramp_of, with_ramp, toggled, turned_ramps, vel_written, landing_of, press_of, release_of, pressure_of}
use Rattle.base.specs.Bits.{has_bit}
use Rattle.keys.specs.Facts.{KeysOk, RampsOk, Sized, RampsShort}
use Rattle.keys.specs.declared.Keys.{Keys}
use Rattle.keys.specs.declared.Ramps.{Ramps}

-- within 01's rates every force can be worked out
pub ramps-short : (rs : Ramps) (now hz : ℕ) → now ≤ clock_max → hz ≤ 800_000_000 → RampsOk rs now hz → RampsShort rs
ramps-short rs now hz c h w i k =
    let d = (w i k).dur in
    let t = (w i k).t0 in (le_trans t c, omega arith)

pub vel-kept : (k : Keys) (vel : ℕ) → KeysOk (vel_written k vel)
vel-kept k vel = record { low = omega arith; high = omega arith }

module _ (rs : Ramps) (s : Sized rs) (i : ℕ) (r : Ramp) where
  pub with-sized : Sized (with_ramp rs i r)
  with-sized = record {
    t0 = length-set rs.t0 i r.t0 ∙ s.t0;
    dur = length-set rs.dur i r.dur ∙ s.dur;
    from = length-set rs.from i r.from ∙ s.from;
    to = length-set rs.to i r.to ∙ s.to;
  }

  -- key i's ramp is the one put there
  pub ramp-put : i < 41 → ramp_of (with_ramp rs i r) i ≡ r
  ramp-put h =
      rw (get_or-set_same rs.t0 i r.t0 0 (rw s.t0 h), get_or-set_same rs.dur i r.dur 0 (rw s.dur h), get_or-set_same rs.from i r.from nan (rw s.from h), get_or-set_same rs.to i r.to nan (rw s.to h))

  -- and any other key's is as it was
  pub ramp-other : (j : ℕ) → (j ≡ i → ⊥) → ramp_of (with_ramp rs i r) j ≡ ramp_of rs j
  ramp-other j n =
      rw (get_or-set_other rs.t0 i j r.t0 0 n, get_or-set_other rs.dur i j r.dur 0 n, get_or-set_other rs.from i j r.from nan n, get_or-set_other rs.to i j r.to nan n)

module _ (rs : Ramps) (s : Sized rs) (past now hz : ℕ) (l : past ≤ now) (r50 : hz / 50 ≤ ramp_most) (w : RampsOk rs past hz) where
  pub ramps-later : RampsOk rs now hz
  ramps-later i h = later-ok (ramp_of rs i) past (hz / 50) (w i h) r50 now l

  pub ramps-turned : (i : ℕ) (to : Float) (time : RampTime) → i < 41 → Force to → RampsOk (turned_ramps rs i now to time hz) now hz
  unfolding turned_ramps
  ramps-turned i to time k f j h = go (eqb j i) refl
    where
      r : Ramp
      r = turned_of (ramp_of rs i) now to (ramp_cycles time hz)

      new : RampOk r now (hz / 50)
      new = turned-ok (ramp_of rs i) past (hz / 50) (w i k) r50 now to (ramp_cycles time hz) (ramp-short time hz) f

      go : (t : Bool) → eqb j i ≡ t → RampOk (ramp_of (with_ramp rs i r) j) now (hz / 50)
      go true e = rw (eqb-true j i e, ramp-put rs s i r k) new
      go false e = rw (ramp-other rs s i r j (eqb-false j i e)) (ramps-later j h)

  -- W3 and W9 through the actions Key and Pressure
  landing-force : (k : Keys) (id : ℕ) → Force (landing_of k id)
  landing-force k id = go (ltb id 14)
    where
      go : (button : Bool) → Force (cond button one32 (vel_force k.vel))
      go true = force-1
      go false = force-vel k.vel

  pub press-kept : (k : Keys) (id : ℕ) → RampsOk (press_of k rs id now hz).ramps now hz
  unfolding press_of
  press-kept k id = go (ltb id 41) refl (is_down k.down id)
    where
      go : (key : Bool) → ltb id 41 ≡ key → (held : Bool) → RampsOk
          (cond {A = Pressed} (key && not held) (record { keys = toggled k id; ramps = turned_ramps rs id now (landing_of k id) Press hz })
          (record { keys = k; ramps = rs })).ramps now hz
      go true e false = ramps-turned id (landing_of k id) Press (ltb-true id 41 e) (landing-force k id)
      go true e true = ramps-later
      go false e held = ramps-later

  pub release-kept : (k : Keys) (id : ℕ) → RampsOk (release_of k rs id now hz).ramps now hz
  unfolding release_of
  release-kept k id = go (is_down k.down id) refl
    where
      go : (held : Bool) → is_down k.down id ≡ held → RampsOk
          (cond {A = Pressed} held (record { keys = toggled k id; ramps = turned_ramps rs id now zero32 Release hz }) (record { keys = k; ramps = rs })
          ).ramps now hz
      go true e = ramps-turned id zero32 Release (ltb-true id 41 (and_left (ltb id 41) (has_bit k.down id) e)) force-0
      go false e = ramps-later

  pub pressure-kept : (k : Keys) (id vel : ℕ) → RampsOk (pressure_of k rs id vel now hz) now hz
  unfolding pressure_of
  pressure-kept k id vel = go (leb 14 id) (is_down k.down id) refl
    where
      go : (note held : Bool) → is_down k.down id ≡ held → RampsOk
          (cond (note && held) (turned_ramps rs id now (vel_force vel) Pressure hz) rs) now hz
      go true true e =
          ramps-turned id (vel_force vel) Pressure (ltb-true id 41 (and_left (ltb id 41) (has_bit k.down id) e)) (force-vel vel)
      go true false e = ramps-later
      go false held e = ramps-later
