-- The keys: which are down, the velocity of the next presses, and each key's force, a ramp.
use Rattle.std.specs.Prelude.{ℕ, ◌/◌, ◌^◌, min, max, Bool, cond, not, ◌&&◌, List, ltb, leb, Float, get_or, set, replicate}
use Rattle.std.specs.Int.Bits.{bit_xor}
use Rattle.std.specs.Float.{nan}
use Rattle.base.specs.Bits.{has_bit}
use Rattle.base.specs.AllTo.{all_to}
use Rattle.pressure.specs.Force.{zero32, one32, is_force, turned_of, vel_force}
use Rattle.pressure.specs.declared.ramp.Ramp.{Ramp}
use Rattle.times.specs.Clocks.{ramp_cycles}
use Rattle.times.specs.declared.RampTime.{RampTime}
use Rattle.times.specs.declared.RampTime.TheVariants.{Press, Release, Pressure}
use Rattle.keys.specs.declared.Keys.{Keys}
use Rattle.keys.specs.declared.Ramps.{Ramps}

abbrev pub keys_new : Keys
keys_new = record { down = 0; vel = 100 }

abbrev pub ramps_new : Ramps
ramps_new = record { t0 = replicate 41 0; dur = replicate 41 0; from = replicate 41 zero32; to = replicate 41 zero32 }

-- the keys that are down are the bits of `down`; an id above 40 is no key
abbrev pub is_down : ℕ → ℕ → Bool
is_down down id = ltb id 41 && has_bit down id

-- the record of four arrays
abbrev pub ramps_of : List ℕ → List ℕ → List Float → List Float → Ramps
ramps_of t0 dur from to = record { t0 = t0; dur = dur; from = from; to = to }

-- key i's ramp
abbrev pub ramp_of : Ramps → ℕ → Ramp
ramp_of rs i =
    record { from = get_or rs.from i nan; to = get_or rs.to i nan; t0 = get_or rs.t0 i 0; dur = get_or rs.dur i 0 }

abbrev pub with_ramp : Ramps → ℕ → Ramp → Ramps
with_ramp rs i r =
    record { t0 = set rs.t0 i r.t0; dur = set rs.dur i r.dur; from = set rs.from i r.from; to = set rs.to i r.to }

-- key i goes on from its force now to another, over one of the three times
unfoldable pub turned_ramps : Ramps → ℕ → ℕ → Float → RampTime → ℕ → Ramps
turned_ramps rs i now to time hz = with_ramp rs i (turned_of (ramp_of rs i) now to (ramp_cycles time hz))

-- KeyVel: "`key_vel` 1 to 127"
abbrev pub vel_written : Keys → ℕ → Keys
vel_written k vel = record { down = k.down; vel = min (max vel 1) 127 }

-- "Which ids are buttons: below 14"; they land at 1, a note key at its velocity's force
abbrev pub landing_of : Keys → ℕ → Float
landing_of k id = cond (ltb id 14) one32 (vel_force k.vel)

-- the force that a key goes to, and in which time: a press lands in 1.5 ms, a release lifts in 8 ms
abbrev pub goal_of : Keys → ℕ → Bool → Float
goal_of k id down = cond down (landing_of k id) zero32

abbrev pub time_of : Bool → RampTime
time_of down = cond down Press Release

-- what a key's press or release makes of both
pub record Pressed : Type 0 where
  pub keys : Keys
  pub ramps : Ramps

abbrev pub toggled : Keys → ℕ → Keys
toggled k id = record { down = bit_xor k.down (2 ^ id); vel = k.vel }

-- Key: a press lands in 1.5 ms, a release lifts in 8 ms; a key that is already so stays
unfoldable pub press_of : Keys → Ramps → ℕ → ℕ → ℕ → Pressed
press_of k rs id now hz =
    cond (ltb id 41 && not (is_down k.down id))
    (record { keys = toggled k id; ramps = turned_ramps rs id now (landing_of k id) Press hz })
    (record { keys = k; ramps = rs })

unfoldable pub release_of : Keys → Ramps → ℕ → ℕ → ℕ → Pressed
release_of k rs id now hz =
    cond (is_down k.down id)
    (record { keys = toggled k id; ramps = turned_ramps rs id now zero32 Release hz })
    (record { keys = k; ramps = rs })

abbrev pub key_of : Keys → Ramps → ℕ → Bool → ℕ → ℕ → Pressed
key_of k rs id down now hz = cond down (press_of k rs id now hz) (release_of k rs id now hz)

-- Pressure: a held note key goes to another force in 20 ms
unfoldable pub pressure_of : Keys → Ramps → ℕ → ℕ → ℕ → ℕ → Ramps
pressure_of k rs id vel now hz =
    cond (leb 14 id && is_down k.down id) (turned_ramps rs id now (vel_force vel) Pressure hz) rs

-- their part of a whole record
abbrev pub keys_whole : Keys → Bool
keys_whole k = leb 1 k.vel && leb k.vel 127

-- each of the times is at most `most`
unfoldable pub up_to : ℕ → List ℕ → Bool
up_to most l = all_to (λ i. leb (get_or l i 0) most) 41

unfoldable pub forces : List Float → Bool
forces l = all_to (λ i. is_force (get_or l i nan)) 41

-- "a ramp lasts at most rate/50 with forces from 0 to 1", and began in the past
unfoldable pub ramps_whole : Ramps → ℕ → ℕ → Bool
ramps_whole rs now hz = up_to now rs.t0 && up_to (hz / 50) rs.dur && forces rs.from && forces rs.to
