-- The keys' and their ramps' share of a whole record as facts.
use Rattle.std.specs.Prelude.{ℕ, ◌/◌, ◌≤◌, ◌<◌, ◌≡◌, length}
use Rattle.base.specs.Moments.{clock_max}
use Rattle.pressure.specs.Facts.{RampOk}
use Rattle.pressure.specs.Force.{ramp_most}
use Rattle.keys.specs.Keys.{ramp_of}
use Rattle.keys.specs.declared.Keys.{Keys}
use Rattle.keys.specs.declared.Ramps.{Ramps}

pub record KeysOk (k : Keys) : Type 0 where
  pub low : 1 ≤ k.vel
  pub high : k.vel ≤ 127

-- "a ramp lasts at most rate/50 with forces from 0 to 1", and began in the past
abbrev pub RampsOk : Ramps → ℕ → ℕ → Type 0
RampsOk rs now hz = (i : ℕ) → i < 41 → RampOk (ramp_of rs i) now (hz / 50)

-- the arrays are as long as their types say
pub record Sized (rs : Ramps) : Type 0 where
  pub t0 : length rs.t0 ≡ 41
  pub dur : length rs.dur ≡ 41
  pub from : length rs.from ≡ 41
  pub to : length rs.to ≡ 41

-- what it takes to work a force out
abbrev pub RampsShort : Ramps → Type 0
RampsShort rs = (i : ℕ) → i < 41 → ((ramp_of rs i).t0 ≤ clock_max) × ((ramp_of rs i).dur ≤ ramp_most)
