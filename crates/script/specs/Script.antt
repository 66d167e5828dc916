-- The script's ring: the place of its front, how many wait, and the front's time.
use Rattle.std.specs.Prelude.{ℕ, ◌+◌, ◌-◌, ◌%◌, ◌≤◌, ◌<◌, Bool, cond, ◌&&◌, eqb, ltb, leb}
use Rattle.base.specs.Moments.{never}
use Rattle.script.specs.declared.Script.{Script}

-- "script 256 entries"
abbrev pub entries : ℕ
entries = 256

abbrev pub script_new : Script
script_new = record { at = never; place = 0; count = 0 }

-- the front's time, "counted as all ones while the ring is empty"
abbrev pub front_time : Script → ℕ
front_time s = cond (eqb s.count 0) never s.at

-- "places and counts lie in their rings"
abbrev pub script_whole : Script → Bool
script_whole s = ltb s.place entries && leb s.count entries

-- the same as facts
pub record ScriptOk (s : Script) : Type 0 where
  pub place : s.place < entries
  pub count : s.count ≤ entries

-- ---- what a push and a take do to the record

-- where a push puts its entry: behind the last, round the end
abbrev pub spot_of : Script → ℕ
spot_of s = (s.place + s.count) % entries

abbrev pub full_of : Script → Bool
full_of s = leb entries s.count

-- one more waits; its time is the front's if none waited
abbrev pub pushed_of : Script → ℕ → Script
pushed_of s at = record { at = cond (eqb s.count 0) at s.at; place = s.place; count = s.count + 1 }

-- the front's time as a look showed it
abbrev pub looked_of : Script → ℕ → Script
looked_of s at = record { at = at; place = s.place; count = s.count }

abbrev pub next_place : Script → ℕ
next_place s = (s.place + 1) % entries

-- the front gone
abbrev pub taken_of : Script → Script
taken_of s = record { at = s.at; place = next_place s; count = s.count - 1 }
