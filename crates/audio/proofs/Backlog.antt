-- A backlog stays due: where two halves have finished by a moment, a step hands out the one and a second step at the same moment the other.
use Rattle.std.proofs.Common.{◌≡◌, ℕ, ◌+◌, ◌≤◌, arith, le-ltb}
use Rattle.audio.specs.declared.Audio.{Audio}
use Rattle.std.specs.Prelude.{Some}
use Rattle.audio.specs.Audio.{words_of, half_period, half_addr, finished, audio_at}

module _ (a : Audio) (now hz : ℕ) (h : a.next + half_period a hz ≤ now) where
  pub first-half : audio_at a now hz ≡ record { audio = finished a hz; half = Some (record { addr = half_addr a; words = words_of a }) }
  unfolding audio_at
  first-half = rw (le-ltb now a.next (omega arith))

  again : audio_at (finished a hz) now hz
      ≡ record { audio = finished (finished a hz) hz; half = Some (record { addr = half_addr (finished a hz); words = words_of (finished a hz) }) }
  unfolding audio_at finished
  again = rw (le-ltb now (a.next + half_period a hz) h)

  pub second-half : audio_at (audio_at a now hz).audio now hz
      ≡ record { audio = finished (finished a hz) hz; half = Some (record { addr = half_addr (finished a hz); words = words_of (finished a hz) }) }
  second-half = rw first-half again
