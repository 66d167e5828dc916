-- Moments and writes keep the audio block's part of a whole record; before its deadline it is itself.
use Rattle.std.proofs.Common.{◌≡◌, ℕ, ◌+◌, ◌*◌, ◌/◌, ◌^◌, ◌<◌, ◌≤◌, inl, ⊎_elim, arith, le-ltb, lt-ltb}
use lib.Bits.{and_le_r}
use Rattle.base.proofs.Cases.{lt-or-ge}
use Rattle.base.proofs.Deadlines.{switched-fact, started-most}
use Rattle.base.specs.Bits.{is_set}
use Rattle.base.specs.Moments.{clock_max}
use Rattle.times.specs.Clocks.{cycles_of_mhz24}
use Rattle.times.proofs.Quotients.{slower}
use Rattle.audio.specs.declared.Audio.{Audio}
use Rattle.std.specs.Prelude.{None}
use Rattle.audio.specs.Audio.{words_of, half_period, finished, audio_at, con0_written, con1_written, pend_written, con3_written, adr_written, len_written}
use Rattle.audio.specs.Facts.{AudioOk}

pub audio-quiet : (a : Audio) (now hz : ℕ) → now < a.next → audio_at a now hz ≡ record { audio = a; half = None }
unfolding audio_at
audio-quiet a now hz h = rw (lt-ltb now a.next h)

pub half-period-most : (a : Audio) (hz : ℕ) → AudioOk a → hz < 2 ^ 32 → half_period a hz ≤ 2 ^ 32
unfolding half_period
half-period-most a hz w g =
    let n = words_of a / 2 * 544 in
    let k : cycles_of_mhz24 n hz ≤ n * 179 = slower n hz 179 24_000_000 (omega arith) (omega arith) in
    omega (arith, w.len)

module _ (a : Audio) (now hz : ℕ) (w : AudioOk a) (c : now ≤ clock_max) (g : hz < 2 ^ 32) where
  finished-kept : a.next ≤ now → AudioOk (finished a hz)
  unfolding finished
  finished-kept l =
      record { next = inl (omega (arith, half-period-most a hz w g)); half = omega arith; len = w.len }

  pub audio-at-kept : AudioOk (audio_at a now hz).audio
  unfolding audio_at
  audio-at-kept =
      ⊎_elim
      (λ (l : now < a.next). rw (lt-ltb now a.next l) w)
      (λ (l : a.next ≤ now). rw (le-ltb now a.next l) (finished-kept l))
      (lt-or-ge now a.next)

  pub con0-kept : (v : ℕ) → AudioOk (con0_written a v now hz)
  unfolding con0_written
  con0-kept v =
      record {
        next = switched-fact (is_set a.con0 0x800) (is_set v 0x800) a.next (now + half_period a hz) w.next
            (inl (omega (arith, half-period-most a hz w g)));
        half = started-most (is_set a.con0 0x800) (is_set v 0x800) a.half 0 1 w.half (omega arith);
        len = w.len;
      }

module _ (a : Audio) (v : ℕ) (w : AudioOk a) where
  pub con1-kept : AudioOk (con1_written a v)
  con1-kept = record { next = w.next; half = w.half; len = w.len }

  pub pend-kept : AudioOk (pend_written a v)
  pend-kept = record { next = w.next; half = w.half; len = w.len }

  pub con3-kept : AudioOk (con3_written a v)
  con3-kept = record { next = w.next; half = w.half; len = w.len }

  pub adr-kept : AudioOk (adr_written a v)
  adr-kept = record { next = w.next; half = w.half; len = w.len }

  pub len-kept : AudioOk (len_written a v)
  len-kept = record { next = w.next; half = w.half; len = and_le_r v 65535 }
