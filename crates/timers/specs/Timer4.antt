-- TIMER4 (0x10800): its registers, and a skipping count read.
use Rattle.std.specs.Prelude.{ℕ, ◌+◌, ◌-◌, ◌/◌, ◌%◌, ◌^◌, min, Bool, cond, ◌&&◌, ◌==◌, bit_and, nat_le, nat_lt}
use Rattle.base.specs.Bits.{is_set}
use Rattle.base.specs.Moments.{started_of}
use Rattle.times.specs.Clocks.{mhz24_of_cycles}
use Rattle.timers.specs.declared.timer4.T4.{T4}
use Rattle.timers.specs.declared.timer4.Polled.{Polled}

abbrev pub t4_new : T4
t4_new = record { base = 0; last_cnt_read = 0; con = 0; cnt_streak = 0 }

-- 0x10800 reads as it is kept
abbrev pub t4_con : T4 → ℕ
t4_con t = t.con

-- 0x10804: the 24 MHz counts since the base, the low 32 bits; 0 while it is off
unfoldable pub t4_cnt : T4 → ℕ → ℕ → ℕ
t4_cnt t now hz = cond (bit_and t.con 1 == 0) 0 (mhz24_of_cycles (now - t.base) hz)

-- reads less than 64 cycles apart, in a row
abbrev pub streak_of : ℕ → ℕ → ℕ
streak_of before apart = cond (nat_lt apart 64) ((before + 1) % 2 ^ 32) 0

-- from the third such read on the clock goes to just before the next event, and at most 20 us on (rate / 50,000)
abbrev pub poll_end : ℕ → ℕ → ℕ → ℕ → ℕ
poll_end streak now hz event =
    cond (nat_lt streak 2) now (cond (nat_lt (now + 1) (min event (now + hz / 50_000))) (min event (now + hz / 50_000) - 1) now)

-- the timer counting from another moment, with another CON; and after another read of its count
abbrev pub t4_counting : T4 → ℕ → ℕ → T4
t4_counting t base con = record { base = base; last_cnt_read = t.last_cnt_read; con = con; cnt_streak = t.cnt_streak }

abbrev pub t4_after : T4 → ℕ → ℕ → T4
t4_after t last streak = record { base = t.base; last_cnt_read = last; con = t.con; cnt_streak = streak }

-- a count read of a running TIMER4 outside an ISR with skipping on: the timer after it, and the clock
unfoldable pub poll_of : T4 → ℕ → ℕ → ℕ → Polled
poll_of t now hz event =
    let streak = streak_of t.cnt_streak (now - t.last_cnt_read) in
    let end = poll_end streak now hz event in
    record { t4 = t4_after t end streak; clock = end }

-- what such a read adds to `skipped`, which wraps, and what it leaves of `next_due`: 0 where it jumped
abbrev pub poll_skipped : ℕ → ℕ → ℕ → ℕ
poll_skipped skipped now end = (skipped + (end - now)) % 2 ^ 64

abbrev pub poll_due : ℕ → ℕ → ℕ → ℕ
poll_due due now end = cond (nat_lt now end) 0 due

-- 0x10800 written: going on starts the count; bit 14 is not kept
abbrev pub t4_con_written : T4 → ℕ → ℕ → T4
t4_con_written t v now = t4_counting t (started_of (is_set t.con 1) (is_set v 1) t.base now) (bit_and v 0xffffbfff)

-- 0x10804 written, whatever it is: a restart. 0x10808 written: nothing
abbrev pub t4_cnt_written : T4 → ℕ → T4
t4_cnt_written t now = t4_counting t now t.con

-- its part of a whole record: its moments are past
abbrev pub t4_whole : T4 → ℕ → Bool
t4_whole t now = nat_le t.base now && nat_le t.last_cnt_read now
