-- The OS tick (0x1eef0ec): its state after a moment, and each register as it reads and is written.
use Rattle.std.specs.Prelude.{ℕ, ◌+◌, ◌-◌, ◌/◌, min, max, Bool, cond, ◌&&◌, ◌==◌, bit_and, bit_or, nat_le, nat_lt}
use Rattle.base.specs.Bits.{is_set, unless_of}
use Rattle.base.specs.Moments.{never, is_deadline, rearmed_of, started_of, switched_of}
use Rattle.times.specs.Wide.{mul_div}
use Rattle.timers.specs.declared.os_tick.Tick.{Tick}

abbrev pub tick_new : Tick
tick_new = record { start = 0; next = never; pending = 0; ctl = 0; prd = 0 }

-- 10 ms, at least a cycle
abbrev pub tick_period : ℕ → ℕ
tick_period hz = max (hz / 100) 1

-- the tick counting from another moment on, to another deadline, with another pending; and with other registers
abbrev pub tick_counting : Tick → ℕ → ℕ → ℕ → Tick
tick_counting t start next pending = record { start = start; next = next; pending = pending; ctl = t.ctl; prd = t.prd }

abbrev pub tick_with : Tick → ℕ → ℕ → Tick
tick_with t ctl prd = record { start = t.start; next = t.next; pending = t.pending; ctl = ctl; prd = prd }

-- before its deadline nothing; at it pending, started there, and rearmed
unfoldable pub tick_at : Tick → ℕ → ℕ → Tick
tick_at t now hz =
    cond (nat_lt now t.next) t
    (tick_counting t t.next (rearmed_of t.next now (tick_period hz)) 1)

-- 0x1eef0ec: bit 7 is its interrupt
abbrev pub tick_ctl : Tick → ℕ
tick_ctl t = cond (t.pending == 0) t.ctl (bit_or t.ctl 0x80)

-- 0x1eef0f0: how far into the period, in the period register's units; 0 while it has no deadline
unfoldable pub tick_cnt : Tick → ℕ → ℕ → ℕ
tick_cnt t now hz =
    cond (t.next == never) 0 (mul_div (min (now - t.start) (tick_period hz)) t.prd (tick_period hz))

-- 0x1eef0f4 reads as it is kept
abbrev pub tick_prd : Tick → ℕ
tick_prd t = t.prd

-- 0x1eef0ec written: bit 6 acknowledges, bit 0 starts a period or stops it; bits 0 to 5 are kept
unfoldable pub tick_ctl_written : Tick → ℕ → ℕ → ℕ → Tick
tick_ctl_written t v now hz =
    tick_with
    (tick_counting t (started_of (is_set t.ctl 1) (is_set v 1) t.start now)
    (switched_of (is_set t.ctl 1) (is_set v 1) t.next (now + tick_period hz))
    (unless_of (is_set v 0x40) t.pending))
    (bit_and v 0x3f) t.prd

-- 0x1eef0f0 written, whatever it is: a restart
unfoldable pub tick_cnt_written : Tick → ℕ → ℕ → Tick
tick_cnt_written t now hz = tick_counting t now (cond (t.next == never) t.next (now + tick_period hz)) t.pending

-- 0x1eef0f4 written
abbrev pub tick_prd_written : Tick → ℕ → Tick
tick_prd_written t v = tick_with t t.ctl v

-- its part of a whole record: the start is past, the next a deadline
abbrev pub tick_whole : Tick → ℕ → Bool
tick_whole t now = is_deadline t.next && nat_le t.start now
