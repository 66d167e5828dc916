-- TIMER5 (0x10900): its state after a moment, and each register as it reads and is written, in the source's order.
use Rattle.std.specs.Prelude.{ℕ, ◌+◌, ◌-◌, ◌*◌, ◌/◌, ◌%◌, min, max, cond, ◌==◌, bit_and, bit_or, nat_lt}
use Rattle.base.specs.Bits.{is_set, unless_of}
use Rattle.base.specs.Moments.{never, rearmed_of, switched_of}
use Rattle.times.specs.Clocks.{cycles_of_mhz6, t5_hz}
use Rattle.timers.specs.declared.timer5.T5.{T5}

abbrev pub t5_new : T5
t5_new = record { next = never; pending = 0; con = 0; prd = 0 }

-- the cycles of a period: PRD counts, a PRD of 0 counting as 1, and never none
unfoldable pub t5_period : T5 → ℕ → ℕ
t5_period t hz = max (cycles_of_mhz6 (max t.prd 1) hz) 1

-- the timer with another deadline, pending, CON and PRD
abbrev pub t5_with : T5 → ℕ → ℕ → ℕ → ℕ → T5
t5_with t next pending con prd = record { next = next; pending = pending; con = con; prd = prd }

-- before its deadline nothing; at it pending, and rearmed
unfoldable pub t5_at : T5 → ℕ → ℕ → T5
t5_at t now hz =
    cond (nat_lt now t.next) t
    (t5_with t (rearmed_of t.next now (t5_period t hz)) 1 t.con t.prd)

-- 0x10900: bit 15 is its interrupt
abbrev pub t5_con : T5 → ℕ
t5_con t = cond (t.pending == 0) t.con (bit_or t.con 0x8000)

-- 0x10904: the counts since the period began; "TIMER5's count reads 0 when its deadline is already past"
unfoldable pub t5_cnt : T5 → ℕ → ℕ → ℕ
t5_cnt t now hz =
    cond (bit_and t.con 1 == 0) 0
    (cond (t.next == never) 0
    (cond (nat_lt t.next now) 0
    ((t5_period t hz - min (t.next - now) (t5_period t hz)) * t5_hz / hz % max t.prd 1)))

-- 0x10908 reads as it is kept
abbrev pub t5_prd : T5 → ℕ
t5_prd t = t.prd

-- 0x10900 written: bit 14 acknowledges, bit 0 starts a period or stops it; bits 14 and 15 are not kept
unfoldable pub t5_con_written : T5 → ℕ → ℕ → ℕ → T5
t5_con_written t v now hz =
    t5_with t (switched_of (is_set t.con 1) (is_set v 1) t.next (now + t5_period t hz))
    (unless_of (is_set v 0x4000) t.pending) (bit_and v 0xffff3fff) t.prd

-- 0x10904 written: nothing. 0x10908:
abbrev pub t5_prd_written : T5 → ℕ → T5
t5_prd_written t v = t5_with t t.next t.pending t.con v
