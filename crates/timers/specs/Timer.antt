-- Timers 0 to 3 (0x10400 + 0x100 * n): the state after a moment, arming, and each register as it reads and is written.
use Rattle.std.specs.Prelude.{ℕ, ◌+◌, ◌-◌, ◌*◌, ◌/◌, ◌%◌, ◌^◌, min, max, Bool, cond, ◌&&◌, ◌||◌, List, map, ◌==◌, bit_and, bit_or, nat_le, nat_lt, slice_index_or}
use Rattle.base.specs.AllTo.{all_to}
use Rattle.base.specs.Bits.{is_set, unless_of}
use Rattle.base.specs.Moments.{never, is_deadline, rearmed_of}
use Rattle.times.specs.Clocks.{cycles_of_mhz24}
use Rattle.times.specs.Divider.{divider_of}
use Rattle.timers.specs.declared.timer.Tmr.{Tmr}

abbrev pub tmr_new : Tmr
tmr_new = record { start = 0; next = never; con = 0; prd = 0; cnt0 = 0; pending = 0 }

-- cycles per count: the divider of CON bits 4 to 7 in counts of the crystal, at least one cycle
unfoldable pub tmr_per_count : Tmr → ℕ → ℕ
tmr_per_count t hz = max (cycles_of_mhz24 (divider_of (t.con / 16)) hz) 1

-- a period's cycles: PRD counts, a PRD of 0 counting as 1
unfoldable pub tmr_period : Tmr → ℕ → ℕ
tmr_period t hz = max t.prd 1 * tmr_per_count t hz

-- the timer counting from another moment on, to another deadline; and with other registers: CON, PRD, where it counts from, its pending
abbrev pub tmr_counting : Tmr → ℕ → ℕ → Tmr
tmr_counting t start next = record { start = start; next = next; con = t.con; prd = t.prd; cnt0 = t.cnt0; pending = t.pending }

abbrev pub tmr_with : Tmr → ℕ → ℕ → ℕ → ℕ → Tmr
tmr_with t con prd cnt0 pending = record { start = t.start; next = t.next; con = con; prd = prd; cnt0 = cnt0; pending = pending }

-- before its deadline nothing; at it pending, counting from 0 since that deadline, and rearmed
unfoldable pub tmr_at : Tmr → ℕ → ℕ → Tmr
tmr_at t now hz =
    cond (nat_lt now t.next) t
    (tmr_counting (tmr_with t t.con t.prd 0 1) t.next (rearmed_of t.next now (tmr_period t hz)))

-- +0: bit 15 is its interrupt
abbrev pub tmr_con : Tmr → ℕ
tmr_con t = cond (t.pending == 0) t.con (bit_or t.con 0x8000)

-- +4: the counts since `start` on top of where it counts from, while it has a deadline; "Counter reads may wrap"
unfoldable pub tmr_cnt : Tmr → ℕ → ℕ → ℕ
tmr_cnt t now hz =
    cond (t.next == never) t.cnt0 ((t.cnt0 + (now - t.start) / tmr_per_count t hz % 2 ^ 32) % 2 ^ 32)

-- +8 reads as it is kept
abbrev pub tmr_prd : Tmr → ℕ
tmr_prd t = t.prd

-- after a write it starts anew from CNT if it is on (CON bits 0, 1) and has a period; else it has no deadline
unfoldable pub tmr_armed : Tmr → ℕ → ℕ → Tmr
tmr_armed t now hz =
    cond (bit_and t.con 3 == 0 || t.prd == 0)
    (tmr_counting t t.start never)
    (tmr_counting t now (now + max (t.prd - t.cnt0) 1 * tmr_per_count t hz))

-- +0 written: bit 14 acknowledges; bits 14 and 15 are not kept
unfoldable pub tmr_con_written : Tmr → ℕ → ℕ → ℕ → Tmr
tmr_con_written t v now hz =
    tmr_armed (tmr_with t (bit_and v 0xffff3fff) t.prd t.cnt0 (unless_of (is_set v 0x4000) t.pending)) now hz

-- +4 written
unfoldable pub tmr_cnt_written : Tmr → ℕ → ℕ → ℕ → Tmr
tmr_cnt_written t v now hz = tmr_armed (tmr_with t t.con t.prd v t.pending) now hz

-- +8 written
unfoldable pub tmr_prd_written : Tmr → ℕ → ℕ → ℕ → Tmr
tmr_prd_written t v now hz = tmr_armed (tmr_with t t.con v t.cnt0 t.pending) now hz

-- its part of a whole record: the start is past, the next a deadline
abbrev pub tmr_whole : Tmr → ℕ → Bool
tmr_whole t now = is_deadline t.next && nat_le t.start now

-- what the code reads past an array's end, where it never reads
abbrev pub no_tmr : Tmr
no_tmr = record { start = 0; next = 0; con = 0; prd = 0; cnt0 = 0; pending = 0 }

abbrev pub tmr_of : List Tmr → ℕ → Tmr
tmr_of ts i = slice_index_or ts i no_tmr

-- the four: each after the moment, the earliest deadline, and each one's part of a whole record
unfoldable pub tmrs_at : List Tmr → ℕ → ℕ → List Tmr
tmrs_at ts now hz = map (λ t. tmr_at t now hz) ts

abbrev pub tmrs_next : List Tmr → ℕ
tmrs_next ts = min (tmr_of ts 0).next (min (tmr_of ts 1).next (min (tmr_of ts 2).next (tmr_of ts 3).next))

unfoldable pub tmrs_whole : List Tmr → ℕ → Bool
tmrs_whole ts now = all_to (λ i. tmr_whole (tmr_of ts i) now) 4
