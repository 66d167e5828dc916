-- ALNK0 (0x12e00): a finished half, and each register as it reads and is written, in the source's order.
use Rattle.std.specs.Prelude.{ℕ, ◌+◌, ◌-◌, ◌*◌, ◌/◌, ◌%◌, ◌^◌, max, Bool, cond, ◌&&◌, bit_and, bit_or, nat_le, nat_lt, Some, None}
use Rattle.base.specs.Bits.{is_set, when_of}
use Rattle.base.specs.Moments.{never, is_deadline, started_of, switched_of}
use Rattle.times.specs.Clocks.{cycles_of_mhz24}
use Rattle.audio.specs.declared.Audio.{Audio}
use Rattle.audio.specs.declared.Played.{Played}

abbrev pub audio_new : Audio
audio_new =
    record { next = never; halves = 0; half = 0; con0 = 0; con1 = 0; con3 = 0; pend = 0; adr = 0; len = 0 }

-- the words of a half: LEN, at least two (a frame)
abbrev pub words_of : Audio → ℕ
words_of a = max a.len 2

-- a half's cycles: two words a frame, 544 counts of 24 MHz a frame
unfoldable pub half_period : Audio → ℕ → ℕ
half_period a hz = max (cycles_of_mhz24 (words_of a / 2 * 544) hz) 1

-- "Bit 7 always pends, bits 4 to 6 by CON1": a channel's four bits in CON1
abbrev pub pends_by : ℕ → ℕ
pends_by con1 =
    bit_or (bit_or (bit_or (when_of (is_set con1 0xf) 0x10) (when_of (is_set con1 0xf0) 0x20)) (when_of (is_set con1 0xf00) 0x40)) 0x80

-- where the half that is playing lies, on 32 bits
abbrev pub half_addr : Audio → ℕ
half_addr a = (a.adr + a.half * words_of a * 4) % 2 ^ 32

-- the block with another half playing: its deadline, the halves so far, which half, CON0, what pends
abbrev pub playing : Audio → ℕ → ℕ → ℕ → ℕ → ℕ → Audio
playing a next halves half con0 pend =
    record {
      next = next;
      halves = halves;
      half = half;
      con0 = con0;
      con1 = a.con1;
      con3 = a.con3;
      pend = pend;
      adr = a.adr;
      len = a.len;
    }

-- the block once its half has finished: "the next deadline is old plus period, so a backlog stays due"
unfoldable pub finished : Audio → ℕ → Audio
finished a hz =
    playing a (a.next + half_period a hz) ((a.halves + 1) % 2 ^ 64) (1 - a.half) a.con0 (bit_or a.pend (pends_by a.con1))

-- "One half a step": before the deadline nothing; at it one half is handed out
unfoldable pub audio_at : Audio → ℕ → ℕ → Played
audio_at a now hz =
    cond (nat_lt now a.next) (record { audio = a; half = None })
    (record { audio = finished a hz; half = Some (record { addr = half_addr a; words = words_of a }) })

-- 0x12e00: bit 15 is the half playing
abbrev pub con0_read : Audio → ℕ
con0_read a = bit_or (bit_and a.con0 0xffff7fff) (a.half * 2 ^ 15 % 2 ^ 32)

-- 0x12e00 written: bit 11 starts the first half or stops; bits 0 to 14 are kept
unfoldable pub con0_written : Audio → ℕ → ℕ → ℕ → Audio
con0_written a v now hz =
    playing a (switched_of (is_set a.con0 0x800) (is_set v 0x800) a.next (now + half_period a hz)) a.halves
    (started_of (is_set a.con0 0x800) (is_set v 0x800) a.half 0) (bit_and v 0x7fff) a.pend

-- 0x12e04, 0x12e08, 0x12e0c, 0x12e1c, 0x12e20: each reads as it is kept
abbrev pub con1_read : Audio → ℕ
con1_read a = a.con1

abbrev pub pend_read : Audio → ℕ
pend_read a = a.pend

abbrev pub con3_read : Audio → ℕ
con3_read a = a.con3

abbrev pub adr_read : Audio → ℕ
adr_read a = a.adr

abbrev pub len_read : Audio → ℕ
len_read a = a.len

-- the block with other registers, its half and its deadline as they were
abbrev pub with_registers : Audio → ℕ → ℕ → ℕ → ℕ → ℕ → Audio
with_registers a con1 con3 pend adr len =
    record {
      next = a.next;
      halves = a.halves;
      half = a.half;
      con0 = a.con0;
      con1 = con1;
      con3 = con3;
      pend = pend;
      adr = adr;
      len = len;
    }

-- 0x12e04 written
abbrev pub con1_written : Audio → ℕ → Audio
con1_written a v = with_registers a (bit_and v 0xffff) a.con3 a.pend a.adr a.len

-- 0x12e08 written: bits 0 to 3 clear pendings 4 to 7
abbrev pub pend_written : Audio → ℕ → Audio
pend_written a v =
    with_registers a a.con1 a.con3 (bit_and a.pend (2 ^ 32 - 1 - bit_and v 0xf * 2 ^ 4 % 2 ^ 32)) a.adr a.len

-- 0x12e0c written
abbrev pub con3_written : Audio → ℕ → Audio
con3_written a v = with_registers a a.con1 (bit_and v 0xff) a.pend a.adr a.len

-- 0x12e1c written
abbrev pub adr_written : Audio → ℕ → Audio
adr_written a v = with_registers a a.con1 a.con3 a.pend v a.len

-- 0x12e20 written
abbrev pub len_written : Audio → ℕ → Audio
len_written a v = with_registers a a.con1 a.con3 a.pend a.adr (bit_and v 0xffff)

-- its part of a whole record: a deadline, "the audio half 0 or 1, lengths within their masks"
abbrev pub audio_whole : Audio → Bool
audio_whole a = is_deadline a.next && nat_le a.half 1 && nat_le a.len 65535
