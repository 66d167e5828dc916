-- UART1 (0x12100), MIDI in: the queue behind the jack, a byte's arrival, the timeout, and each register as it reads and is written, in the
-- source's order.
use Rattle.std.specs.Prelude.{ℕ, ◌+◌, ◌-◌, ◌%◌, ◌^◌, min, max, Bool, cond, not, ◌&&◌, ◌||◌, List, ◌==◌, bit_and, bit_or, nat_le, nat_lt, slice_index, slice_set, Option, Some, None}
use Rattle.base.specs.Bits.{is_set, unless_of, when_of}
use Rattle.base.specs.Moments.{never, is_deadline}
use Rattle.base.specs.Ring.{ring}
use Rattle.base.specs.Wrap.{minus32}
use Rattle.times.specs.Clocks.{byte_time, cycles_of_uart}
use Rattle.uart.specs.declared.Uart.{Uart}
use Rattle.uart.specs.declared.Received.{Received}
use Rattle.uart.specs.declared.Byte.{Byte}

abbrev pub uart_new : Uart
uart_new =
    record {
      next = never;
      ot_next = never;
      dropped = 0;
      con0 = 0;
      rxsadr = 0;
      rxeadr = 0;
      rxcnt = 0;
      otcnt = 0;
      hrxcnt = 0;
      since = 0;
      wr = 0;
      rpnd = 0;
      otpnd = 0;
      tpnd = 0;
      irq = 0;
      place = 0;
      count = 0;
    }

-- The record with these fields: whatever changes some of them goes by this, so that a field more is written here, in `uart_new`, and where it changes.
abbrev pub uart_by : Uart → ℕ → ℕ → ℕ → ℕ → ℕ → ℕ → ℕ → ℕ → ℕ → ℕ → ℕ → ℕ → ℕ → ℕ → ℕ → ℕ → ℕ → Uart
uart_by u next at dropped con0 rxsadr rxeadr rxcnt otcnt hrxcnt since wr rpnd otpnd tpnd irq place count =
    record {
      next = next;
      ot_next = at;
      dropped = dropped;
      con0 = con0;
      rxsadr = rxsadr;
      rxeadr = rxeadr;
      rxcnt = rxcnt;
      otcnt = otcnt;
      hrxcnt = hrxcnt;
      since = since;
      wr = wr;
      rpnd = rpnd;
      otpnd = otpnd;
      tpnd = tpnd;
      irq = irq;
      place = place;
      count = count;
    }

-- ---- the queue

-- "Lent: queue 3,125 bytes"
abbrev pub queue_bytes : ℕ
queue_bytes = 3125

-- the bytes on their way in, the first first: `count` of them from `place` on, round the end of the lent memory
abbrev pub queue_of : Uart → List ℕ → List ℕ
queue_of u memory = ring 0 queue_bytes memory u.place u.count

-- when the queue's first byte arrives: a byte time from now, never where none waits
abbrev pub front_due : Uart → ℕ → ℕ → ℕ
front_due u now hz = cond (u.count == 0) never (now + byte_time hz)

-- the record with another queue: when its first byte arrives, the bytes lost, its place and its count
abbrev pub with_queue : Uart → ℕ → ℕ → ℕ → ℕ → Uart
with_queue u next dropped place count =
    uart_by u next u.ot_next dropped u.con0 u.rxsadr u.rxeadr u.rxcnt u.otcnt u.hrxcnt u.since u.wr u.rpnd u.otpnd u.tpnd u.irq place count

-- another deadline
abbrev pub due_at : Uart → ℕ → Uart
due_at u due = with_queue u due u.dropped u.place u.count

-- a byte lost, and counted
abbrev pub lost : Uart → Uart
lost u = with_queue u u.next (u.dropped + 1) u.place u.count

-- a byte more
abbrev pub longer : Uart → Uart
longer u = with_queue u u.next u.dropped u.place (u.count + 1)

-- the first byte gone
abbrev pub shorter : Uart → Uart
shorter u = with_queue u u.next u.dropped ((u.place + 1) % queue_bytes) (u.count - 1)

-- a byte offered to a queue with room: into an empty one it sets the deadline, if that is not sooner
unfoldable pub queued : Uart → ℕ → ℕ → Uart
queued u now hz =
    due_at (longer u) (cond (u.count == 0) (min u.next (front_due (longer u) now hz)) u.next)

-- a byte offered: "Byte 3,125 queues, the next drops"
unfoldable pub offer_of : Uart → ℕ → ℕ → Uart
offer_of u now hz = cond (nat_le queue_bytes u.count) (lost u) (queued u now hz)

-- the lent memory after it: the byte behind the last, or nothing
unfoldable pub offer_in : Uart → List ℕ → ℕ → List ℕ
offer_in u memory b = cond (nat_le queue_bytes u.count) memory (slice_set memory ((u.place + u.count) % queue_bytes) b)

-- the first byte leaves; the next one's time is from now
unfoldable pub front_gone : Uart → ℕ → ℕ → Uart
front_gone u now hz = due_at (shorter u) (front_due (shorter u) now hz)

-- ---- a byte's arrival

-- "end minus start, wrapped"
abbrev pub ring_len : Uart → ℕ
ring_len u = minus32 u.rxeadr u.rxsadr

-- "dropped and counted unless CON0 has 0x41 and end minus start, wrapped, is 1 to 0x10000"
abbrev pub receives : Uart → Bool
receives u = bit_and u.con0 0x41 == 0x41 && nat_le 1 (ring_len u) && nat_le (ring_len u) 0x10000

-- where in its ring the DMA writes, on 32 bits
abbrev pub byte_addr : Uart → ℕ
byte_addr u = (u.rxsadr + u.wr % ring_len u) % 2 ^ 32

-- bytes since the last latch, this one too; the count wraps
abbrev pub since_of : Uart → ℕ
since_of u = (u.since + 1) % 2 ^ 32

-- "the timeout: OTCNT UART clocks after the last byte (at least a byte time)"
abbrev pub timeout_of : Uart → ℕ → ℕ
timeout_of u hz = max (cycles_of_uart u.otcnt hz) (byte_time hz)

-- a pending (bits 14, 11, 15) whose interrupt is enabled (bits 3, 5, 2)
abbrev pub line_of : Uart → Bool
line_of u =
    (is_set u.con0 0x08 && not (u.rpnd == 0)) || (is_set u.con0 0x20 && not (u.otpnd == 0))
    || (is_set u.con0 0x04 && not (u.tpnd == 0))

-- the record with other pendings (a received byte's, the timeout's, a sent byte's) and another interrupt line
abbrev pub with_pendings : Uart → ℕ → ℕ → ℕ → ℕ → Uart
with_pendings u rpnd otpnd tpnd irq =
    uart_by u u.next u.ot_next u.dropped u.con0 u.rxsadr u.rxeadr u.rxcnt u.otcnt u.hrxcnt u.since u.wr rpnd otpnd tpnd irq u.place u.count

-- the record with another state of reception: CON0, when the timeout comes, the count latched, the bytes since, the write place
abbrev pub with_reception : Uart → ℕ → ℕ → ℕ → ℕ → ℕ → Uart
with_reception u con0 at hrxcnt since wr =
    uart_by u u.next at u.dropped con0 u.rxsadr u.rxeadr u.rxcnt u.otcnt hrxcnt since wr u.rpnd u.otpnd u.tpnd u.irq u.place u.count

-- `uart_update`: the interrupt line follows the pendings
unfoldable pub updated : Uart → Uart
updated u = with_pendings u u.rpnd u.otpnd u.tpnd (when_of (line_of u) 1)

-- a byte that the DMA has written: it pends once RXCNT bytes have come, and the timeout is from now
unfoldable pub stored : Uart → ℕ → ℕ → Uart
stored u now hz =
    updated
    (with_pendings (with_reception u u.con0 (now + timeout_of u hz) u.hrxcnt (since_of u) ((u.wr + 1) % ring_len u))
    (cond (not (u.rxcnt == 0) && nat_le u.rxcnt (since_of u)) 1 u.rpnd) u.otpnd u.tpnd u.irq)

-- a byte that has arrived: received, or lost
unfoldable pub arrived : Uart → ℕ → ℕ → ℕ → Received
arrived u b now hz =
    cond (receives u) (record { uart = stored u now hz; byte = Some (record { addr = byte_addr u; b = b }) }) (record { uart = lost u; byte = None })

-- "A byte leaves no earlier than its due time, one a step": before the deadline nothing, at it the first byte. An empty queue has none to
-- leave, whatever its deadline (`pop_front()?`)
unfoldable pub receive_at : Uart → List ℕ → ℕ → ℕ → Received
receive_at u memory now hz =
    cond (nat_lt now u.next) (record { uart = u; byte = None })
    (cond (u.count == 0) (record { uart = u; byte = None })
    (arrived (front_gone u now hz) (slice_index memory u.place) now hz))

-- how many bytes a step hands to the host
abbrev pub handed : Option Byte → ℕ
handed (Some x) = 1
handed None = 0

-- ---- the timeout

-- the record with another timeout: when it comes, and whether it pends
abbrev pub with_timeout : Uart → ℕ → ℕ → Uart
with_timeout u at pending =
    with_pendings (with_reception u u.con0 at u.hrxcnt u.since u.wr) u.rpnd pending u.tpnd u.irq

-- it comes once; it pends only where the UART is on
abbrev pub silent : Uart → Uart
silent u = with_timeout u never u.otpnd

unfoldable pub timed_out : Uart → Uart
timed_out u = updated (with_timeout u never 1)

-- before its deadline nothing; at it the timeout pends if the UART is on
unfoldable pub timeout_at : Uart → ℕ → Uart
timeout_at u now = cond (nat_lt now u.ot_next) u (cond (bit_and u.con0 1 == 0) (silent u) (timed_out u))

-- ---- registers

-- 0x12100: bits 11, 14, 15 are the timeout's, RX's and TX's pendings
abbrev pub con0_read : Uart → ℕ
con0_read u =
    bit_or (bit_or (bit_or u.con0 (when_of (not (u.otpnd == 0)) 0x800)) (when_of (not (u.rpnd == 0)) 0x4000))
    (when_of (not (u.tpnd == 0)) 0x8000)

-- 0x12100 written: bit 7 latches the count into HRXCNT, bits 10, 12, 13 clear pendings; what is kept is v & 0xffff & !0xfc80
unfoldable pub con0_written : Uart → ℕ → Uart
con0_written u v =
    updated
    (with_pendings
    (with_reception u (bit_and v 0x037f) u.ot_next (cond (is_set v 0x80) u.since u.hrxcnt) (unless_of (is_set v 0x80) u.since) u.wr)
    (unless_of (is_set v 0x1000) u.rpnd) (unless_of (is_set v 0x400) u.otpnd) (unless_of (is_set v 0x2000) u.tpnd) u.irq)

-- 0x1211c, 0x12120, 0x12124, 0x12110, 0x12128: each reads as it is kept
abbrev pub rxsadr_read : Uart → ℕ
rxsadr_read u = u.rxsadr

abbrev pub rxeadr_read : Uart → ℕ
rxeadr_read u = u.rxeadr

abbrev pub rxcnt_read : Uart → ℕ
rxcnt_read u = u.rxcnt

abbrev pub otcnt_read : Uart → ℕ
otcnt_read u = u.otcnt

abbrev pub hrxcnt_read : Uart → ℕ
hrxcnt_read u = u.hrxcnt

-- the record with another ring for the DMA, its write place, and other counts
abbrev pub with_ring : Uart → ℕ → ℕ → ℕ → ℕ → ℕ → Uart
with_ring u rxsadr rxeadr wr rxcnt otcnt =
    uart_by u u.next u.ot_next u.dropped u.con0 rxsadr rxeadr rxcnt otcnt u.hrxcnt u.since wr u.rpnd u.otpnd u.tpnd u.irq u.place u.count

-- 0x1211c written: "the ring's start resets the DMA's write position"
abbrev pub rxsadr_written : Uart → ℕ → Uart
rxsadr_written u v = with_ring u v u.rxeadr 0 u.rxcnt u.otcnt

-- 0x12120 written
abbrev pub rxeadr_written : Uart → ℕ → Uart
rxeadr_written u v = with_ring u u.rxsadr v u.wr u.rxcnt u.otcnt

-- 0x12124 written
abbrev pub rxcnt_written : Uart → ℕ → Uart
rxcnt_written u v = with_ring u u.rxsadr u.rxeadr u.wr (bit_and v 0xffff) u.otcnt

-- 0x12110 written
abbrev pub otcnt_written : Uart → ℕ → Uart
otcnt_written u v = with_ring u u.rxsadr u.rxeadr u.wr u.rxcnt v

-- 0x12118 written, whatever it is: "sent at once", so TX pends
unfoldable pub txcnt_written : Uart → Uart
txcnt_written u = updated (with_pendings u u.rpnd u.otpnd 1 u.irq)

-- a chip reset: as at power-on, but for the queue with its deadline and the bytes lost
abbrev pub chip_reset_of : Uart → Uart
chip_reset_of u = with_queue uart_new u.next u.dropped u.place u.count

-- the earlier of its deadlines: the next byte's, or the timeout's
abbrev pub uart_next : Uart → ℕ
uart_next u = min u.next u.ot_next

-- ---- its part of a whole record

-- "the queue is empty exactly when its deadline is all ones"
abbrev pub idle_if_empty : Uart → Bool
idle_if_empty u =
    (u.count == 0 && u.next == never) || (not (u.count == 0) && not (u.next == never))

-- deadlines; an empty queue exactly without one; "places and counts lie in their rings; the UART write place is below 65,536"; RXCNT in its mask
unfoldable pub uart_whole : Uart → Bool
uart_whole u =
    is_deadline u.next && is_deadline u.ot_next && idle_if_empty u && nat_lt u.place queue_bytes && nat_le u.count queue_bytes
    && nat_lt u.wr 65536 && nat_le u.rxcnt 65535
