-- UART1's part of a whole record, as facts; OTCNT is a register's.
use Rattle.std.specs.Prelude.{◌≡◌, ◌^◌, ◌<◌, ◌≤◌}
use Rattle.base.specs.Moments.{never, Deadline}
use Rattle.uart.specs.declared.Uart.{Uart}
use Rattle.uart.specs.Uart.{queue_bytes}

pub record UartOk (u : Uart) : Type 0 where
  pub next : Deadline u.next
  pub timeout : Deadline u.ot_next
  -- "the queue is empty exactly when its deadline is all ones"
  pub idle : u.count ≡ 0 → u.next ≡ never
  pub empty : u.next ≡ never → u.count ≡ 0
  pub place : u.place < queue_bytes
  pub count : u.count ≤ queue_bytes
  pub wr : u.wr < 65536
  pub rxcnt : u.rxcnt ≤ 65535
  pub otcnt : u.otcnt < 2 ^ 32
