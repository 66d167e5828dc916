-- Each timer's part of a whole record as facts: its moments are past, its deadline is one, and its period's register is a register's.
use Rattle.std.specs.Prelude.{ℕ, ◌^◌, ◌<◌, ◌≤◌}
use Rattle.base.specs.Moments.{Deadline}
use Rattle.timers.specs.declared.timer4.T4.{T4}
use Rattle.timers.specs.declared.timer5.T5.{T5}
use Rattle.timers.specs.declared.timer.Tmr.{Tmr}
use Rattle.timers.specs.declared.os_tick.Tick.{Tick}

pub record T4Ok (t : T4) (now : ℕ) : Type 0 where
  pub base : t.base ≤ now
  pub read : t.last_cnt_read ≤ now

pub record T5Ok (t : T5) : Type 0 where
  pub next : Deadline t.next
  pub prd : t.prd < 2 ^ 32

pub record TmrOk (t : Tmr) (now : ℕ) : Type 0 where
  pub start : t.start ≤ now
  pub next : Deadline t.next
  pub prd : t.prd < 2 ^ 32

pub record TickOk (t : Tick) (now : ℕ) : Type 0 where
  pub start : t.start ≤ now
  pub next : Deadline t.next
