-- What a whole record is known to be, as facts; and what the code's types say of any record, which definitions on whole numbers do not.
use Rattle.std.specs.Prelude.{ℕ, ◌^◌, ◌≤◌, ◌<◌, ◌≡◌, ◌⊎◌, T, length}
use Rattle.std.specs.Float.{binary32}
use Rattle.std.specs.Float.Ieee.{fits}
use Rattle.base.specs.Limits.{rate_min, rate_max}
use Rattle.base.specs.Moments.{clock_max, never, Deadline}
use Rattle.audio.specs.Facts.{AudioOk}
use Rattle.encoders.specs.Encoder.{enc_of}
use Rattle.panel.specs.Facts.{PinsOk, LightOk}
use Rattle.encoders.specs.Facts.{EncOk}
use Rattle.keys.specs.Facts.{KeysOk, RampsOk, Sized}
use Rattle.keys.specs.Keys.{ramp_of}
use Rattle.script.specs.Script.{ScriptOk}
use Rattle.spi.specs.Facts.{SpiOk}
use Rattle.timers.specs.Facts.{T4Ok, T5Ok, TmrOk, TickOk}
use Rattle.timers.specs.Timer.{tmr_of}
use Rattle.uart.specs.Facts.{UartOk}
use Rattle.state.specs.State.{next_event}
use Rattle.state.specs.declared.Board.{Board}
use Rattle.state.specs.declared.Chip.{Chip}
use Rattle.state.specs.declared.Clock.{Clock}
use Rattle.state.specs.declared.Host.{Host}

-- registers of 32 bits, arrays of their lengths, forces that are f32s: true of every record that code can hold
pub record Typed (b : Board) : Type 0 where
  pub hz : b.chip.clock.hz < 2 ^ 32
  pub t5 : b.chip.t5.prd < 2 ^ 32
  pub tmr : (i : ℕ) → i < 4 → (tmr_of b.chip.tmr i).prd < 2 ^ 32
  pub tmrs : length b.chip.tmr ≡ 4
  pub otcnt : b.chip.uart.otcnt < 2 ^ 32
  pub encs : length b.chip.enc ≡ 8
  pub ramps : Sized b.panel.ramps
  pub forces : (i : ℕ) → i < 41
      → T (fits binary32 (ramp_of b.panel.ramps i).from) × T (fits binary32 (ramp_of b.panel.ramps i).to)

-- "rate and clock are in range"
pub record ClockOk (c : Clock) : Type 0 where
  pub low : rate_min ≤ c.hz
  pub high : c.hz ≤ rate_max
  pub cycles : c.cycles ≤ clock_max

-- "the USB period is in range if armed"
pub record HostOk (h : Host) : Type 0 where
  pub usb : Deadline h.usb_next
  pub wdt : Deadline h.wdt_at
  pub period : (h.usb_next ≡ never) ⊎ ((1 ≤ h.usb_period) × (h.usb_period ≤ clock_max))

-- each block's facts, and the arrays' lengths, so that what a call makes of a record that has them has them again
pub record ChipOk (c : Chip) : Type 0 where
  pub clock : ClockOk c.clock
  pub t4 : T4Ok c.t4 c.clock.cycles
  pub t5 : T5Ok c.t5
  pub tmr : (i : ℕ) → i < 4 → TmrOk (tmr_of c.tmr i) c.clock.cycles
  pub tmrs : length c.tmr ≡ 4
  pub tick : TickOk c.tick c.clock.cycles
  pub audio : AudioOk c.audio
  pub spi : SpiOk c.spi
  pub uart : UartOk c.uart
  pub host : HostOk c.host
  pub script : ScriptOk c.script
  pub pins : PinsOk c.pins c.clock.cycles
  pub enc : (i : ℕ) → i < 8 → EncOk (enc_of c.enc i)
  pub encs : length c.enc ≡ 8
  pub keys : KeysOk c.keys

-- all but the word on `next_due`: what holds in the middle of a step, too
pub record Sound (b : Board) : Type 0 where
  pub chip : ChipOk b.chip
  pub ramps : RampsOk b.panel.ramps b.chip.clock.cycles b.chip.clock.hz
  pub sized : Sized b.panel.ramps
  pub light : LightOk b.chip.pins b.panel.acc

pub record Whole (b : Board) : Type 0 where
  pub sound : Sound b
  -- "`next_due` is no later than the source's `next_event`"
  pub due : b.chip.clock.next_due ≤ next_event b.chip
