-- A chip with one block replaced has its facts again, where that block has its own; and it has them at a later moment.
use Prim.Native.Nat.{ℕ, ◌≤◌, ◌<◌}
use mathlib.Core.List.{List}
use mathlib.Core.Logic.{⊎_elim, inr}
use mathlib.Core.Path.{◌≡◌, refl}
use native.Mathlib.Omega.{arith}
use borrow.Author.Tests.{lt-ltb, le-ltb}
use lib.ListN.{length}
use Rattle.base.proofs.Cases.{lt-or-ge}
use Rattle.base.proofs.Deadlines.{rearmed-deadline}
use Rattle.base.specs.Moments.{clock_max, never}
use Rattle.adc.specs.declared.Adc.{Adc}
use Rattle.audio.specs.Facts.{AudioOk}
use Rattle.audio.specs.declared.Audio.{Audio}
use Rattle.irq.specs.declared.Latch.{Latch}
use Rattle.keys.proofs.Held.{ramps-later, ramps-short}
use Rattle.panel.proofs.Kept.{pins-later}
use Rattle.encoders.specs.Encoder.{enc_of}
use Rattle.panel.specs.Facts.{PinsOk}
use Rattle.encoders.specs.Facts.{EncOk}
use Rattle.keys.specs.Facts.{KeysOk, RampsShort}
use Rattle.encoders.specs.declared.Enc.{Enc}
use Rattle.keys.specs.declared.Keys.{Keys}
use Rattle.panel.specs.declared.pins.Pins.{Pins}
use Rattle.script.specs.Script.{ScriptOk}
use Rattle.script.specs.declared.Script.{Script}
use Rattle.spi.specs.Facts.{SpiOk}
use Rattle.spi.specs.declared.Spi.{Spi}
use Rattle.timers.proofs.Kept.{t4-later, tmr-later, tick-later}
use Rattle.timers.specs.Facts.{T4Ok, T5Ok, TmrOk, TickOk}
use Rattle.timers.specs.Timer.{tmr_of}
use Rattle.timers.specs.declared.os_tick.Tick.{Tick}
use Rattle.timers.specs.declared.timer.Tmr.{Tmr}
use Rattle.timers.specs.declared.timer4.T4.{T4}
use Rattle.timers.specs.declared.timer5.T5.{T5}
use Rattle.uart.specs.Facts.{UartOk}
use Rattle.uart.specs.declared.Uart.{Uart}
use Rattle.state.specs.State.{usb_at, wdt_at_of}
use Rattle.state.specs.Whole.{HostOk, ChipOk, Sound}
use Rattle.state.specs.With.{with_clock, with_t4, with_t5, with_tmr, with_tick, with_audio, with_spi, with_uart, with_host, with_script, with_pins, with_enc, with_keys, with_adc, with_latch, clock_at, with_chip}
use Rattle.state.specs.declared.Board.{Board}
use Rattle.state.specs.declared.Chip.{Chip}
use Rattle.state.specs.declared.Host.{Host}

-- ---- the host's deadlines

-- a frame that is due has a period
pub armed-period : (h : Host) (now : ℕ) → HostOk h → h.usb_next ≤ now → now ≤ clock_max → (1 ≤ h.usb_period) × (h.usb_period ≤ clock_max)
armed-period h now w l m = ⊎_elim (λ (e : h.usb_next ≡ never). absurd (omega (arith, e))) (λ p. p) w.period

pub usb-kept : (h : Host) (now : ℕ) → HostOk h → now ≤ clock_max → HostOk (usb_at h now)
unfolding usb_at
usb-kept h now w m =
    ⊎_elim
    (λ (l : now < h.usb_next). rw (lt-ltb now h.usb_next l) w)
    (λ (l : h.usb_next ≤ now).
    let p = armed-period h now w l m in
    rw (le-ltb now h.usb_next l)
    (record { usb = rearmed-deadline h.usb_next now h.usb_period l m (omega (arith, p.1)); wdt = w.wdt; period = inr p }))
    (lt-or-ge now h.usb_next)

pub wdt-kept : (h : Host) (now : ℕ) → HostOk h → HostOk (wdt_at_of h now)
unfolding wdt_at_of
wdt-kept h now w =
    ⊎_elim
    (λ (l : now < h.wdt_at). rw (lt-ltb now h.wdt_at l) w)
    (λ (l : h.wdt_at ≤ now). rw (le-ltb now h.wdt_at l) (record { usb = w.usb; wdt = inr refl; period = w.period }))
    (lt-or-ge now h.wdt_at)

-- ---- a block replaced

module _ (c : Chip) (w : ChipOk c) where
  pub put-t4 : (x : T4) → T4Ok x c.clock.cycles → ChipOk (with_t4 c x)
  put-t4 x h = record { clock = w.clock; t4 = h; t5 = w.t5; tmr = w.tmr; tmrs = w.tmrs; tick = w.tick; audio = w.audio; spi = w.spi; uart = w.uart; host = w.host; script = w.script; pins = w.pins; enc = w.enc; encs = w.encs; keys = w.keys }

  pub put-t5 : (x : T5) → T5Ok x → ChipOk (with_t5 c x)
  put-t5 x h = record { clock = w.clock; t4 = w.t4; t5 = h; tmr = w.tmr; tmrs = w.tmrs; tick = w.tick; audio = w.audio; spi = w.spi; uart = w.uart; host = w.host; script = w.script; pins = w.pins; enc = w.enc; encs = w.encs; keys = w.keys }

  pub put-tick : (x : Tick) → TickOk x c.clock.cycles → ChipOk (with_tick c x)
  put-tick x h = record { clock = w.clock; t4 = w.t4; t5 = w.t5; tmr = w.tmr; tmrs = w.tmrs; tick = h; audio = w.audio; spi = w.spi; uart = w.uart; host = w.host; script = w.script; pins = w.pins; enc = w.enc; encs = w.encs; keys = w.keys }

  pub put-audio : (x : Audio) → AudioOk x → ChipOk (with_audio c x)
  put-audio x h = record { clock = w.clock; t4 = w.t4; t5 = w.t5; tmr = w.tmr; tmrs = w.tmrs; tick = w.tick; audio = h; spi = w.spi; uart = w.uart; host = w.host; script = w.script; pins = w.pins; enc = w.enc; encs = w.encs; keys = w.keys }

  pub put-spi : (x : Spi) → SpiOk x → ChipOk (with_spi c x)
  put-spi x h = record { clock = w.clock; t4 = w.t4; t5 = w.t5; tmr = w.tmr; tmrs = w.tmrs; tick = w.tick; audio = w.audio; spi = h; uart = w.uart; host = w.host; script = w.script; pins = w.pins; enc = w.enc; encs = w.encs; keys = w.keys }

  pub put-uart : (x : Uart) → UartOk x → ChipOk (with_uart c x)
  put-uart x h = record { clock = w.clock; t4 = w.t4; t5 = w.t5; tmr = w.tmr; tmrs = w.tmrs; tick = w.tick; audio = w.audio; spi = w.spi; uart = h; host = w.host; script = w.script; pins = w.pins; enc = w.enc; encs = w.encs; keys = w.keys }

  pub put-host : (x : Host) → HostOk x → ChipOk (with_host c x)
  put-host x h = record { clock = w.clock; t4 = w.t4; t5 = w.t5; tmr = w.tmr; tmrs = w.tmrs; tick = w.tick; audio = w.audio; spi = w.spi; uart = w.uart; host = h; script = w.script; pins = w.pins; enc = w.enc; encs = w.encs; keys = w.keys }

  pub put-script : (x : Script) → ScriptOk x → ChipOk (with_script c x)
  put-script x h = record { clock = w.clock; t4 = w.t4; t5 = w.t5; tmr = w.tmr; tmrs = w.tmrs; tick = w.tick; audio = w.audio; spi = w.spi; uart = w.uart; host = w.host; script = h; pins = w.pins; enc = w.enc; encs = w.encs; keys = w.keys }

  pub put-pins : (x : Pins) → PinsOk x c.clock.cycles → ChipOk (with_pins c x)
  put-pins x h = record { clock = w.clock; t4 = w.t4; t5 = w.t5; tmr = w.tmr; tmrs = w.tmrs; tick = w.tick; audio = w.audio; spi = w.spi; uart = w.uart; host = w.host; script = w.script; pins = h; enc = w.enc; encs = w.encs; keys = w.keys }

  pub put-keys : (x : Keys) → KeysOk x → ChipOk (with_keys c x)
  put-keys x h = record { clock = w.clock; t4 = w.t4; t5 = w.t5; tmr = w.tmr; tmrs = w.tmrs; tick = w.tick; audio = w.audio; spi = w.spi; uart = w.uart; host = w.host; script = w.script; pins = w.pins; enc = w.enc; encs = w.encs; keys = h }

  pub put-adc : (x : Adc) → ChipOk (with_adc c x)
  put-adc x = record { clock = w.clock; t4 = w.t4; t5 = w.t5; tmr = w.tmr; tmrs = w.tmrs; tick = w.tick; audio = w.audio; spi = w.spi; uart = w.uart; host = w.host; script = w.script; pins = w.pins; enc = w.enc; encs = w.encs; keys = w.keys }

  pub put-latch : (x : Latch) → ChipOk (with_latch c x)
  put-latch x = record { clock = w.clock; t4 = w.t4; t5 = w.t5; tmr = w.tmr; tmrs = w.tmrs; tick = w.tick; audio = w.audio; spi = w.spi; uart = w.uart; host = w.host; script = w.script; pins = w.pins; enc = w.enc; encs = w.encs; keys = w.keys }

  pub put-tmr : (x : List Tmr) → ((i : ℕ) → i < 4 → TmrOk (tmr_of x i) c.clock.cycles) → length x ≡ 4 → ChipOk (with_tmr c x)
  put-tmr x h e = record { clock = w.clock; t4 = w.t4; t5 = w.t5; tmr = h; tmrs = e; tick = w.tick; audio = w.audio; spi = w.spi; uart = w.uart; host = w.host; script = w.script; pins = w.pins; enc = w.enc; encs = w.encs; keys = w.keys }

  pub put-enc : (x : List Enc) → ((i : ℕ) → i < 8 → EncOk (enc_of x i)) → length x ≡ 8 → ChipOk (with_enc c x)
  put-enc x h e = record { clock = w.clock; t4 = w.t4; t5 = w.t5; tmr = w.tmr; tmrs = w.tmrs; tick = w.tick; audio = w.audio; spi = w.spi; uart = w.uart; host = w.host; script = w.script; pins = w.pins; enc = h; encs = e; keys = w.keys }

  -- a later clock, whatever it says of what is due
  pub put-clock : (now due skipped : ℕ) → c.clock.cycles ≤ now → now ≤ clock_max → ChipOk (with_clock c (clock_at c.clock now due skipped))
  put-clock now due skipped l m =
      let past = c.clock.cycles in
      record { clock = record { low = w.clock.low; high = w.clock.high; cycles = m }; t4 = t4-later c.t4 past now l w.t4; t5 = w.t5; tmr = λ i h. tmr-later (tmr_of c.tmr i) past now l (w.tmr i h); tmrs = w.tmrs; tick = tick-later c.tick past now l w.tick; audio = w.audio; spi = w.spi; uart = w.uart; host = w.host; script = w.script; pins = pins-later c.pins past now l w.pins; enc = w.enc; encs = w.encs; keys = w.keys }

-- ---- the board

-- what it takes to work a force out
pub sound-short : (b : Board) → Sound b → RampsShort b.panel.ramps
sound-short b w = ramps-short b.panel.ramps b.chip.clock.cycles b.chip.clock.hz w.chip.clock.cycles w.chip.clock.high w.ramps

module _ (b : Board) (w : Sound b) where
  -- a chip with other facts, at the same moment and with the same pins
  pub put-chip : (c : Chip) → ChipOk c → c.clock.cycles ≡ b.chip.clock.cycles → c.clock.hz ≡ b.chip.clock.hz → c.pins ≡ b.chip.pins → Sound (with_chip b c)
  put-chip c k e f g = record { chip = k; ramps = rw (e, f) w.ramps; sized = w.sized; light = rw g w.light }

  pub later : (now due skipped : ℕ) → b.chip.clock.cycles ≤ now → now ≤ clock_max
      → Sound (with_chip b (with_clock b.chip (clock_at b.chip.clock now due skipped)))
  later now due skipped l m =
      let h = w.chip.clock.high in
      record {
        chip = put-clock b.chip w.chip now due skipped l m;
        ramps = ramps-later b.panel.ramps w.sized b.chip.clock.cycles now b.chip.clock.hz l (omega arith) w.ramps;
        sized = w.sized;
        light = w.light;
      }
