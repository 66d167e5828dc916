-- The whole test refuses exactly what is not whole: it gives the facts, and the facts pass it.
use mathlib.Core.Path.{◌≡◌, refl}
use mathlib.Core.Bool.{Bool, true, false, ◌&&◌, ◌||◌}
use mathlib.Core.Logic.{◌⊎◌, inl, inr}
use Prim.Native.Nat.{ℕ, ◌-◌, ◌≤◌}
use native.Mathlib.Omega.{arith}
use lib.Dec.{eqb, leb, ltb}
use borrow.Author.Tests.{leb-true, le-leb, eqb-true, eq-eqb, ltb-true, lt-ltb}
use Rattle.base.specs.Limits.{rate_min, rate_max}
use Rattle.base.specs.Moments.{clock_max, never, is_clock, is_deadline}
use Rattle.base.proofs.All.{all-at, all_of}
use Rattle.base.proofs.Deadlines.{deadline-fact, deadline-test}
use Rattle.base.proofs.Flags.{both}
use Rattle.audio.specs.Audio.{audio_whole}
use Rattle.audio.proofs.Whole.{audio-facts, audio-test}
use Rattle.encoders.specs.Encoder.{encs_whole}
use Rattle.keys.specs.Keys.{keys_whole, ramps_whole, up_to}
use Rattle.panel.specs.Pins.{pins_whole}
use Rattle.panel.proofs.Whole.{pins-facts, pins-test, light-facts, light-test}
use Rattle.encoders.proofs.Whole.{encs-facts, encs-test}
use Rattle.keys.proofs.Whole.{keys-facts, keys-test, ramps-facts, ramps-test}
use Rattle.script.specs.Script.{entries, script_whole, ScriptOk}
use Rattle.script.specs.declared.Script.{Script}
use Rattle.spi.specs.Spi.{spi_whole}
use Rattle.spi.proofs.Whole.{spi-facts, spi-test}
use Rattle.timers.specs.OsTick.{tick_whole}
use Rattle.timers.specs.Timer.{tmr_whole, tmr_of, tmrs_whole}
use Rattle.timers.specs.Timer4.{t4_whole}
use Rattle.timers.proofs.Whole.{t4-facts, t4-test, t5-facts, t5-test, tmr-facts, tmr-test, tick-facts, tick-test}
use Rattle.uart.specs.Uart.{uart_whole}
use Rattle.uart.proofs.Kept.{whole-facts as uart-facts, facts-whole as uart-test}
use Rattle.state.specs.declared.Chip.{Chip}
use Rattle.state.specs.State.{is_rate, clock_whole, host_whole, timers_whole, wires_whole, front_whole, next_event, chip_whole, panel_whole, board_whole}
use Rattle.state.specs.Whole.{Typed, ClockOk, HostOk, Whole}
use Rattle.state.specs.declared.Board.{Board}
use Rattle.state.specs.declared.Clock.{Clock}
use Rattle.state.specs.declared.Host.{Host}
use Rattle.state.proofs.Parts.{parts, pend-past}

clock-facts : (c : Clock) → clock_whole c ≡ true → ClockOk c
clock-facts c e =
    let p = both (is_rate c.hz) (is_clock c.cycles) e in
    let q = both (leb rate_min c.hz) (leb c.hz rate_max) p.0 in
    record { low = leb-true rate_min c.hz q.0; high = leb-true c.hz rate_max q.1; cycles = leb-true c.cycles clock_max p.1 }

clock-test : (c : Clock) → ClockOk c → clock_whole c ≡ true
clock-test c w =
    rw (le-leb rate_min c.hz w.low, le-leb c.hz rate_max w.high, le-leb c.cycles clock_max w.cycles)

host-facts : (h : Host) → host_whole h ≡ true → HostOk h
host-facts h e =
    let range = leb 1 h.usb_period && is_clock h.usb_period in
    let p = both (is_deadline h.usb_next && is_deadline h.wdt_at) (eqb h.usb_next never || range) e in
    let q = both (is_deadline h.usb_next) (is_deadline h.wdt_at) p.0 in
    record {
      usb = deadline-fact h.usb_next q.0;
      wdt = deadline-fact h.wdt_at q.1;
      period = armed (eqb h.usb_next never) refl p.1;
    }
  where
    armed : (t : Bool) → eqb h.usb_next never ≡ t → (t || (leb 1 h.usb_period && is_clock h.usb_period)) ≡ true
        → (h.usb_next ≡ never) ⊎ ((1 ≤ h.usb_period) × (h.usb_period ≤ clock_max))
    armed true q r = inl (eqb-true h.usb_next never q)
    armed false q r =
        let s = both (leb 1 h.usb_period) (is_clock h.usb_period) r in
        inr (leb-true 1 h.usb_period s.0, leb-true h.usb_period clock_max s.1)

or_right : (b : Bool) → (b || true) ≡ true
or_right true = refl
or_right false = refl

host-test : (h : Host) → HostOk h → host_whole h ≡ true
host-test h w = rw (deadline-test h.usb_next w.usb, deadline-test h.wdt_at w.wdt) (armed w.period)
  where
    armed : (h.usb_next ≡ never) ⊎ ((1 ≤ h.usb_period) × (h.usb_period ≤ clock_max))
        → (eqb h.usb_next never || (leb 1 h.usb_period && is_clock h.usb_period)) ≡ true
    armed (inl q) = rw (eq-eqb h.usb_next never q)
    armed (inr q) = rw (le-leb 1 h.usb_period q.0, le-leb h.usb_period clock_max q.1) (or_right (eqb h.usb_next never))

script-facts : (s : Script) → script_whole s ≡ true → ScriptOk s
script-facts s e =
    let p = both (ltb s.place entries) (leb s.count entries) e in
    record { place = ltb-true s.place entries p.0; count = leb-true s.count entries p.1 }

script-test : (s : Script) → ScriptOk s → script_whole s ≡ true
script-test s w = rw (lt-ltb s.place entries w.place, le-leb s.count entries w.count)

module _ (b : Board) (t : Typed b) where
  abbrev c : Chip
  c = b.chip

  abbrev now : ℕ
  now = b.chip.clock.cycles

  pub whole-facts : board_whole b ≡ true → Whole b
  unfolding board_whole panel_whole timers_whole wires_whole front_whole tmrs_whole
  whole-facts e =
      let most = c.pins.led_last - c.pins.led_pend in
      let p = both (chip_whole c) (panel_whole b.panel now c.clock.hz most) e in
      let q = both (ramps_whole b.panel.ramps now c.clock.hz) (up_to most b.panel.acc) p.1 in
      let s = parts c p.0 in
      let t3 = both (t4_whole c.t4 now && is_deadline c.t5.next && tmrs_whole c.tmr now) (tick_whole c.tick now) s.timers in
      let t2 = both (t4_whole c.t4 now && is_deadline c.t5.next) (tmrs_whole c.tmr now) t3.0 in
      let t1 = both (t4_whole c.t4 now) (is_deadline c.t5.next) t2.0 in
      let w3 = both (audio_whole c.audio && spi_whole c.spi && uart_whole c.uart) (host_whole c.host) s.wires in
      let w2 = both (audio_whole c.audio && spi_whole c.spi) (uart_whole c.uart) w3.0 in
      let w1 = both (audio_whole c.audio) (spi_whole c.spi) w2.0 in
      let f3 = both (script_whole c.script && pins_whole c.pins now && encs_whole c.enc) (keys_whole c.keys) s.front in
      let f2 = both (script_whole c.script && pins_whole c.pins now) (encs_whole c.enc) f3.0 in
      let f1 = both (script_whole c.script) (pins_whole c.pins now) f2.0 in
      record {
        sound = record {
          chip = record {
            clock = clock-facts c.clock s.clock;
            t4 = t4-facts c.t4 now t1.0;
            t5 = t5-facts c.t5 t.t5 t1.1;
            tmr = λ i h. tmr-facts (tmr_of c.tmr i) now (t.tmr i h) (all-at (λ j. tmr_whole (tmr_of c.tmr j) now) 4 i t2.1 h);
            tmrs = t.tmrs;
            tick = tick-facts c.tick now t3.1;
            audio = audio-facts c.audio w1.0;
            spi = spi-facts c.spi w1.1;
            uart = uart-facts c.uart w2.1 t.otcnt;
            host = host-facts c.host w3.1;
            script = script-facts c.script f1.0;
            pins = pins-facts c.pins now f1.1;
            enc = encs-facts c.enc f2.1;
            encs = t.encs;
            keys = keys-facts c.keys f3.1;
          };
          ramps = ramps-facts b.panel.ramps now c.clock.hz t.forces q.0;
          sized = t.ramps;
          light = light-facts c.pins b.panel.acc (pend-past c p.0) q.1;
        };
        due = s.due;
      }

  pub whole-test : Whole b → board_whole b ≡ true
  unfolding board_whole chip_whole panel_whole timers_whole wires_whole front_whole tmrs_whole
  whole-test w =
      let k = w.sound.chip in
      rw
      (clock-test c.clock k.clock, t4-test c.t4 now k.t4, t5-test c.t5 k.t5, all_of (λ j. tmr_whole (tmr_of c.tmr j) now) 4 (λ i h. tmr-test (tmr_of c.tmr i) now (k.tmr i h)), tick-test c.tick now k.tick, audio-test c.audio k.audio, spi-test c.spi k.spi, uart-test c.uart k.uart, host-test c.host k.host, script-test c.script k.script, pins-test c.pins now k.pins, encs-test c.enc k.enc, keys-test c.keys k.keys, le-leb c.clock.next_due (next_event c) w.due, ramps-test b.panel.ramps now c.clock.hz w.sound.ramps, light-test c.pins b.panel.acc w.sound.light)

-- what the code's types say of a board, a whole one has by itself
pub whole_typed : (b : Board) → Whole b → Typed b
whole_typed b w =
    let k = w.sound.chip in
    record {
      hz = omega (arith, k.clock.high);
      t5 = k.t5.prd;
      tmr = λ i h. (k.tmr i h).prd;
      tmrs = k.tmrs;
      otcnt = k.uart.otcnt;
      encs = k.encs;
      ramps = w.sound.sized;
      forces = λ i h. ((w.sound.ramps i h).from.held, (w.sound.ramps i h).to.held);
    }
