-- The stages keep what is known of the chip, look at neither `next_due` nor `skipped`, and before the next event do nothing.
use Prim.Native.Nat.{ℕ, ◌^◌, ◌≤◌, ◌<◌, min}
use mathlib.Core.List.{List}
use mathlib.Core.Path.{◌≡◌, refl, ◌∙◌}
use native.Mathlib.Omega.{arith}
use borrow.Author.Tests.{lt-ltb, lt-leb}
use lib.ListN.{length-map}
use Rattle.audio.proofs.Kept.{audio-at-kept, audio-quiet}
use Rattle.audio.specs.Audio.{audio_at}
use Rattle.encoders.proofs.Kept.{encs-kept, encs-quiet}
use Rattle.encoders.specs.Encoder.{encs_at, enc_at, encs_next}
use Rattle.script.specs.Script.{front_time}
use Rattle.spi.proofs.Kept.{spi1-at-kept, spi2-at-kept, spi1-quiet, spi2-quiet}
use Rattle.spi.specs.Spi.{spi_next, spi2_at}
use Rattle.state.proofs.Kept.{usb-kept, wdt-kept, put-audio, put-uart}
use Rattle.state.specs.State.{next_event, timers_next, wires_next, host_next, front_next, usb_at, wdt_at_of}
use Rattle.state.specs.Whole.{ChipOk}
use Rattle.state.specs.With.{with_clock, clock_at}
use Rattle.state.specs.declared.Chip.{Chip}
use Rattle.state.specs.declared.Host.{Host}
use Rattle.timers.proofs.Kept.{t5-at-kept, tmrs-kept, tick-at-kept, t5-quiet, tmrs-quiet, tick-quiet}
use Rattle.timers.specs.Timer.{tmrs_at, tmr_at, tmrs_next}
use Rattle.uart.proofs.Arrivals.{not-early}
use Rattle.uart.proofs.Kept.{receive-kept, timeout-kept}
use Rattle.uart.proofs.Outcomes.{receive-quiet, timeout-quiet}
use Rattle.uart.specs.Uart.{uart_next, receive_at}
use Rattle.std.specs.Prelude.{Some}
use Rattle.step.specs.Stages.{now_of, hz_of, first_stages, last_stages, audio_part, byte, served_of, nothing_due}
use Rattle.step.specs.declared.stages.Served.{Served}

-- ---- what is known of the chip is kept

module _ (c : Chip) (w : ChipOk c) where
  rate : hz_of c < 2 ^ 32
  rate = let h = w.clock.high in omega arith

  pub first-kept : ChipOk (first_stages c)
  unfolding first_stages tmrs_at
  first-kept = record {
    clock = w.clock;
    t4 = w.t4;
    t5 = t5-at-kept c.t5 (now_of c) (hz_of c) w.t5 w.clock.cycles rate;
    tmr = tmrs-kept c.tmr w.tmrs (now_of c) (hz_of c) w.tmr w.clock.cycles rate;
    tmrs = length-map c.tmr (λ t. tmr_at t (now_of c) (hz_of c)) ∙ w.tmrs;
    tick = tick-at-kept c.tick (now_of c) (hz_of c) w.tick w.clock.cycles rate;
    audio = w.audio;
    spi = spi1-at-kept (spi2_at c.spi (now_of c)) (spi2-at-kept c.spi w.spi (now_of c)) (now_of c);
    uart = w.uart;
    host = w.host;
    script = w.script;
    pins = w.pins;
    enc = w.enc;
    encs = w.encs;
    keys = w.keys;
  }

  pub last-kept : ChipOk (last_stages c)
  unfolding last_stages encs_at
  last-kept = record {
    clock = w.clock;
    t4 = w.t4;
    t5 = w.t5;
    tmr = w.tmr;
    tmrs = w.tmrs;
    tick = w.tick;
    audio = w.audio;
    spi = w.spi;
    uart = timeout-kept c.uart w.uart (now_of c);
    host = wdt-kept (usb_at c.host (now_of c)) (now_of c) (usb-kept c.host (now_of c) w.host w.clock.cycles);
    script = w.script;
    pins = w.pins;
    enc = encs-kept (now_of c) (hz_of c) w.clock.cycles rate c.enc w.encs w.enc;
    encs = length-map c.enc (λ e. enc_at e (now_of c) (hz_of c)) ∙ w.encs;
    keys = w.keys;
  }

  pub middle-kept : (queue : List ℕ) → ChipOk (byte (audio_part c) queue)
  middle-kept queue =
      put-uart (audio_part c) (put-audio c w (audio_at c.audio (now_of c) (hz_of c)).audio (audio-at-kept c.audio (now_of c) (hz_of c) w.audio w.clock.cycles rate))
      (receive_at c.uart queue (now_of c) (hz_of c)).uart (receive-kept c.uart queue (now_of c) (hz_of c) w.uart w.clock.cycles rate)

pub served-kept : (c : Chip) (queue : List ℕ) → ChipOk c → ChipOk (served_of c queue).chip
unfolding served_of
served-kept c queue w = last-kept _ (middle-kept (first_stages c) (first-kept c w) queue)

-- ---- what the stages leave alone

-- the clock and what is outside the timed blocks
pub served-clock : (c : Chip) (queue : List ℕ) → (served_of c queue).chip.clock ≡ c.clock
unfolding served_of first_stages last_stages
served-clock c queue = refl

pub served-script : (c : Chip) (queue : List ℕ) → (served_of c queue).chip.script ≡ c.script
unfolding served_of first_stages last_stages
served-script c queue = refl

pub served-pins : (c : Chip) (queue : List ℕ) → (served_of c queue).chip.pins ≡ c.pins
unfolding served_of first_stages last_stages
served-pins c queue = refl

-- they look neither at `next_due` nor at `skipped`
abbrev pub reclocked : Served → ℕ → ℕ → Served
reclocked s due skipped = record {
  chip = with_clock s.chip (clock_at s.chip.clock (now_of s.chip) due skipped);
  audio_half = s.audio_half;
  uart_rx = s.uart_rx;
  usb_frame = s.usb_frame;
  wdt = s.wdt;
}

pub served-unseen : (c : Chip) (queue : List ℕ) (due skipped : ℕ)
    → served_of (with_clock c (clock_at c.clock (now_of c) due skipped)) queue ≡ reclocked (served_of c queue) due skipped
unfolding served_of first_stages last_stages
served-unseen c queue due skipped = refl

-- "A byte leaves no earlier than its due time"
pub byte-due : (c : Chip) (queue : List ℕ) (addr b : ℕ) → (served_of c queue).uart_rx ≡ Some (record { addr = addr; b = b }) → c.uart.next ≤ now_of c
unfolding served_of
byte-due c queue addr b = not-early c.uart queue (now_of c) (hz_of c) addr b

-- ---- before the next event

before-both : (n a b : ℕ) → n < min a b → (n < a) × (n < b)
before-both n a b h = (omega arith, omega arith)

-- the moment is before each deadline
pub record Early (c : Chip) : Type 0 where
  pub t5 : now_of c < c.t5.next
  pub tick : now_of c < c.tick.next
  pub tmr : now_of c < tmrs_next c.tmr
  pub spi1 : now_of c < c.spi.spi1_irq_at
  pub spi2 : now_of c < c.spi.spi2_next
  pub audio : now_of c < c.audio.next
  pub byte : now_of c < c.uart.next
  pub timeout : now_of c < c.uart.ot_next
  pub usb : now_of c < c.host.usb_next
  pub wdt : now_of c < c.host.wdt_at
  pub enc : now_of c < encs_next c.enc
  pub script : now_of c < front_time c.script

pub early : (c : Chip) → now_of c < next_event c → Early c
unfolding next_event
early c h =
    let now = now_of c in
    let all = before-both now (min (timers_next c) (wires_next c)) (min (host_next c) (front_next c)) h in
    let left = before-both now (timers_next c) (wires_next c) all.0 in
    let right = before-both now (host_next c) (front_next c) all.1 in
    let timers = before-both now (min c.t5.next c.tick.next) (tmrs_next c.tmr) left.0 in
    let ticks = before-both now c.t5.next c.tick.next timers.0 in
    let wires = before-both now (spi_next c.spi) (min c.audio.next (uart_next c.uart)) left.1 in
    let spis = before-both now c.spi.spi1_irq_at c.spi.spi2_next wires.0 in
    let bytes = before-both now c.audio.next (uart_next c.uart) wires.1 in
    let uarts = before-both now c.uart.next c.uart.ot_next bytes.1 in
    let hosts = before-both now c.host.usb_next c.host.wdt_at right.0 in
    let fronts = before-both now (encs_next c.enc) (front_time c.script) right.1 in
    record {
      t5 = ticks.0;
      tick = ticks.1;
      tmr = timers.1;
      spi1 = spis.0;
      spi2 = spis.1;
      audio = bytes.0;
      byte = uarts.0;
      timeout = uarts.1;
      usb = hosts.0;
      wdt = hosts.1;
      enc = fronts.0;
      script = fronts.1;
    }

usb-quiet : (h : Host) (now : ℕ) → now < h.usb_next → usb_at h now ≡ h
unfolding usb_at
usb-quiet h now l = rw (lt-ltb now h.usb_next l)

wdt-quiet : (h : Host) (now : ℕ) → now < h.wdt_at → wdt_at_of h now ≡ h
unfolding wdt_at_of
wdt-quiet h now l = rw (lt-ltb now h.wdt_at l)

module _ (c : Chip) (w : ChipOk c) (e : Early c) where
  first-quiet : first_stages c ≡ c
  unfolding first_stages
  first-quiet =
      rw (t5-quiet c.t5 (now_of c) (hz_of c) e.t5, spi2-quiet c.spi (now_of c) e.spi2, spi1-quiet c.spi (now_of c) e.spi1, tmrs-quiet c.tmr w.tmrs (now_of c) (hz_of c) e.tmr, tick-quiet c.tick (now_of c) (hz_of c) e.tick)

  middle-quiet : (queue : List ℕ) → byte (audio_part c) queue ≡ c
  middle-quiet queue = rw (audio-quiet c.audio (now_of c) (hz_of c) e.audio, receive-quiet c.uart queue (now_of c) (hz_of c) e.byte)

  last-quiet : last_stages c ≡ c
  unfolding last_stages
  last-quiet =
      rw (usb-quiet c.host (now_of c) e.usb, wdt-quiet c.host (now_of c) e.wdt, timeout-quiet c.uart (now_of c) e.timeout, encs-quiet (now_of c) (hz_of c) w.clock.cycles (rate c w) c.enc w.encs e.enc)

-- each block is itself, and nothing is handed out
pub served-quiet : (c : Chip) (queue : List ℕ) → ChipOk c → now_of c < next_event c → served_of c queue ≡ nothing_due c
unfolding served_of
served-quiet c queue w h =
    let e = early c h in
    rw (first-quiet c w e, middle-quiet c w e queue, last-quiet c w e, audio-quiet c.audio (now_of c) (hz_of c) e.audio, receive-quiet c.uart queue (now_of c) (hz_of c) e.byte, lt-leb c.host.usb_next (now_of c) e.usb, lt-leb c.host.wdt_at (now_of c) e.wdt)
