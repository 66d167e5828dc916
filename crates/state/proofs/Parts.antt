-- The whole test's parts.
use mathlib.Core.Path.{◌≡◌}
use mathlib.Core.Bool.{true, ◌&&◌}
use Prim.Native.Nat.{◌≤◌}
use lib.Dec.{leb}
use borrow.Author.Tests.{leb-true}
use Rattle.base.proofs.Flags.{both}
use Rattle.encoders.specs.Encoder.{encs_whole}
use Rattle.keys.specs.Keys.{keys_whole}
use Rattle.panel.specs.Pins.{pins_whole}
use Rattle.script.specs.Script.{script_whole}
use Rattle.state.specs.State.{clock_whole, timers_whole, wires_whole, front_whole, next_event, chip_whole}
use Rattle.state.specs.declared.Chip.{Chip}

-- the five parts of the chip's test
pub record Parts (c : Chip) : Type 0 where
  pub clock : clock_whole c.clock ≡ true
  pub timers : timers_whole c c.clock.cycles ≡ true
  pub wires : wires_whole c ≡ true
  pub front : front_whole c c.clock.cycles ≡ true
  pub due : c.clock.next_due ≤ next_event c

pub parts : (c : Chip) → chip_whole c ≡ true → Parts c
unfolding chip_whole
parts c e =
    let now = c.clock.cycles in
    let k = clock_whole c.clock in
    let p = both (k && timers_whole c now && wires_whole c && front_whole c now) (leb c.clock.next_due (next_event c)) e in
    let q = both (k && timers_whole c now && wires_whole c) (front_whole c now) p.0 in
    let r = both (k && timers_whole c now) (wires_whole c) q.0 in
    let s = both k (timers_whole c now) r.0 in
    record { clock = s.0; timers = s.1; wires = r.1; front = q.1; due = leb-true c.clock.next_due (next_event c) p.1 }

-- the uncredited time is within `led_last`
pub pend-past : (c : Chip) → chip_whole c ≡ true → c.pins.led_pend ≤ c.pins.led_last
unfolding front_whole
pend-past c e =
    let now = c.clock.cycles in
    let s = script_whole c.script in
    let w = pins_whole c.pins now in
    let p = both (s && w && encs_whole c.enc) (keys_whole c.keys) (parts c e).front in
    let q = both (s && w) (encs_whole c.enc) p.0 in
    let r = both s w q.0 in
    let t = both (leb c.pins.led_last now && leb c.pins.led_since now) (leb c.pins.led_pend c.pins.led_last) r.1 in
    leb-true c.pins.led_pend c.pins.led_last t.1
