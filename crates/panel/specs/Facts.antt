-- The pins' and the LEDs' share of a whole record as facts.
use Rattle.std.specs.Prelude.{ℕ, ◌+◌, ◌<◌, ◌≤◌, List, slice_index}
use Rattle.panel.specs.declared.pins.Pins.{Pins}

-- "every past moment is at most the clock"
pub record PinsOk (p : Pins) (now : ℕ) : Type 0 where
  pub last : p.led_last ≤ now
  pub since : p.led_since ≤ now
  pub pend : p.led_pend ≤ p.led_last

-- "each LED's time plus the uncredited time is at most `led_last`"
abbrev pub LightOk : Pins → List ℕ → Type 0
LightOk p acc = (i : ℕ) → i < 41 → slice_index acc i + p.led_pend ≤ p.led_last
