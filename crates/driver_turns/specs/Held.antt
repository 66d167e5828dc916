-- A step under way, as `step` has it, on a chip and a panel that are held apart.
use Rattle.std.specs.Prelude.{ℕ, Bool, true, false, ◌≡◌, None}
use Rattle.state.specs.declared.Chip.{Chip}
use Rattle.state.specs.declared.Panel.{Panel}
use Rattle.step.specs.Apply.{board_of}
use Rattle.step.specs.Step.{Ready}
use Rattle.step.specs.declared.Going.{Going}

-- what its stages found due is put in apart
abbrev pub going_by : Chip → Panel → ℕ → ℕ → Bool → Going
going_by c p written applied on = record {
  board = board_of c p;
  audio_half = None;
  uart_rx = None;
  written = written;
  place = c.script.place;
  applied = applied;
  refused = 0;
  usb_frame = false;
  wdt = false;
  on = on;
  served = true;
}

-- while it goes on, a turn can be made
abbrev pub Goes : ℕ → ℕ → Going → Type 0
Goes queue out g = g.on ≡ true → Ready g queue out
