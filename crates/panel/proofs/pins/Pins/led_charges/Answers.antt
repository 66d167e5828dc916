use Rattle.panel.specs.Pins.{charges}
use Rattle.panel.proofs.pins.Pins.led_charges.Goals as goal

pub returns : goal.returns
unfolding charges
returns c = rw (c.changes.ensures, c.lines-lines.ensures)
