use Rattle.panel.specs.Pins.{pa_written}
use Rattle.panel.proofs.pins.Pins.pa_write.Goals as goal

pub returns : goal.returns
unfolding pa_written
returns c = rw (c.latched_by.ensures, c.shifted_in.ensures)
