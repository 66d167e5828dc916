use Rattle.adc.specs.Adc.{pin_reads}
use mathlib.Core.Path.{sym}
use Rattle.adc.proofs.row_reads.Goals as goal

pub returns-in-Low : goal.returns-in-Low
unfolding pin_reads
returns-in-Low c = rw (sym c.pin_at.ensures.value, c.in-Low.is)

pub returns-in-Through : goal.returns-in-Through
unfolding pin_reads
returns-in-Through c = rw (sym c.pin_at.ensures.value, c.in-Through.is, c.sample.ensures.value, c.next_noise-moved.ensures, c.row_least-least.ensures)

pub returns-in-Floating : goal.returns-in-Floating
unfolding pin_reads
returns-in-Floating c = rw (sym c.pin_at.ensures.value, c.in-Floating.is)
