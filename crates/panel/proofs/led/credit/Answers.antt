use Rattle.std.proofs.Common.{sym}
use Rattle.panel.specs.Led.{credited_times}
use Rattle.panel.proofs.led.credit.Goals as goal

pub returns-then-led_charges : goal.returns-then-led_charges
unfolding credited_times
returns-then-led_charges c = rw (sym c.led_charges.ensures, c.if-led_charges.true) c.charge.ensures

pub returns-else-led_charges : goal.returns-else-led_charges
unfolding credited_times
returns-else-led_charges c = rw (sym c.led_charges.ensures, c.if-led_charges.false)
