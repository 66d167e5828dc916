use Rattle.panel.specs.Led.{taken_of, lit_of}
use Rattle.panel.proofs.led.led_take.Goals as goal

pub returns : goal.returns
unfolding taken_of lit_of
returns c = rw (c.max.ensures, c.led_taken-q.ensures, c.flush.ensures, c.led_credit-p.ensures, c.credit.ensures)
