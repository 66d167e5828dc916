use Rattle.std.proofs.Common.{eq-eqb, ne_eqb}
use Rattle.panel.specs.Led.{flushed_times}
use Rattle.panel.proofs.led.flush.Goals as goal

pub returns-then-pins-eq0 : goal.returns-then-pins-eq0
unfolding flushed_times
returns-then-pins-eq0 c = rw (eq-eqb _ _ c.if-pins-eq0.true)

pub returns : goal.returns
unfolding flushed_times
returns c = rw (ne_eqb _ _ c.if-pins-eq0.false) c.charge.ensures
