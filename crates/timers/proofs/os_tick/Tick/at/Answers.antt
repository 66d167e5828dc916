use Rattle.std.proofs.Common.{le-ltb, lt-ltb}
use Rattle.timers.specs.OsTick.{tick_at}
use Rattle.timers.proofs.os_tick.Tick.at.Goals as goal

pub returns-then-now-self : goal.returns-then-now-self
unfolding tick_at
returns-then-now-self c = rw (lt-ltb _ _ c.if-now-self.true)

pub returns : goal.returns
unfolding tick_at
returns c = rw (c.rearmed.ensures, c.tick_period.ensures.result_value, le-ltb _ _ c.if-now-self.false)
