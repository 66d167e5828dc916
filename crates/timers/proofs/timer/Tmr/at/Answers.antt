use Rattle.std.proofs.Common.{le-ltb, lt-ltb}
use Rattle.timers.specs.Timer.{tmr_at}
use Rattle.timers.proofs.timer.Tmr.at.Goals as goal

pub returns-then-now-self : goal.returns-then-now-self
unfolding tmr_at
returns-then-now-self c = rw (lt-ltb _ _ c.if-now-self.true)

pub returns : goal.returns
unfolding tmr_at
returns c = rw (c.rearmed.ensures, c.period-period.ensures.result_value, le-ltb _ _ c.if-now-self.false)
