use Rattle.std.proofs.Common.{le-ltb, lt-ltb}
use Rattle.timers.specs.Timer5.{t5_at}
use Rattle.timers.proofs.timer5.T5.at.Goals as goal

pub returns-then-now-self : goal.returns-then-now-self
unfolding t5_at
returns-then-now-self c = rw (lt-ltb _ _ c.if-now-self.true)

pub returns : goal.returns
unfolding t5_at
returns c = rw (c.rearmed.ensures, c.period-period.ensures.result_value, le-ltb _ _ c.if-now-self.false)
