use Rattle.std.proofs.Common.{eq-eqb, ne_eqb}
use Rattle.timers.specs.OsTick.{tick_cnt_written}
use Rattle.timers.proofs.os_tick.Tick.write_cnt.Goals as goal

pub returns-then-self-eq-NEVER : goal.returns-then-self-eq-NEVER
unfolding tick_cnt_written
returns-then-self-eq-NEVER c = rw (eq-eqb _ _ c.if-self-eq-NEVER.true)

pub returns : goal.returns
unfolding tick_cnt_written
returns c = rw (c.tick_period.ensures.result_value, ne_eqb _ _ c.if-self-eq-NEVER.false)
