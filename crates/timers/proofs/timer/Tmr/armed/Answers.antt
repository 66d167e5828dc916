use Rattle.timers.specs.Timer.{tmr_per_count, tmr_armed}
use Rattle.std.proofs.Common.{eq-eqb, ne_eqb}
use Rattle.timers.proofs.timer.Tmr.armed.Goals as goal

pub returns-then-self-eq0 : goal.returns-then-self-eq0
unfolding tmr_armed
returns-then-self-eq0 c = rw (eq-eqb _ _ c.if-self-eq0.true)

pub returns-then-self-eq0-2 : goal.returns-then-self-eq0-2
unfolding tmr_armed
returns-then-self-eq0-2 c = rw (ne_eqb _ _ c.if-self-eq0.false, eq-eqb _ _ c.if-self-eq0-2.true)

pub returns : goal.returns
unfolding tmr_armed tmr_per_count
returns c = rw (c.cycles_of.ensures.result_value, c.left.ensures, ne_eqb _ _ c.if-self-eq0.false, ne_eqb _ _ c.if-self-eq0-2.false)
