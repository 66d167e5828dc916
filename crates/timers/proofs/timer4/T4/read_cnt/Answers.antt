use Rattle.std.proofs.Common.{eq-eqb, ne_eqb}
use Rattle.timers.specs.Timer4.{t4_cnt}
use Rattle.timers.proofs.timer4.T4.read_cnt.Goals as goal

pub returns-then-self-eq0 : goal.returns-then-self-eq0
unfolding t4_cnt
returns-then-self-eq0 c = rw (eq-eqb _ _ c.if-self-eq0.true)

pub returns : goal.returns
unfolding t4_cnt
returns c = rw (c.mhz24_of_cycles.ensures, ne_eqb _ _ c.if-self-eq0.false)
