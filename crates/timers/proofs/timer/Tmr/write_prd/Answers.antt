use Rattle.timers.specs.Timer.{tmr_prd_written}
use Rattle.timers.proofs.timer.Tmr.write_prd.Goals as goal

pub returns : goal.returns
unfolding tmr_prd_written
returns c = rw c.armed.ensures
