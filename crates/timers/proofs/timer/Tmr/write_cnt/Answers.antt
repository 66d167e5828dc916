use Rattle.timers.specs.Timer.{tmr_cnt_written}
use Rattle.timers.proofs.timer.Tmr.write_cnt.Goals as goal

pub returns : goal.returns
unfolding tmr_cnt_written
returns c = rw c.armed.ensures
