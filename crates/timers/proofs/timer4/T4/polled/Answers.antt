use Rattle.timers.specs.Timer4.{poll_of}
use Rattle.timers.proofs.timer4.T4.polled.Goals as goal

pub returns : goal.returns
unfolding poll_of
returns c = rw (c.poll_end-end.ensures, c.streak.ensures)
