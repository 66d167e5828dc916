use Rattle.pressure.specs.Force.{turned_of}
use Rattle.pressure.proofs.ramp.Ramp.turned.Goals as goal

pub returns : goal.returns
unfolding turned_of
returns c =
    record {
      value = rw c.at-from.ensures.value;
      forced = c.at-from.ensures.forced;
    }
