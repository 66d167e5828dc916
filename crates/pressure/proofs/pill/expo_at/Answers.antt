use Rattle.pressure.specs.Value.{expo}
use Rattle.pressure.proofs.pill.expo_at.Goals as goal

pub returns : goal.returns
unfolding expo
returns c = c.wide.ensures
