use Rattle.pressure.specs.Value.{mant}
use Rattle.pressure.proofs.pill.mant_at.Goals as goal

pub returns : goal.returns
unfolding mant
returns c = c.wide.ensures
