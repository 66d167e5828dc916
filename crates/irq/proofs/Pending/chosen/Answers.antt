use Rattle.irq.specs.Choice.{walked, chosen_of}
use Rattle.irq.proofs.Pending.chosen.Goals as goal

pub returns : goal.returns
unfolding chosen_of walked
returns c = cc
