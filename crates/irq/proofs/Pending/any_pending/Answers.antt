use Rattle.irq.specs.Sources.{any_pending_of}
use mathlib.Core.Bool.{or_assoc}
use Rattle.irq.proofs.Pending.any_pending.Goals as goal

pub returns : goal.returns
unfolding any_pending_of
returns c = simp or_assoc
