use Rattle.std.proofs.Common.{add-one, rules}
use Rattle.calls_port.specs.Ports.{sum_of}
use Rattle.calls_port.proofs.sum.Goals as goal

pub loop-b-init : goal.loop-b-init
unfolding sum_of
loop-b-init c = search rules

pub loop-b-preserved : goal.loop-b-preserved
unfolding sum_of
loop-b-preserved c = rw (add-one, c.loop-b.invariant) (search rules)
