use Rattle.std.proofs.Common.{◌≡◌}
use Rattle.calls_port.specs.Ports.{sum_of}
use Rattle.calls_port.proofs.sum.Given as goal

abbrev pub invariant-loop-b : goal.invariant-loop-b
invariant-loop-b l = l.h ≡ sum_of l.b-index l.regs
