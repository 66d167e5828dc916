use Rattle.std.proofs.Common.{◌≡◌}
use Rattle.adc.specs.Adc.{least_to}
use Rattle.adc.proofs.row_least.Given as goal

abbrev pub invariant-loop-col : goal.invariant-loop-col
invariant-loop-col l = l.v ≡ least_to l.map l.ramps l.latched l.row l.now l.ohms l.col
