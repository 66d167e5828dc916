use Rattle.asks_times.proofs.Forces.{pattern-from}
use Rattle.asks_times.proofs.force.force_of.Goals as goal

pub float_from_bits-result : goal.float_from_bits-result
float_from_bits-result c = pattern-from c.args.bits c.if-bits-le-ONE.true
