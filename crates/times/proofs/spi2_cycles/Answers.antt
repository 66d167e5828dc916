use Rattle.times.proofs.Quotients.{sixteenths}
use Rattle.std.proofs.Common.{ℕ, ◌+◌, max, ap}
use Rattle.times.proofs.spi2_cycles.Goals as goal

pub returns-clause-result_value : goal.returns-clause-result_value
returns-clause-result_value c =
    rw (c.max-2.ensures, c.product.ensures, c.max.ensures)
    (ap (λ (q : ℕ). max q 1) (sixteenths (max c.args.bytes 1) (c.args.baud + 1) c.args.hz))
