use native.Mathlib.Omega.{arith}
use Rattle.records.proofs.Numbers.{le_join}
use Rattle.records.proofs.byte_and.Goals as goal

pub returns : goal.returns
returns c = λ k. le_join 1 k c.args.first c.args.second (omega arith)
