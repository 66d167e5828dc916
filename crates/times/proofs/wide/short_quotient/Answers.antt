use Rattle.times.proofs.Quotients.{by_parts}
use Rattle.std.proofs.Common.{arith}
use Rattle.times.proofs.wide.short_quotient.Goals as goal

pub returns : goal.returns
returns c =
    let a = c.args.a in
    let b = c.args.b in
    let n = c.args.c in
    rw (by_parts a b n c.requires.0) (omega arith)
