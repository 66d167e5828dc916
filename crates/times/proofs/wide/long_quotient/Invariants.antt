use Rattle.std.proofs.Common.{◌≡◌, ◌*◌, ◌/◌, ◌-◌, ◌^◌}
use Rattle.times.specs.Wide.{divided}
use Rattle.times.proofs.wide.long_quotient.Given as goal

abbrev pub invariant-loop-k : goal.invariant-loop-k
invariant-loop-k l = l.sum ≡ divided (l.a * (l.b / 2 ^ (64 - l.k))) l.c
