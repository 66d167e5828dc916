use Rattle.pressure.proofs.Range.{scaled-max}
use Rattle.pressure.specs.Value.{scaled}
use Rattle.std.proofs.Common.{◌≤◌, mul-le-mul, arith}
use Rattle.pressure.proofs.pill.cube.Goals as goal

pub overflow_mul-result-2 : goal.overflow_mul-result-2
overflow_mul-result-2 c =
    let small : scaled c.args.b ≤ 2097152 = scaled-max c.args.b c.requires.0 c.requires.1 in
    omega (arith, mul-le-mul (mul-le-mul small small) small)
