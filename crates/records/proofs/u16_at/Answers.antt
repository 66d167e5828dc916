use Rattle.std.proofs.Common.{◌+◌, arith}
use Rattle.records.specs.Le.{unle}
use Rattle.records.proofs.Numbers.{number-next}
use Rattle.records.proofs.u16_at.Goals as goal

pub returns : goal.returns
unfolding unle
returns c =
    let a = c.args in
    omega (
      arith,
      c.from_le_bytes.ensures,
      number-next a.i (a.i + 1) 1 a.s.now (omega arith) (omega arith),
      number-next (a.i + 1) (a.i + 2) 0 a.s.now (omega arith) (omega arith),
    )
