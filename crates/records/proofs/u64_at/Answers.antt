use Rattle.std.proofs.Common.{◌+◌, arith}
use Rattle.records.specs.Le.{unle}
use Rattle.records.proofs.Numbers.{number-next}
use Rattle.records.proofs.u64_at.Goals as goal

pub returns : goal.returns
unfolding unle
returns c =
    let a = c.args in
    omega (
      arith,
      c.from_le_bytes.ensures,
      number-next a.i (a.i + 1) 7 a.s.now (omega arith) (omega arith),
      number-next (a.i + 1) (a.i + 2) 6 a.s.now (omega arith) (omega arith),
      number-next (a.i + 2) (a.i + 3) 5 a.s.now (omega arith) (omega arith),
      number-next (a.i + 3) (a.i + 4) 4 a.s.now (omega arith) (omega arith),
      number-next (a.i + 4) (a.i + 5) 3 a.s.now (omega arith) (omega arith),
      number-next (a.i + 5) (a.i + 6) 2 a.s.now (omega arith) (omega arith),
      number-next (a.i + 6) (a.i + 7) 1 a.s.now (omega arith) (omega arith),
      number-next (a.i + 7) (a.i + 8) 0 a.s.now (omega arith) (omega arith),
    )
