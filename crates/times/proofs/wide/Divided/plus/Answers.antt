use Rattle.std.proofs.Common.{refl, arith}
use Rattle.times.proofs.Quotients.{plus-within, plus-carried}
use Rattle.times.proofs.wide.Divided.plus.Goals as goal

pub returns-then-self-gap : goal.returns-then-self-gap
returns-then-self-gap c n m e f =
    let a = c.args in
    plus-within n m a.c a.self a.other e f _ refl (omega arith)

pub returns : goal.returns
returns c n m e f =
    let a = c.args in
    plus-carried n m a.c a.self a.other e f _ refl (omega arith) (omega arith) (omega arith)
