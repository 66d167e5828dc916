use Rattle.std.proofs.Common.{arith}
use Rattle.state.proofs.Held.{typed}
use Rattle.board_guard.proofs.Known.{known}
use Rattle.board_runner.proofs.cycle_of_ms.Goals as goal

pub cycle_of_ms-requires : goal.cycle_of_ms-requires
cycle_of_ms-requires c = (omega arith, (known c.args.b (typed c.args.b _ c.well_formed.0) _ c.broken.ensures c.if-broken.false).sound.chip.clock.high)
