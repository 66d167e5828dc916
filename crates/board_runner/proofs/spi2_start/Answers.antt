use Rattle.std.proofs.Common.{arith}
use Rattle.state.proofs.Held.{typed}
use Rattle.board_guard.proofs.Known.{known}
use Rattle.board_runner.proofs.spi2_start.Goals as goal

pub spi2_start-requires : goal.spi2_start-requires
spi2_start-requires c = (omega arith, omega arith, (known c.args.b (typed c.args.b _ c.well_formed.0) _ c.broken.ensures c.if-broken.false).sound.chip.clock.cycles)
