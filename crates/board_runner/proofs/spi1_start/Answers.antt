use Rattle.std.proofs.Common.{arith}
use Rattle.state.proofs.Held.{typed}
use Rattle.board_guard.proofs.Known.{known}
use Rattle.board_runner.proofs.spi1_start.Goals as goal

pub spi1_start-requires : goal.spi1_start-requires
spi1_start-requires c = (omega arith, omega arith, (known c.args.b (typed c.args.b _ c.well_formed.0) _ c.broken.ensures c.if-broken.false).sound.chip.clock.cycles, omega arith)
