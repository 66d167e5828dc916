use Rattle.state.proofs.Held.{typed}
use Rattle.board_guard.proofs.Known.{known}
use Rattle.board_runner.proofs.ms.Goals as goal

pub ms-requires : goal.ms-requires
ms-requires c = (known c.args.b (typed c.args.b _ c.well_formed.0) _ c.broken.ensures c.if-broken.false).sound.chip.clock.cycles
