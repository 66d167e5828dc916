use Rattle.state.proofs.Held.{typed}
use Rattle.board_guard.proofs.Known.{known}
use Rattle.board_runner.proofs.tick_room.Goals as goal

pub tick_room-requires : goal.tick_room-requires
tick_room-requires c = (known c.args.b (typed c.args.b _ c.well_formed.0) _ c.broken.ensures c.if-broken.false).sound.chip.clock.cycles
